-- `put_records`: the room has the records taken so far.
use mathlib.Core.Path.{refl, ◌∙◌, ap}
use Rattle.std.specs.Prelude.{Ok}
use Rattle.bits.specs.Bits.{bits_of}
use Rattle.table_records.proofs.Steps.{begins, steps_nearer, one_more, passes}
use Rattle.table_reader.specs.Listing.{with_records}
use borrow.Author.Rules.{rules}
use native.Mathlib.Omega.{arith}
use Rattle.table_reader.proofs.put_records.Goals as goal

pub loop-record-init : goal.loop-record-init
unfolding with_records
loop-record-init c =
    let r = c.args.records in
    (refl, refl, refl, rw (begins r.header (bits_of r.file.now) c.requires.0))

pub put_entry-requires : goal.put_entry-requires
put_entry-requires c =
    let next = c.next.ensures in
    let l = c.loop-record in
    let on = passes _ _ _ _ _ next.steps _ (c.in-Ok-Some.is ∙ ap Ok c.in-Ok-Some.field-0-is)
    (rw (next.same.0, next.same.1) at c.next.new.self.walked) in
    let node = on.0.sound.target in
    let h = l.invariant.1 in
    (omega (arith, node.0, c.from.ensures), omega (arith, node.1, c.from.ensures, rw h at node.1, l.invariant.2, c.requires.1))

pub loop-record-smaller : goal.loop-record-smaller
loop-record-smaller c =
    let next = c.next.ensures in
    steps_nearer c.loop-record.records c.next.new.self next.same _ next.steps _ (c.in-Ok-Some.is ∙ ap Ok c.in-Ok-Some.field-0-is)

pub loop-record-preserved : goal.loop-record-preserved
unfolding with_records
loop-record-preserved c =
    let next = c.next.ensures in
    let l = c.loop-record in
    let more = one_more _ _ _ _ _ next.steps _ (c.in-Ok-Some.is ∙ ap Ok c.in-Ok-Some.field-0-is) in
    let put = c.put_entry.ensures ∙ rw (c.from.ensures, c.from-in-Ok-Some.ensures) in (
      next.same.0 ∙ l.invariant.0,
      next.same.1 ∙ l.invariant.1,
      search rules,
      rw (next.same.0, next.same.1, more, ← l.invariant.3) put,
    )
