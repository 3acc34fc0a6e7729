-- `push_records`: a turn adds one record's bits.
use mathlib.Core.Path.{◌≡◌, refl, ◌∙◌, ap, subst}
use Prim.Native.Nat.{◌-◌}
use lib.ListN.{get_or, take}
use lib.Seq.{take_all}
use borrow.Author.Rules.{rules}
use native.Mathlib.Omega.{arith}
use Rattle.bits.specs.Bits.{as_bits}
use Rattle.method.specs.Meant.{filled}
use Rattle.method.specs.Entries.{last_distance}
use Rattle.table.specs.File.{one, record_bits}
use Rattle.table_writer.specs.Lent.{newest_first}
use Rattle.table_writer.specs.Code.{three_fields, records_bits}
use Rattle.table_writer.specs.Adds.{Adds}
use Rattle.table_writer.proofs.Writing.{record_joined, newest_more, adds_none, adds_then}
use Rattle.table_writer.proofs.Begun.push_records.Goals as goal

pub loop-record-init : goal.loop-record-init
unfolding records_bits
loop-record-init c = (refl, omega arith, refl, adds_none c.args.room.now c.args.self.now)

pub loop-record-preserved : goal.loop-record-preserved
unfolding records_bits
loop-record-preserved c =
    let l = c.loop-record in
    let rs = c.args.records.now in
    let es = newest_first (take l.record-index rs) in
    let record_is = filled (get_or rs l.record-index (record { target = 0; distance = 0; hop = 0 })) in
    let more = newest_more rs l.record-index (record { target = 0; distance = 0; hop = 0 }) c.loop-record-test.true in
    let number : c.join.result ≡ three_fields (record_is.target - 1) (record_is.hop - 1) (record_is.distance - last_distance es) =
    c.join.ensures.0 ∙ rw (
      c.from.ensures,
      c.from-in-loop-record.ensures,
      c.from-in-loop-record-2.ensures,
      c.saturating_sub-target.ensures,
      c.saturating_sub-hop.ensures,
      c.saturating_sub-difference.ensures,
      l.invariant.2,
    ) in
    let bits : as_bits 13 c.join.result ≡ record_bits one (last_distance es) record_is = ap (as_bits 13) number
    ∙ record_joined (last_distance es) record_is in
    let step : Adds l.room l.self c.push.new.room c.push.new.self (record_bits one (last_distance es) record_is) =
    subst (Adds l.room l.self c.push.new.room c.push.new.self) bits c.push.ensures.bits in (
      search rules,
      omega (arith, c.push.ensures.moved, l.invariant.1),
      rw more,
      rw more (adds_then c.args.room.now l.room c.push.new.room c.args.self.now l.self c.push.new.self _ _ l.invariant.3 step),
    )

pub returns-clause-bits : goal.returns-clause-bits
returns-clause-bits c =
    let l = c.loop-record in
    rw (take_all l.record-index c.args.records.now (omega arith)) at l.invariant.3
