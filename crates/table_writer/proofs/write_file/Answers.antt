-- `write_file`: refused before the first store; else header, records and end, one after the other.
use mathlib.Core.Path.{◌≡◌, sym, ◌∙◌, ap, ap₂}
use mathlib.Core.List.{[], ◌++◌}
use Prim.Native.Nat.{ℕ, ◌+◌, ◌*◌}
use lib.ListN.{length}
use borrow.Author.Tests.{lt-ltb, le-ltb}
use native.Mathlib.Omega.{arith}
use Rattle.std.specs.Prelude.{Ok, Err}
use Rattle.bits.specs.Bits.{as_bits, bits_of, Bytes}
use Rattle.table.specs.File.{one, header_bits, file_of, start_of, end_bits, body_bits}
use Rattle.table.specs.Size.{bytes_for}
use Rattle.table.proofs.Sizes.{length_file}
use Rattle.table_writer.specs.Lent.{newest_first}
use Rattle.table_writer.specs.Code.{three_fields, records_bits}
use Rattle.table_writer.specs.Adds.{place}
use Rattle.table_writer.proofs.Pended.{pending_start, pending_as}
use Rattle.table_writer.proofs.Writing.{header_joined, length_newest, body_parts, file_stands}
use Rattle.table_writer.proofs.write_file.Goals as goal

pub returns-then-room-size : goal.returns-then-room-size
returns-then-room-size c =
    let a = c.args in
    let es = newest_first a.records.now in
    let size : length (file_of one a.header es a.stopped) ≡ c.size_of-size.result = length_file one a.header es a.stopped
    ∙ ap (λ (n : ℕ). bytes_for a.stopped (16 + 13 * n)) (length_newest a.records.now) ∙ sym c.size_of-size.ensures in
    let short = lt-ltb (length a.room.now) (length (file_of one a.header es a.stopped)) (omega (arith, size)) in
    (ap Err c.into.ensures ∙ simp short, simp short)

pub returns : goal.returns
unfolding bits_of
returns c =
    let a = c.args in
    let h = a.header in
    let es = newest_first a.records.now in
    let size : length (file_of one h es a.stopped) ≡ c.size_of-size.result = length_file one h es a.stopped
    ∙ ap (λ (n : ℕ). bytes_for a.stopped (16 + 13 * n)) (length_newest a.records.now) ∙ sym c.size_of-size.ensures in
    let fits = le-ltb (length a.room.now) (length (file_of one h es a.stopped)) (omega (arith, size)) in
    let v = c.join-numbers.result in
    let header : as_bits 16 v ≡ header_bits one h = ap (as_bits 16) (c.join-numbers.ensures.0
    ∙ ap₂ (λ (x y : ℕ). three_fields x y h.lmax) c.saturating_sub.ensures c.saturating_sub-2.ensures) ∙ header_joined h in
    let stored = c.push_end.ensures.bits _ _ (c.push_records.ensures.bits _ _ (c.push.ensures.bits _ [] (pending_start a.room.now 0))) in
    let p : ℕ = start_of one (length es) in
    let at : place c.push_records.new.self ≡ p =
    omega (arith, c.push.ensures.moved, c.push_records.ensures.moved, length_newest a.records.now) in
    let moved = rw at at c.push_end.ensures.moved in
    let end = c.push_end.new.self in
    let bits : ((as_bits 16 v ++ records_bits one es) ++ end_bits a.stopped (place c.push_records.new.self))
    ≡ body_bits one h es ++ end_bits a.stopped p =
    rw (at, header, body_parts one h es) in
    let by : Bytes c.push_end.new.room = record { each = λ i. omega (arith, c.type_inv.room i) } in (
      simp fits (ap Ok (sym size)),
      simp fits
          (file_stands a.room.now c.push_end.new.room end.held h es a.stopped by (omega arith)
          (omega (arith, size, length_file one h es a.stopped))
          (pending_as (bytes_for a.stopped p) 0 _ stored (omega (arith, moved, end.small)) (omega (arith, moved, end.small)) bits)),
    )
