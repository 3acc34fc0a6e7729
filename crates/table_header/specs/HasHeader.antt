-- What the code makes of a table file's header.
use Rattle.std.specs.Prelude.{ℕ, ◌≤◌, ◌<◌, ◌≡◌, List, Result, Ok, Err}
use Rattle.bits.specs.Bits.{bits_of}
use Rattle.method.specs.Network.{IsNode}
use Rattle.refusal.specs.declared.Refusal.{Refusal}
use Rattle.refusal.specs.Rows
use Rattle.refusal.specs.Told.{told}
use Rattle.table.specs.File.{one}
use Rattle.table.specs.declared.Header.{Header}
use Rattle.table.specs.Reader.{header_at, header_rows}

-- the bytes s have a sound header that says h
pub record HasHeader (s : List ℕ) (h : Header) : Type 0 where
  pub sound : Rows.refused (header_rows one (header_at one (bits_of s)) s) ≡ 0
  pub same : header_at one (bits_of s) ≡ h
  pub own : IsNode h.n h.own
  pub small : (h.n ≤ 16) × (h.lmax < 16)

-- what its rows make of it: they tell the refusal, or none of them holds
abbrev pub Parses : List ℕ → Result Header Refusal → Type 0
Parses s (Ok h) = HasHeader s h
Parses s (Err r) = told r ≡ Rows.first (header_rows one (header_at one (bits_of s)) s)
