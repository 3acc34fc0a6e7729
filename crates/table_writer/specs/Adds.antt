-- What a step of the writer stores.
use Rattle.std.specs.Prelude.{ℕ, ◌+◌, ◌*◌, List, ◌++◌}
use Rattle.table_writer.specs.Code.{Pending}
use Rattle.table_writer.specs.declared.Begun.{Begun}

-- at which bit of the file the writer is
abbrev pub place : Begun → ℕ
place begun = 8 * begun.at + begun.count

-- the bits G are added to those that stand in the room and are held
abbrev pub Adds : List ℕ → Begun → List ℕ → Begun → List ℕ → Type 0
Adds room begun room' begun' G =
    (before F : List ℕ) → Pending before room begun.at begun.count begun.held F
    → Pending before room' begun'.at begun'.count begun'.held (F ++ G)
