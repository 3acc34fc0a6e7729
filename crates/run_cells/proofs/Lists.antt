-- The lists and rows that a part means: how long the lists are, each message of them, and each number of a row.
use mathlib.Core.Path.{◌≡◌, refl, ap}
use mathlib.Core.Bool.{Bool, cond}
use Prim.Native.Nat.{ℕ, zero, suc, ◌+◌, ◌-◌, ◌≤◌, ◌<◌}
use native.Mathlib.Omega.{arith}
use lib.ListN.{length, get_or, drop}
use borrow.Author.Tests.{lt-ltb}
use Rattle.method.specs.Message.{end, oldest, sent_after}
use Rattle.run_cells.specs.Part.{Part, table_size, messages_at, msg_of, sent_from, table_from, row}

pub sent_length : (f : Part) (k : ℕ) → length (sent_from f k) ≡ k
sent_length f zero = refl
sent_length f (suc k) = ap suc (sent_length f k)

pub table_length : (f : Part) (k : ℕ) → length (table_from f k) ≡ k
table_length f zero = refl
table_length f (suc k) = ap suc (table_length f k)

message_at : (f : Part) (d k t : ℕ) → k ≡ suc t + d → get_or (sent_from f k) d end ≡ msg_of (sent_from f t) (f (messages_at + t))
message_at f d zero t e = absurd (omega arith)
message_at f zero (suc k) t e = let q : k ≡ t = omega arith in rw q
message_at f (suc d) (suc k) t e = message_at f d k t (omega arith)

-- the message sent after t others
pub sent_after_lem : (f : Part) (k t : ℕ) → t < k → sent_after t (sent_from f k) ≡ msg_of (sent_from f t) (f (messages_at + t))
unfolding sent_after
sent_after_lem f k t lt = rw (sent_length f k) (message_at f (k - suc t) k t (omega arith))

-- the t oldest are the first t
dropped : (f : Part) (d k t : ℕ) → k ≡ t + d → drop d (sent_from f k) ≡ sent_from f t
dropped f zero k t e = let q : k ≡ t = omega arith in ap (sent_from f) q
dropped f (suc d) zero t e = absurd (omega arith)
dropped f (suc d) (suc k) t e = dropped f d k t (omega arith)

pub sent_oldest : (f : Part) (k t : ℕ) → t ≤ k → oldest t (sent_from f k) ≡ sent_from f t
unfolding oldest
sent_oldest f k t le = rw (sent_length f k) (dropped f (k - t) k t (omega arith))

pub row_at : (f : Part) (base h : ℕ) → h < table_size → row f base h ≡ f (base + h)
row_at f base h lt = ap (λ (b : Bool). cond b (f (base + h)) 0) (lt-ltb h table_size lt)
