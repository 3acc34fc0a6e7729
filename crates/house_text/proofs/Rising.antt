-- Texts in rising order: how long they are, and writing one more.
use mathlib.Core.Path.{◌≡◌, refl, ap}
use mathlib.Core.Logic.{⊎_elim}
use mathlib.Core.List.{List, ◌++◌}
use Prim.Native.Nat.{ℕ, zero, suc, ◌+◌, ◌-◌, ◌*◌, ◌≤◌}
use native.Mathlib.Nat.{eq-or-lt_of_le}
use native.Mathlib.Omega.{arith}
use lib.ListN.{length, length-append}
use Rattle.house_words.specs.declared.Text.{Text}
use Rattle.house_words.specs.Texts.{Fits, Appends}
use Rattle.house_words.proofs.Texts.{fits_after, appends_both}
use Rattle.house_text.specs.Lines.{rising}

module _ (text : ℕ → List ℕ) where
  length_more : (k : ℕ) → length (rising text (suc k)) ≡ length (rising text k) + length (text (suc k))
  length_more k = length-append (rising text k) (text (suc k))

  grows : (k n : ℕ) → k ≤ n → length (rising text k) ≤ length (rising text n)
  grows k zero h = let e : k ≡ 0 = omega arith in omega (arith, ap (λ (j : ℕ). length (rising text j)) e)
  grows k (suc n) h =
      ⊎_elim
      (λ e. omega (arith, ap (λ (j : ℕ). length (rising text j)) e))
      (λ l. omega (arith, length_more n, grows k n (omega arith)))
      (eq-or-lt_of_le h)

  -- each at most b long
  pub rising_short : (b n : ℕ) → ((k : ℕ) → k ≤ n → length (text k) ≤ b) → length (rising text n) ≤ n * b
  rising_short b zero h = omega arith
  rising_short b (suc n) h = omega (arith, length_more n, h (suc n) (omega arith), rising_short b n (λ k l. h k (omega arith)))

-- the texts before text t stand
module _ (text : ℕ → List ℕ) (t : ℕ) (first : 1 ≤ t) {old mid : Text} (w : Appends old (rising text (t - 1)) mid) where
  more : rising text (t - 1) ++ text t ≡ rising text t
  more = go t first
    where
      go : (t : ℕ) → 1 ≤ t → rising text (t - 1) ++ text t ≡ rising text t
      go zero h = elim h [ ]
      go (suc k) h = let e : suc k - 1 ≡ k = omega arith in rw e refl

  -- where the texts of 1 to n have room, text t has
  pub next_fits : (n : ℕ) → t ≤ n → Fits old (rising text n) → Fits mid (text t)
  next_fits n h r = fits_after w (rw more (record { fits = omega (arith, grows text t n h) }))

  pub one_more_lem : {new : Text} (m : ℕ) → m ≡ t → Appends mid (text t) new → Appends old (rising text m) new
  one_more_lem m e v = rw (e, ← more) (appends_both w v)
