-- The block of the entries that satisfy a test, as a function of the ledger: one more entry is a delivery, and a later clock is an advance.
-- Rests on which interval the half of a parity serves.
use Rattle.std.specs.Prelude.{Bool, true, cond, ◌≡◌, List, ◌∷◌}
use Rattle.std.proofs.Math.Path.{refl, ap₂}
use Rattle.std.proofs.Common.{sym, ap, ◌∙◌, ⊎_elim, arith}
use Prim.Native.Nat.{ℕ, zero, suc, ◌+◌, ◌%◌, ◌≤◌, ◌<◌}
use Rattle.shape.specs.declared.Shape.{Shape}
use Rattle.model.specs.Block.{Half, interval, offset_of, half_of, empty_half, empties, advance, deliver, deliver_half}
use Rattle.model.specs.Ledger.{Entry, of_interval}
use Rattle.model.specs.Claim.{Each}
use Rattle.ledger.specs.Time.{interval_mono}
use Rattle.ledger.specs.Grown.{half_for, half_for-none, half_for-more, half_for_other}
use Rattle.ledger.specs.Served.{served, served-parity}
use Rattle.ledger.specs.Book.{half_at, block_for, half_of_block_for, of_interval_own, of_interval_elsewhere, of_interval-ahead}
use Rattle.ledger.proofs.ServedLaws.{served_near, served-clock}

-- the half that serves the clock's interval, or the interval before
pub half_of_served : (s : Shape) (clock : ℕ) (es : List Entry) (p : Entry → Bool) (j : ℕ) → j ≤ interval s clock → interval s clock ≤ j + 1
    → half_of j (block_for s clock es p) ≡ half_for s (of_interval s p j) es
half_of_served s clock es p j low high =
    half_of_block_for s clock es p j ∙ ap (λ (i : ℕ). half_for s (of_interval s p i) es) (served_near (interval s clock) j low high)

-- ---- clock

module _ (s : Shape) (old new : ℕ) (es : List Entry) (p : Entry → Bool) (up : old ≤ new) (past : Each (λ e. e.stamp ≤ old) es) where
  half_at-clock : (parity : ℕ) → parity < 2
      → half_at s new es p parity ≡ cond (empties (interval s old) (interval s new) parity) (empty_half s) (half_at s old es p parity)
  half_at-clock parity two =
      ⊎_elim
      (λ h. rw h.0 (half_for-none s (of_interval s p (served (interval s new) parity)) es
      (of_interval-ahead s p (served (interval s new) parity) old es past h.1)))
      (λ h. rw h.0 (ap (λ (j : ℕ). half_for s (of_interval s p j) es) h.1))
      (served-clock (interval s old) (interval s new) parity (interval_mono s up) two)

  pub block_for-clock : block_for s new es p ≡ advance s old new (block_for s old es p)
  unfolding block_for advance
  block_for-clock = ap₂ (λ (e o : Half). record { even = e; odd = o }) (half_at-clock 0 (omega arith)) (half_at-clock 1 (omega arith))

-- ---- delivery

module _ (s : Shape) (clock : ℕ) (es : List Entry) (e : Entry) where
  -- otherwise it gets a delivery, if the half of the entry's parity serves its interval
  module _ (p : Entry → Bool) (takes : p e ≡ true) (serves : served (interval s clock) (interval s e.stamp % 2) ≡ interval s e.stamp) where
    own : (parity : ℕ) → interval s e.stamp % 2 ≡ parity
        → half_at s clock (e ∷ es) p parity ≡ deliver_half s (offset_of s e.stamp) e.volume (half_at s clock es p parity)
    own parity h = let j = served (interval s clock) parity in
        half_for-more s (of_interval s p j) e es
        (of_interval_own s p j e takes (sym serves ∙ ap (served (interval s clock)) h))

    other : (parity : ℕ) → parity < 2 → (interval s e.stamp % 2 ≡ parity → ⊥)
        → half_at s clock (e ∷ es) p parity ≡ half_at s clock es p parity
    other parity two h = let j = served (interval s clock) parity in
        half_for_other s (of_interval s p j) e es
        (of_interval_elsewhere s p j e (λ i. h (ap (λ (z : ℕ). z % 2) i ∙ served-parity (interval s clock) parity two)))

    pub block_for-more : block_for s clock (e ∷ es) p ≡ deliver s e.stamp e.volume (block_for s clock es p)
    unfolding block_for deliver
    block_for-more = go (interval s e.stamp % 2) refl (omega arith)
      where
        go : (r : ℕ) → interval s e.stamp % 2 ≡ r → r < 2
            → block_for s clock (e ∷ es) p ≡ deliver s e.stamp e.volume (block_for s clock es p)
        go zero h two = rw h (ap₂ (λ (x y : Half). record { even = x; odd = y }) (own 0 h) (other 1 (omega arith) (λ q. omega arith)))
        go (suc zero) h two = rw h (ap₂ (λ (x y : Half). record { even = x; odd = y }) (other 0 (omega arith) (λ q. omega arith)) (own 1 h))
        go (suc (suc r)) h two = absurd (omega arith)
