-- The block of the entries that satisfy a test, as a function of the ledger, and which entries lie in an interval. Assumes nothing.
use Rattle.std.specs.Prelude.{Bool, true, false, cond, ◌≡◌, List, [], ◌∷◌, eqb}
use Rattle.std.proofs.Math.Path.{refl, ap₂}
use Rattle.std.proofs.Common.{arith, eq-eqb, ne_eqb}
use Prim.Native.Nat.{ℕ, zero, suc, ◌%◌, ◌≤◌, ◌<◌}
use Rattle.shape.specs.declared.Shape.{Shape}
use Rattle.model.specs.Block.{Half, Block, interval, half_of}
use Rattle.model.specs.Ledger.{Entry, of_interval}
use Rattle.model.specs.Claim.{Each}
use Rattle.laws.specs.Cond.{and-false}
use Rattle.ledger.specs.Time.{interval_mono}
use Rattle.ledger.specs.Grown.{half_for, half_for_other}
use Rattle.ledger.specs.Served.{served}

-- the half of a parity at a clock, for the entries that satisfy a test
abbrev pub half_at : Shape → ℕ → List Entry → (Entry → Bool) → ℕ → Half
half_at s clock es p parity = half_for s (of_interval s p (served (interval s clock) parity)) es

unfoldable pub block_for : Shape → ℕ → List Entry → (Entry → Bool) → Block
block_for s clock es p = record { even = half_at s clock es p 0; odd = half_at s clock es p 1 }

-- a number is even or odd
by_parity : (j : ℕ) (P : ℕ → Type 0) → P 0 → P 1 → P (j % 2)
by_parity j P even odd = go (j % 2) (omega arith)
  where
    go : (r : ℕ) → r < 2 → P r
    go zero h = even
    go (suc zero) h = odd
    go (suc (suc r)) h = absurd (omega arith)

pub half_of_block_for : (s : Shape) (clock : ℕ) (es : List Entry) (p : Entry → Bool) (j : ℕ)
    → half_of j (block_for s clock es p) ≡ half_at s clock es p (j % 2)
unfolding block_for
half_of_block_for s clock es p j =
    by_parity j (λ r. cond (eqb r 0) (half_at s clock es p 0) (half_at s clock es p 1) ≡ half_at s clock es p r) refl refl

module _ (s : Shape) (p : Entry → Bool) (j : ℕ) where
  -- an entry of this interval that satisfies the test; one of another interval; one that does not satisfy it
  pub of_interval_own : (e : Entry) → p e ≡ true → interval s e.stamp ≡ j → of_interval s p j e ≡ true
  of_interval_own e g i = rw (g, eq-eqb (interval s e.stamp) j i)

  pub of_interval_elsewhere : (e : Entry) → (interval s e.stamp ≡ j → ⊥) → of_interval s p j e ≡ false
  of_interval_elsewhere e i = and-false (p e) (ne_eqb (interval s e.stamp) j i)

  of_interval_other : (e : Entry) → p e ≡ false → of_interval s p j e ≡ false
  of_interval_other e g = rw g

  -- no entry lies in an interval that the clock has not entered
  pub of_interval-ahead : (clock : ℕ) (es : List Entry) → Each (λ e. e.stamp ≤ clock) es → interval s clock < j
      → Each (λ e. of_interval s p j e ≡ false) es
  of_interval-ahead clock [] past h = tt
  of_interval-ahead clock (e ∷ es) past h =
      (of_interval_elsewhere e (λ i. omega (arith, interval_mono s past.0)), of_interval-ahead clock es past.1 h)

-- ---- delivery

module _ (s : Shape) (clock : ℕ) (es : List Entry) (e : Entry) where
  -- a block stays if the new entry does not satisfy its test
  pub block_for_other : (p : Entry → Bool) → p e ≡ false → block_for s clock (e ∷ es) p ≡ block_for s clock es p
  unfolding block_for
  block_for_other p g = ap₂ (λ (e o : Half). record { even = e; odd = o }) (kept 0) (kept 1)
    where
      kept : (parity : ℕ) → half_at s clock (e ∷ es) p parity ≡ half_at s clock es p parity
      kept parity = let j = served (interval s clock) parity in
          half_for_other s (of_interval s p j) e es (of_interval_other s p j e g)
