-- A test of all numbers below c, as a loop makes it: what is left to test at i. Assumes nothing.
use Rattle.std.specs.Prelude.{Bool, true, ◌&&◌, ◌≡◌, ℕ, suc, ◌+◌, ◌-◌, ◌≤◌, ◌<◌}
use Rattle.std.proofs.Common.{ap, add-one, arith}
use Rattle.std.proofs.Math.Nat.{sub-zero}
use Rattle.model.specs.Sound.{all_from}

module _ (p : ℕ → Bool) where
  -- the tests that are left at i
  abbrev pub all_left : ℕ → ℕ → Bool
  all_left i c = all_from p i (c - i)

  pub all_left-start : (c : ℕ) → all_left 0 c ≡ all_from p 0 c
  all_left-start c = ap (all_from p 0) (sub-zero c)

  pub all_left_step : (i c : ℕ) → i < c → all_left i c ≡ (p i && all_left (i + 1) c)
  all_left_step i c h = let left : c - i ≡ suc (c - (i + 1)) = omega arith in rw (left, add-one)

  pub all_left_end : (i c : ℕ) → c ≤ i → all_left i c ≡ true
  all_left_end i c h = let left : c - i ≡ 0 = omega arith in rw left
