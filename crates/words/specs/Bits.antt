-- What follows if joined bits, or common bits, are 0. Assumes nothing.
use Rattle.std.specs.Prelude.{◌&&◌, ◌≡◌, ℕ, suc, ◌-◌, ◌*◌, ◌/◌, ◌%◌, ◌^◌, ◌≤◌, ◌<◌, eqb}
use Rattle.std.proofs.Common.{⊎_elim, pow-suc, arith}
use Rattle.std.proofs.Math.Arith.{bin_ind}
use Rattle.std.specs.Int.Bits.{bit_and, bit_or, bit_xor, and_step, and_self, or_add_and, xor_add_and, xor_self}
use Rattle.std.proofs.lemmas.Nat.{and_le_l, and_le_r}
use Rattle.laws.specs.Cond.{lt_or_ge}
use Rattle.laws.specs.Tests.{tests_same, tests_equal, eqb_tests, and_tests}

module _ (a b : ℕ) where
  pub or_none : bit_or a b ≡ 0 → (a ≡ 0) × (b ≡ 0)
  or_none e = (omega (arith, or_add_and a b, and_le_r a b), omega (arith, or_add_and a b, and_le_l a b))

  pub none_or : a ≡ 0 → b ≡ 0 → bit_or a b ≡ 0
  none_or p q = omega (arith, or_add_and a b)

  pub or_least : (a ≤ bit_or a b) × (b ≤ bit_or a b)
  or_least = (omega (arith, or_add_and a b, and_le_r a b), omega (arith, or_add_and a b, and_le_l a b))

  pub xor_none : bit_xor a b ≡ 0 → a ≡ b
  xor_none e = omega (arith, xor_add_and a b, and_le_l a b, and_le_r a b)

pub none_xor : (a b : ℕ) → a ≡ b → bit_xor a b ≡ 0
none_xor a b e = rw e (xor_self b)

-- joined bits are 0 exactly if both numbers are 0
pub or_tested : (a b : ℕ) → eqb (bit_or a b) 0 ≡ (eqb a 0 && eqb b 0)
or_tested a b =
    tests_equal (eqb_tests (bit_or a b) 0) (tests_same (and_tests (eqb_tests a 0) (eqb_tests b 0)) (λ p. none_or a b p.0 p.1) (or_none a b))

-- w is a power of two
pub record PowerOf (w : ℕ) : Type 0 where
  pub size : ℕ
  pub same : w ≡ 2 ^ size

-- a number that shares no bit with the number before it is a power of two
pub lone_bit : (w : ℕ) → 0 < w → bit_and w (w - 1) ≡ 0 → PowerOf w
lone_bit = bin_ind (λ (n : ℕ). 0 < n → bit_and n (n - 1) ≡ 0 → PowerOf n) (λ h. absurd (omega arith)) step
  where
    step : (n : ℕ) → (0 < n / 2 → bit_and (n / 2) (n / 2 - 1) ≡ 0 → PowerOf (n / 2)) → 0 < n → bit_and n (n - 1) ≡ 0 → PowerOf n
    step n ih h e =
        let digits : bit_and (n / 2) ((n - 1) / 2) * 2 ≤ 0 = omega (arith, and_step n (n - 1)) in
        ⊎_elim
        (λ (even : n % 2 < 1).
        let half : (n - 1) / 2 ≡ n / 2 - 1 = omega arith in
        let none : bit_and (n / 2) ((n - 1) / 2) ≡ 0 = omega arith in
        let p = ih (omega arith) (rw half at none) in
        record { size = suc p.size; same = omega (arith, p.same, pow-suc 2 p.size) })
        (λ (odd : 1 ≤ n % 2).
        let half : (n - 1) / 2 ≡ n / 2 = omega arith in
        let none : n / 2 ≤ 0 = omega (arith, and_self (n / 2), rw half at digits) in
        record { size = 0; same = omega arith })
        (lt_or_ge (n % 2) 1)
