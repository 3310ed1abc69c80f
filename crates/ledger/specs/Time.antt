-- Stamps, by interval and offset. Assumes nothing.
use Rattle.std.specs.Prelude.{true, false, ◌≡◌, ℕ, ◌+◌, ◌*◌, ◌^◌, ◌≤◌, ◌<◌}
use Rattle.std.proofs.Common.{ap, ⊎_elim, mul-le-mul_right, add-mul, mod-lt, arith, pow_pos, leb-true}
use Rattle.std.proofs.Math.Pow.{shr_mono}
use Rattle.std.proofs.Math.Pow
use Rattle.std.proofs.lemmas.Bool.{lt-leb}
use Rattle.shape.specs.declared.Shape.{Shape}
use Rattle.model.specs.Block.{interval, offset_of, opening, covers, late}
use Rattle.laws.specs.Cond.{lt_or_ge}

module _ (s : Shape) where
  -- a tick is its interval's start and its offset
  pub tick_split : (t : ℕ) → interval s t * 2 ^ s.k + offset_of s t ≡ t
  tick_split t = Pow.split t s.k

  pub offset_lt : (t : ℕ) → offset_of s t < 2 ^ s.k
  offset_lt t = mod-lt t (pow_pos s.k)

  pub interval_mono : {t u : ℕ} → t ≤ u → interval s t ≤ interval s u
  interval_mono h = shr_mono s.k h

  -- ticks of a later interval are later
  pub interval_lt : (t u : ℕ) → interval s t < interval s u → t < u
  interval_lt t u h = ⊎_elim (λ (l : t < u). l) (λ (g : u ≤ t). absurd (omega (arith, interval_mono g))) (lt_or_ge t u)

  -- two ticks at most 2^k apart lie in the same interval or in neighbouring ones
  pub interval_near : (t u : ℕ) → u ≤ t + 2 ^ s.k → interval s u ≤ interval s t + 1
  interval_near t u h =
      ⊎_elim
      (λ (l : interval s t + 1 < interval s u).
      let far : (interval s t + 2) * 2 ^ s.k ≤ interval s u * 2 ^ s.k = mul-le-mul_right (2 ^ s.k) (omega arith) in
      absurd (omega (arith, rw add-mul at far, tick_split t, tick_split u, offset_lt t)))
      (λ (g : interval s u ≤ interval s t + 1). g)
      (lt_or_ge (interval s t + 1) (interval s u))

  -- within an interval, ticks are ordered as their offsets are
  module _ (t u : ℕ) (same : interval s t ≡ interval s u) where
    start : interval s t * 2 ^ s.k ≡ interval s u * 2 ^ s.k
    start = ap (λ (j : ℕ). j * 2 ^ s.k) same

    pub offset_le : t ≤ u → offset_of s t ≤ offset_of s u
    offset_le h = omega (arith, start, tick_split t, tick_split u)

    pub tick_le : offset_of s t ≤ offset_of s u → t ≤ u
    tick_le h = omega (arith, start, tick_split t, tick_split u)

-- what is late at a clock lies outside every window of at most 2^k from then on
pub late_outside : (s : Shape) (clock later window stamp : ℕ) → late s clock stamp ≡ true → clock ≤ later → window ≤ 2 ^ s.k
    → covers later window stamp ≡ false
late_outside s clock later window stamp h up w =
    rw (lt-leb (opening later window) stamp (omega (arith, leb-true (stamp + 2 ^ s.k) clock h)))
