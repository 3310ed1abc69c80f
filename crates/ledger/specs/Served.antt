-- Which interval the half of a parity serves. Assumes nothing.
use Rattle.std.specs.Prelude.{cond, ◌≡◌, ℕ, ◌+◌, ◌-◌, ◌%◌, ◌≤◌, ◌<◌, eqb}
use Rattle.std.proofs.Common.{ap, arith, eq-eqb, ne_eqb}
use Rattle.laws.specs.Cond.{by_eq}

-- the interval that a half serves while the clock is in interval `now`: that one or the one before. In interval 0 the odd half has served
-- none; interval 1, which has no entry yet, stands in for it
unfoldable pub served : ℕ → ℕ → ℕ
served now parity = cond (eqb (now % 2) parity) now (cond (eqb now 0) 1 (now - 1))

pub served_own : (now parity : ℕ) → now % 2 ≡ parity → served now parity ≡ now
unfolding served
served_own now parity h = rw (eq-eqb (now % 2) parity h)

pub served-before : (now parity : ℕ) → (now % 2 ≡ parity → ⊥) → 0 < now → served now parity ≡ now - 1
unfolding served
served-before now parity h pos = rw (ne_eqb (now % 2) parity h, ne_eqb now 0 (λ e. omega arith))

pub served-parity : (now parity : ℕ) → parity < 2 → served now parity % 2 ≡ parity
unfolding served
served-parity now parity h =
    by_eq (now % 2) parity (λ z. z % 2 ≡ parity)
    (λ e. e)
    (λ other. by_eq now 0 (λ z. z % 2 ≡ parity) (λ e. omega (arith, other, ap (λ (m : ℕ). m % 2) e)) (λ e. omega (arith, other, e)))

pub served_low : (now parity : ℕ) → now ≤ served now parity + 1
unfolding served
served_low now parity =
    by_eq (now % 2) parity (λ z. now ≤ z + 1) (λ e. omega arith) (λ e. by_eq now 0 (λ z. now ≤ z + 1) (λ q. omega arith) (λ q. omega arith))
