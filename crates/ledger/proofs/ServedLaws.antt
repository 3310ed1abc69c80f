-- Which half serves the interval of the clock and the one before, and how the clock changes what a half serves. Rests on the interval that the
-- half of a parity serves.
use Rattle.std.specs.Prelude.{true, false, ◌≡◌, ◌⊎◌, ℕ, ◌+◌, ◌%◌, ◌≤◌, ◌<◌}
use Rattle.std.proofs.Common.{ap, ◌∙◌, inl, inr, ⊎_elim, arith}
use Rattle.model.specs.Block.{empties}
use Rattle.model.proofs.BlockLaws.{empties_same, empties_next, empties_other, empties_skipped}
use Rattle.laws.specs.Cond.{lt_or_ge, eq_or_ne}
use Rattle.ledger.specs.Served.{served, served_own, served-before, served_low}

-- the interval of the clock, or the one before, is served by the half of its own parity
pub served_near : (now j : ℕ) → j ≤ now → now ≤ j + 1 → served now (j % 2) ≡ j
served_near now j low high =
    ⊎_elim
    (λ (l : j < now). served-before now (j % 2) (λ e. omega arith) (omega arith) ∙ omega arith)
    (λ (g : now ≤ j). served_own now (j % 2) (omega arith) ∙ omega arith)
    (lt_or_ge j now)

-- a clock that goes on to another interval empties exactly the halves that come to serve a new interval
pub served-clock : (from to parity : ℕ) → from ≤ to → parity < 2
    → ((empties from to parity ≡ true) × (from < served to parity)) ⊎ ((empties from to parity ≡ false) × (served to parity ≡ served from parity))
served-clock from to parity up two =
    ⊎_elim
    (λ (l : from < to).
    ⊎_elim
    (λ (skip : from + 1 < to). inl (empties_skipped from to parity skip, omega (arith, served_low to parity)))
    (λ (next : to ≤ from + 1). entered (omega arith))
    (lt_or_ge (from + 1) to))
    (λ (g : to ≤ from). let same : to ≡ from = omega arith in inr (empties_same from to parity same, ap (λ (z : ℕ). served z parity) same))
    (lt_or_ge from to)
  where
    entered : to ≡ from + 1
        → ((empties from to parity ≡ true) × (from < served to parity)) ⊎ ((empties from to parity ≡ false) × (served to parity ≡ served from parity))
    entered next =
        ⊎_elim
        (λ (own : to % 2 ≡ parity). inl (empties_next from to parity next (omega arith), omega (arith, served_own to parity own)))
        (λ (other : to % 2 ≡ parity → ⊥).
        let own : from % 2 ≡ parity = omega (arith, other) in
        inr (empties_other from to parity next (omega arith), omega (arith, served-before to parity other (omega arith), served_own from parity own)))
        (eq_or_ne (to % 2) parity)
