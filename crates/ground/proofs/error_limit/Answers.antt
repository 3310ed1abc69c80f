-- The shift loses no bit, and the product fits.
use native.Mathlib.Nat.{one-mul}
use native.Mathlib.Omega.{arith}
use lib.Pow.{shl_exact}
use borrow.Author.Tests.{eq-eqb, ne_eqb}
use Rattle.ground.specs.Reads.{limit_fits}
use Rattle.ground.proofs.error_limit.Goals as goal

pub returns-then-level-eq0 : goal.returns-then-level-eq0
returns-then-level-eq0 c = rw (eq-eqb _ _ c.if-level-eq0.true)

pub overflow_mul-result : goal.overflow_mul-result
overflow_mul-result c =
    let a = c.args in
    let s = shl_exact {a = 1} 1 a.level 64 (omega arith) (omega arith) in
    record { fits = rw (s, c.from.ensures) (omega (arith, limit_fits a.k a.level c.requires.0 c.requires.1)) }

pub returns : goal.returns
returns c =
    let a = c.args in
    let s = shl_exact {a = 1} 1 a.level 64 (omega arith) (omega arith) in
    rw (ne_eqb a.level 0 c.if-level-eq0.false, s, c.from.ensures, one-mul)
