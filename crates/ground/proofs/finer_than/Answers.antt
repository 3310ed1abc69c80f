-- The level below is one of the half, and its second word is its F.
use Prim.Native.Nat.{◌-◌}
use native.Mathlib.Omega.{arith}
use borrow.Author.Tests.{eq-eqb, ne_eqb}
use Rattle.ground.specs.Reads.{second_there, first_decode}
use Rattle.ground.proofs.finer_than.Goals as goal

pub returns-then-level-eq0 : goal.returns-then-level-eq0
returns-then-level-eq0 c = rw (eq-eqb _ _ c.if-level-eq0.true)

pub bounds-words-1 : goal.bounds-words-1
bounds-words-1 c =
    let w = c.requires in
    rw c.level_at-words.ensures (second_there (record { sized = w.sized; half = w.half; index = omega (arith, w.index) }))

pub returns : goal.returns
returns c =
    let a = c.args in
    rw (ne_eqb a.level 0 c.if-level-eq0.false, first_decode a.s a.parity a.block.now (a.level - 1) (omega (arith, c.requires.index)), ← c.level_at-words.ensures)
