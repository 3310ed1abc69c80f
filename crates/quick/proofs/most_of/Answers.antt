-- The two branches are the two cases of the test in the definition.
use Rattle.std.proofs.Common.{◌≡◌, suc, ◌-◌, ◌*◌, ◌^◌, arith, pow_pos, pow_mono, le-leb}
use borrow.Author.Tests.{lt-leb}
use Rattle.quick.proofs.most_of.Goals as goal

pub overflow_sub-result : goal.overflow_sub-result
overflow_sub-result c = omega (arith, c.power.ensures, pow_pos c.args.i)

pub overflow_mul-result : goal.overflow_mul-result
overflow_mul-result c = omega (arith, c.power-else-count-ge2.ensures, pow_mono {i = c.args.i} {j = 30} (omega arith))

pub overflow_sub-result-else-count-ge2 : goal.overflow_sub-result-else-count-ge2
overflow_sub-result-else-count-ge2 c = omega (arith, c.power-else-count-ge2.ensures, pow_pos c.args.i)

pub returns-then-count-ge2 : goal.returns-then-count-ge2
returns-then-count-ge2 c = simp (le-leb _ _ c.if-count-ge2.true, c.power.ensures)

pub returns-else-count-ge2 : goal.returns-else-count-ge2
returns-else-count-ge2 c =
    let i = c.args.i in
    let double : 2 * c.power-else-count-ge2.result - 1 ≡ 2 ^ suc i - 1 = omega (arith, c.power-else-count-ge2.ensures) in
    rw (lt-leb _ _ c.if-count-ge2.false) double
