-- The divisor is a power of two, which is not 0.
use native.Mathlib.Omega.{arith}
use lib.Pow.{pow_pos}
use Rattle.stamp.proofs.offset.Goals as goal

pub nonzero_rem-result : goal.nonzero_rem-result
nonzero_rem-result c = omega (arith, pow_pos c.args.s.k)

pub returns : goal.returns
returns c = rw c.power.ensures
