-- The code computes the definition field by field; the upper 16 bits of a weight are below 2 ^ 16.
use Rattle.std.proofs.Common.{arith}
use Rattle.pass_laws.specs.Pass.{see_single}
use Rattle.pass.proofs.see_single.Goals as goal

pub returns : goal.returns
unfolding see_single
returns c = (
  rw (c.below-2.ensures.0, c.below.ensures.0),
  omega (arith, c.below-2.ensures.1, c.below.ensures.1),
  omega arith,
)
