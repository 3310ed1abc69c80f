-- The code computes the definition's own sum.
use Rattle.shape.specs.Layout.{level_start}
use Rattle.shape.proofs.Shape.level_start.Goals as goal

pub returns : goal.returns
unfolding level_start
returns c = rw c.level_len.ensures
