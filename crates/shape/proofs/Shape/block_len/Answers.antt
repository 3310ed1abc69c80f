-- The code computes the definition's own sum.
use Rattle.shape.specs.Layout.{block_words}
use Rattle.shape.proofs.Shape.block_len.Goals as goal

pub returns : goal.returns
unfolding block_words
returns c = rw c.level_len.ensures
