-- The code computes the definition, and its sums fit 64 bits.
use Rattle.pass_laws.specs.Pass.{weight_seen}
use Rattle.pass.proofs.weight_seen.Goals as goal

pub returns : goal.returns
unfolding weight_seen
returns c = rw (c.from.ensures, c.from-high.ensures)
