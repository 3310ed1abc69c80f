-- The code makes each test of the definition once.
use Rattle.std.proofs.Math.Bool.{and_assoc}
use Rattle.quick_laws.specs.Quick.{is_tried}
use Rattle.quick.proofs.is_tried.Goals as goal

pub returns : goal.returns
unfolding is_tried
returns c = simp (c.least_of.ensures, and_assoc)
