-- The code makes each test of the definition once.
use Rattle.std.proofs.Math.Bool.{and_assoc}
use Rattle.quick_laws.specs.Quick.{is_enough}
use Rattle.quick.proofs.is_enough.Goals as goal

pub returns : goal.returns
unfolding is_enough
returns c = simp (c.power-top.ensures, and_assoc)
