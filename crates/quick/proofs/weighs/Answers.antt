-- The code makes each test of the definition once.
use Rattle.quick.proofs.weighs.Goals as goal

pub returns : goal.returns
returns c = rw c.implied.ensures
