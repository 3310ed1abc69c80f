-- The end is that of the definition.
use Rattle.row.proofs.seam_at.Goals as goal

pub returns : goal.returns
returns c = rw c.end_at.ensures
