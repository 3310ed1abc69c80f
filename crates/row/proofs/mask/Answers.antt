-- The two branches are the two cases of the test in the definition.
use Rattle.std.proofs.Common.{le-ltb, lt-ltb}
use Rattle.row.proofs.mask.Goals as goal

pub returns-then-y-x : goal.returns-then-y-x
returns-then-y-x c = simp (lt-ltb _ _ c.if-y-x.true)

pub returns-else-y-x : goal.returns-else-y-x
returns-else-y-x c = simp (le-ltb _ _ c.if-y-x.false)
