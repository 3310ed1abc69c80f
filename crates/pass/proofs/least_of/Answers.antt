-- The two branches are the two cases of the test in the definition.
use Rattle.std.proofs.Common.{le-leb}
use borrow.Author.Tests.{lt-leb}
use Rattle.pass.proofs.least_of.Goals as goal

pub returns-then-count-ge2 : goal.returns-then-count-ge2
returns-then-count-ge2 c = simp (le-leb _ _ c.if-count-ge2.true, c.power.ensures)

pub returns-else-count-ge2 : goal.returns-else-count-ge2
returns-else-count-ge2 c = simp (lt-leb _ _ c.if-count-ge2.false)
