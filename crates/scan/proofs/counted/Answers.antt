-- The two branches are the two cases of the test in the definition.
use native.Mathlib.Omega.{arith}
use borrow.Author.Tests.{le-leb, lt-leb}
use Rattle.scan.proofs.counted.Goals as goal

pub returns-then-a-b : goal.returns-then-a-b
returns-then-a-b c = (simp (le-leb _ _ c.if-a-b.true, c.from.ensures), omega arith)

pub returns-else-a-b : goal.returns-else-a-b
returns-else-a-b c = (simp (lt-leb _ _ c.if-a-b.false), omega arith)
