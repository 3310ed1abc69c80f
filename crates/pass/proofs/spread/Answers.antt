-- The two branches are the two cases of the test in the definition.
use Rattle.std.proofs.Common.{eq-eqb, ne_eqb}
use Rattle.pass.proofs.spread.Goals as goal

pub returns-then-b-eq1 : goal.returns-then-b-eq1
returns-then-b-eq1 c = simp (eq-eqb _ _ c.if-b-eq1.true)

pub returns-else-b-eq1 : goal.returns-else-b-eq1
returns-else-b-eq1 c = simp (ne_eqb _ _ c.if-b-eq1.false)
