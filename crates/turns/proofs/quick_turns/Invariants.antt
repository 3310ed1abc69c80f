-- Invariant: the slots before `at` were read by turns; `rest` starts at slot `at`.
use Rattle.std.proofs.Common.{◌-◌}
use Rattle.quick_laws.proofs.RowsLaws.{Turning}
use Rattle.turns.proofs.quick_turns.Given as goal

abbrev pub invariant-loop-rest : goal.invariant-loop-rest
invariant-loop-rest l = Turning l.least l.most l.level l.count l.t l.rest l.at

abbrev pub decreases-loop-rest : goal.decreases-loop-rest
decreases-loop-rest l = l.count - l.at
