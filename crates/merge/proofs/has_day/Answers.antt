-- A trace without words counts no days.
use Rattle.merge_laws.specs.AcceptedMerge.{no_day}
use Rattle.merge.proofs.has_day.Goals as goal

pub returns-then-trace-eq0 : goal.returns-then-trace-eq0
returns-then-trace-eq0 c = no_day c.args.trace.now c.args.day c.if-trace-eq0.true
