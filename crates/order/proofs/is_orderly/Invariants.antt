use mathlib.Core.Path.{◌≡◌}
use Rattle.model.specs.Trace.{records_of}
use Rattle.model.specs.Merge.{orderly}
use Rattle.order.specs.OrderLaws.{orderly_from}
use Rattle.order.proofs.is_orderly.Given as goal

abbrev pub invariant-loop-i : goal.invariant-loop-i
invariant-loop-i l = (orderly_from l.day l.i l.clock ≡ orderly 0 (records_of l.day))
