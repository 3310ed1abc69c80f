use mathlib.Core.Path.{◌≡◌}
use Prim.Native.Nat.{◌-◌, ◌≤◌}
use lib.ListN.{length}
use Rattle.model.specs.Trace.{pair_start, laid}
use Rattle.trace.proofs.is_laid.Given as goal

abbrev pub invariant-loop-j : goal.invariant-loop-j
invariant-loop-j l = (l.at ≤ length l.trace) × (laid l.trace l.at l.j (l.days - l.j) ≡ laid l.trace (pair_start l.days) 0 l.days)
