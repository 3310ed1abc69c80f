-- Invariant: the slot of x is at most high, and the step is not 0, so the slot that is tested is below high.
use Prim.Native.Nat.{◌≤◌, ◌<◌}
use lib.ListN.{get_or}
use Rattle.model.specs.Words.{decode_level}
use Rattle.laws.specs.SlotOf.{slot_of}
use Rattle.scan.proofs.gallop.Given as goal

abbrev pub invariant-loop-high : goal.invariant-loop-high
invariant-loop-high l = (0 < l.step) × (slot_of l.x (decode_level l.level).buckets ≤ l.high) × (l.high ≤ get_or l.level 0 0)

abbrev pub decreases-loop-high : goal.decreases-loop-high
decreases-loop-high l = l.high
