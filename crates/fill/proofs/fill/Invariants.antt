-- Invariant: after each turn one more level has the volume, and the next is as it was. The splits so far and those of the levels that are
-- left are all splits. Each level makes at most k of them, and k is at most 20, so the sum fits a word.
use mathlib.Core.Path.{◌≡◌}
use mathlib.Core.List.{List}
use Prim.Native.Nat.{ℕ, ◌+◌, ◌*◌, ◌≤◌}
use lib.ListN.{get_or, set}
use Rattle.shape.specs.Layout.{total_start}
use Rattle.fill.specs.Fill.{Fills, Filling}
use Rattle.fill.proofs.fill.Given as goal

abbrev pub invariant-loop-i : goal.invariant-loop-i
invariant-loop-i l =
    (l.splits ≤ 20 * l.i)
    × ((ws : List ℕ) → l.initial.block ≡ set ws l.parity (get_or ws (total_start l.parity) 0 + l.v) → Fills l.s l.stamp l.parity l.x l.v ws
    → Filling l.s l.stamp l.v l.i l.splits ws l.block)
