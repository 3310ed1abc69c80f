-- Invariant: the sum so far and what the slots that are left add are the whole sum; j words are below j * 2 ^ 32.
use mathlib.Core.Path.{◌≡◌}
use mathlib.Core.List.{map}
use Prim.Native.Nat.{◌+◌, ◌*◌, ◌^◌, ◌≤◌}
use lib.ListN.{drop}
use Rattle.model.specs.Block.{sum_from}
use Rattle.words.specs.Slot.{front}
use Rattle.scan.proofs.sum_from.Given as goal

abbrev pub invariant-loop-words : goal.invariant-loop-words
invariant-loop-words l =
    (l.sum ≤ l.words-index * 2 ^ 32)
    × (l.sum + sum_from l.a (map front (drop l.words-index l.words-items)) ≡ sum_from l.a (map front l.words-items))
