-- Invariant: the sum so far and the weights of the slots that are left are the weight of all slots, modulo 2 ^ 32.
use Rattle.std.proofs.Common.{◌≡◌, ◌+◌, ◌%◌, ◌^◌, ◌<◌, map, drop}
use Rattle.words.specs.Slot.{front}
use Rattle.model.specs.Sound.{weight_of}
use Rattle.quick.proofs.weight_of.Given as goal

abbrev pub invariant-loop-words : goal.invariant-loop-words
invariant-loop-words l =
    (l.sum < 2 ^ 32) × ((l.sum + weight_of (map front (drop l.words-index l.slots))) % 2 ^ 32 ≡ weight_of (map front l.slots) % 2 ^ 32)
