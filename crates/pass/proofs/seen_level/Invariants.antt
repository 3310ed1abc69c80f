-- Invariant: what is collected so far, continued over the slots that are left, is what all slots give; two sums stay small.
use Rattle.std.proofs.Common.{◌≡◌, ◌*◌, ◌≤◌, map, drop}
use Rattle.words.specs.Slot.{front}
use Rattle.pass_laws.specs.Pass.{unseen, see_one, see_all}
use Rattle.pass.proofs.seen_level.Given as goal

abbrev pub invariant-loop-words : goal.invariant-loop-words
invariant-loop-words l =
    (l.t.short ≤ 2 * l.words-index) × (l.t.high ≤ 65535 * l.words-index)
    × (see_all (see_one l.i l.low) l.t (map front (drop l.words-index l.slots)) ≡ see_all (see_one l.i l.low) (unseen l.first) (map front l.slots))
