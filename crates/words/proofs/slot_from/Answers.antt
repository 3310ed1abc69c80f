-- The words from `at` on start with the slot.
use Rattle.std.proofs.Common.{add-zero}
use lib.Seq.{get_or-drop}
use Rattle.words.proofs.slot_from.Goals as goal

pub returns : goal.returns
returns c = rw c.from.ensures (simp (get_or-drop, add-zero))
