-- The three stores are those of `put_slot`.
use Rattle.laws.specs.SlotWrites.{put_slot}
use Rattle.buckets.proofs.put_slot.Goals as goal

pub returns : goal.returns
unfolding put_slot
returns c = rw c.start_of-at.ensures
