use Rattle.std.proofs.Common.{refl}
use Rattle.laws.specs.LevelWords.{slots-none}
use Rattle.words.specs.Slot.{slots_read}
use Rattle.turns.proofs.quick_rest.Goals as goal

pub loop-next-init : goal.loop-next-init
loop-next-init c = refl

pub loop-next-preserved : goal.loop-next-preserved
loop-next-preserved c =
    let a = c.args in
    let read = slots_read a.level.now c.loop-next.next a.count c.slot_at.result c.slot_at.ensures c.loop-next-test.true in
    rw (c.mark-seen.ensures, c.quick_bucket.ensures) (rw read at c.loop-next.invariant)

pub returns : goal.returns
returns c =
    let a = c.args in
    rw (slots-none a.level.now c.loop-next.next a.count c.loop-next-test.false) at c.loop-next.invariant
