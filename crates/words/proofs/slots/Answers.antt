-- The chunks of three words after the head are the slots.
use Rattle.std.proofs.Common.{◌≡◌, ◌/◌, ◌≤◌, length, drop, take, ap, ◌∙◌, arith, length-drop, map}
use Rattle.std.specs.Simd.{first_chunks}
use Rattle.words.specs.Slot.{front, part_all, chunks_taken, length-chunks, chunks-slots}
use Rattle.words.proofs.slots.Goals as goal

pub returns : goal.returns
returns c =
    let ws = c.args.level.now in
    let count = c.args.count in
    let all = drop 2 ws in
    let few : count ≤ length all / 3 = omega (arith, length-drop 2 ws, c.requires) in
    let read : take count c.as_chunks.result.0.now ≡ first_chunks 3 count all =
    ap (take count) (rw (part_all ws 2) at c.as_chunks.ensures.front) ∙ chunks_taken 3 (length all / 3) count all few in
    (ap (map front) read ∙ chunks-slots ws 0 count, ap length read ∙ length-chunks 3 count all)
