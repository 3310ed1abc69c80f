-- What the pass collected gives the weight and the soundness of the buckets.
use Rattle.std.proofs.Common.{◌≤◌, length, map, arith}
use Rattle.std.proofs.lemmas.List.{length-map}
use Rattle.words.specs.Slot.{front}
use Rattle.pass_laws.proofs.PassLaws.{seen_weight, seen-sound}
use Rattle.pass.proofs.judge_seen.Goals as goal

pub returns : goal.returns
returns c =
    let a = c.args in
    let bs = map front a.slots.now in
    let few : length bs ≤ 1024 = rw (length-map a.slots.now front) (omega arith) in (
      rw (c.weight_seen.ensures, c.seen_level-t.ensures) (seen_weight a.i a.first bs few),
      rw (c.sound_seen.ensures, c.seen_level-t.ensures) (seen-sound a.k a.first (omega arith) a.i bs few),
    )
