-- The number and the words are those of the replay.
use mathlib.Core.Path.{ap}
use Rattle.capi.specs.Told.{replay_of}
use Rattle.capi.proofs.litres_replay.Goals as goal

pub returns : goal.returns
returns c =
    let done = c.replay in
    rw c.answer_number.ensures (ap replay_of done.ensures)
