-- The number and the words are those of the call's outcome.
use mathlib.Core.Path.{ap}
use Rattle.capi.specs.Told.{code_of}
use Rattle.capi.proofs.litres_clock.Goals as goal

pub returns : goal.returns
returns c =
    let done = c.clock in
    rw c.answer_number.ensures (ap code_of done.ensures)
