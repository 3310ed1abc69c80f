-- The number, the words and the splits are those of the call's outcome.
use mathlib.Core.Path.{ap, ◌∙◌}
use Rattle.capi.specs.Told.{delivery_of}
use Rattle.capi.specs.ToldLaws.{told_splits}
use Rattle.capi.proofs.litres_delivery.Goals as goal

pub returns : goal.returns
returns c =
    let done = c.delivery-answer in
    rw (c.unwrap_or.ensures, c.answer_number.ensures) (told_splits done.result done.new.book ∙ ap delivery_of done.ensures)
