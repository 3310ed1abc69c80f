-- The match says what finding the day answered.
use mathlib.Core.Path.{sym, ap, ◌∙◌}
use Rattle.model.specs.Reply.{reply_by}
use Rattle.trace.specs.Found.{found_of}
use Rattle.capi.specs.Told.{place_of}
use Rattle.capi.proofs.litres_day.Goals as goal

pub returns-in-Ok : goal.returns-in-Ok
unfolding reply_by
returns-in-Ok c = ap place_of (ap found_of (sym c.in-Ok.is) ∙ c.judge_day.ensures)

pub returns-in-Err : goal.returns-in-Err
unfolding reply_by
returns-in-Err c =
    rw c.number.ensures (ap place_of (ap found_of (sym c.in-Err.is) ∙ c.judge_day.ensures))
