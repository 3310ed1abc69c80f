-- The match says which result it is.
use Rattle.std.proofs.Common.{sym, ap, ◌∙◌, []}
use Rattle.shape.specs.Limits.{accepted}
use Rattle.model.specs.Reply.{reply_by}
use Rattle.codes.proofs.answer_number.Goals as goal
use Rattle.codes.proofs.answer_number.Goals.{in-Ok, in-Err}

pub returns : goal.returns
unfolding reply_by
returns g c =
    elim c.match-answer.branch [
      | in-Ok w ↦ w.result-is ∙ ap (λ r. (reply_by (λ _. accepted []) r).number) (sym w.in-Ok.is)
      | in-Err w ↦ w.result-is ∙ w.number.ensures ∙ ap (λ r. (reply_by (λ _. accepted []) r).number) (sym w.in-Err.is)
    ]
