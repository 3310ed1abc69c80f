-- The match says whether the question is answered.
use mathlib.Core.Path.{sym, ap, ◌∙◌}
use Prim.Native.Nat.{ℕ}
use Rattle.model.specs.Reply.{reply_by, sum_reply}
use Rattle.model.specs.Calls.{Outcome}
use Rattle.capi.specs.Told.{sum_of}
use Rattle.capi.proofs.litres_query.Goals as goal
use Rattle.capi.proofs.litres_query.Goals.{After-query}

pub returns-in-Ok : goal.returns-in-Ok
unfolding reply_by
returns-in-Ok c =
    let held = c.args.sum.now in
    ap (λ r. sum_of (sum_reply r) held) (sym c.in-Ok.is) ∙ ap (λ (o : Outcome _). sum_of o.reply held) c.query.ensures

pub returns-in-Err : goal.returns-in-Err
unfolding reply_by
returns-in-Err c =
    let held = c.args.sum.now in
    ap (λ (n : ℕ). (n, held)) c.number.ensures ∙ ap (λ r. sum_of (sum_reply r) held) (sym c.in-Err.is) ∙ ap (λ (o : Outcome _). sum_of o.reply held) c.query.ensures
