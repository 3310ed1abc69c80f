-- Each call has its own function, and the match says which call it is.
use Rattle.std.proofs.Common.{sym, ap, ◌∙◌, refl}
use Rattle.shape.specs.Limits.{Reply}
use Rattle.model.specs.declared.Answer.TheVariants.{Splits, Sum}
use Rattle.model.specs.Calls.{outcome_of, perform}
use Rattle.model.specs.Reply.{reply_of}
use Rattle.summary.specs.Outcome.{put_reply, done_put}
use Rattle.summary.proofs.perform.Goals as goal

pub returns-in-Make : goal.returns-in-Make
returns-in-Make c =
    ap (λ (r : Reply). outcome_of r c.make.new.book) (ap reply_of c.and.ensures ∙ done_put c.make.result)
    ∙ c.make.ensures ∙ ap (perform c.args.book.now) (sym c.in-Make.is)

pub returns-in-Clock : goal.returns-in-Clock
returns-in-Clock c =
    ap (λ (r : Reply). outcome_of r c.clock.new.book) (ap reply_of c.and-in-Clock.ensures ∙ done_put c.clock.result)
    ∙ c.clock.ensures ∙ ap (perform c.args.book.now) (sym c.in-Clock.is)

pub returns-in-Delivery : goal.returns-in-Delivery
returns-in-Delivery c =
    ap (λ (r : Reply). outcome_of r c.delivery.new.book) (put_reply _ Splits (λ _. refl) c.delivery.result c.map.result c.map.ensures.cases)
    ∙ c.delivery.ensures ∙ ap (perform c.args.book.now) (sym c.in-Delivery.is)

pub returns-in-Query : goal.returns-in-Query
returns-in-Query c =
    ap (λ (r : Reply). outcome_of r c.args.book.now) (put_reply _ Sum (λ _. refl) c.query.result c.map-in-Query.result c.map-in-Query.ensures.cases)
    ∙ c.query.ensures ∙ ap (perform c.args.book.now) (sym c.in-Query.is)
