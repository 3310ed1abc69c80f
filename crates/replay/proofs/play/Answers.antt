-- The outcome of the call gives the book and both words.
use native.Mathlib.Omega.{arith}
use mathlib.Core.List.{List, []}
use mathlib.Core.Path.{◌≡◌, refl, ap, ◌∙◌}
use Rattle.std.specs.Prelude.{Result, Ok, Err}
use Prim.Native.Nat.{ℕ}
use lib.ListN.{get_or, length-set}
use Rattle.shape.specs.Limits.{accepted}
use Rattle.model.specs.declared.Answer.{Answer}
use Rattle.model.specs.declared.Answer.TheVariants.{Done, Splits, Sum}
use Rattle.model.specs.declared.Refusal.{Refusal}
use Rattle.model.specs.Reply.{reply_by, reply_of}
use Rattle.model.specs.Calls.{Outcome, perform}
use Rattle.replay.specs.Fits.{perform_fits}
use Rattle.replay.proofs.play.Goals as goal

-- the number of an answer does not depend on what an accepted call says
number_says : (r : Result Answer Refusal) → (reply_by (λ (_ : Answer). accepted []) r).number ≡ (reply_of r).number
unfolding reply_by
number_says (Ok Done) = refl
number_says (Ok (Splits splits)) = refl
number_says (Ok (Sum sum)) = refl
number_says (Err why) = refl

pub answer_sum-requires : goal.answer_sum-requires
answer_sum-requires c =
    rw (ap (λ (o : Outcome (List ℕ)). get_or o.reply.values 0 0) c.perform-answer.ensures) (perform_fits c.args.book.now c.call_of.result)

pub bounds-answers-to-2 : goal.bounds-answers-to-2
bounds-answers-to-2 c =
    let a = c.args in
    omega (arith, length-set a.answers.now a.to c.answer_number.result)

pub returns : goal.returns
returns c =
    let e = c.perform-answer.ensures ∙ ap (perform c.args.book.now) c.call_of.ensures in
    record { left = ap (λ (o : Outcome (List ℕ)). o.left) e; told = rw (c.answer_number.ensures ∙ number_says c.perform-answer.result, c.answer_sum.ensures, ← e) }
