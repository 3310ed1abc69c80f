-- A refused day refuses the replay; else the day that was found is replayed.
use mathlib.Core.List.{List}
use mathlib.Core.Path.{◌≡◌, sym, ap, ◌∙◌}
use Prim.Native.Nat.{ℕ}
use lib.ListN.{take, drop}
use Rattle.shape.specs.Limits.{refused}
use Rattle.model.specs.Trace.{day_part}
use Rattle.model.specs.Reply.{reply_by}
use Rattle.std.proofs.lemmas.Result.{err_from_is_err_and}
use Rattle.laws.specs.Refusals.{number_of_pos}
use Rattle.days.specs.declared.Pair.{Pair}
use Rattle.trace.specs.TraceLaws.{InTrace, at_in, refused-first}
use Rattle.replay.specs.Part.{replay_part, replay_found, replay-refused}
use Rattle.replay.proofs.replay.Goals as goal
use Rattle.replay.proofs.replay.Goals.{In_ok-pair}

-- the pair that was found is the day's
placed : (c : In_ok-pair) → let a = c.args in InTrace a.trace.now a.day c.in_ok-pair.pair
placed c = at_in _ _ c.judge_day.result c.in_ok-pair.pair c.in_ok-pair.was c.judge_day.ensures

pub day_at-requires : goal.day_at-requires
day_at-requires c = (placed (goal.at.day_at-requires c).In_ok-pair).within

pub returns : goal.returns
returns c =
    let a = c.args in
    let p = placed (goal.at.returns c).In_ok-pair in
    let part : c.day_at.result.now ≡ day_part a.trace.now a.day =
    c.day_at.ensures ∙ ap (λ (z : Pair). take z.length (drop z.start a.trace.now)) p.is in
    c.replay_part.ensures ∙ ap (λ (z : List ℕ). replay_part a.book.now z a.answers.now) part
    ∙ sym (replay_found a.book.now a.trace.now a.day a.answers.now p.number)

pub returns-in_err-pair : goal.returns-in_err-pair
unfolding reply_by
returns-in_err-pair c =
    let a = c.args in
    let why = c.in_err-pair.field-0.0 in
    let number = refused-first a.trace.now a.day c.judge_day.result why c.in_err-pair.was c.judge_day.ensures in
    let p = err_from_is_err_and c.from_residual.result c.from_residual.ensures.1 in
    rw (p.1, p.2) (ap (λ (n : ℕ). record { reply = refused n; book = a.book.now; answers = a.answers.now }) number
    ∙ sym (replay-refused a.book.now a.trace.now a.day a.answers.now (λ e. number_of_pos why (number ∙ e))))
