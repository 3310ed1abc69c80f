-- Each way out of the tests is one case of the definition.
use native.Mathlib.Omega.{arith}
use mathlib.Core.Bool.{true}
use mathlib.Core.List.{[], ◌∷◌}
use mathlib.Core.Path.{◌≡◌, sym, ap, ◌∙◌}
use Rattle.shape.specs.Limits.{accepted}
use Rattle.model.specs.Trace.{sound_trace}
use Rattle.days.specs.declared.Pair.{Pair}
use Rattle.model.specs.Reply.{reply_by}
use Rattle.trace.specs.TraceLaws.{sound_facts, unsound_reply, absent_reply, found_reply}
use Rattle.trace.proofs.judge_day.Goals as goal
use Rattle.trace.proofs.judge_day.Goals.{Else-not-is_sound_trace}

-- the trace that passed the test
sound : (c : Else-not-is_sound_trace) → sound_trace c.args.trace.now ≡ true
sound c = sym c.is_sound_trace.ensures ∙ c.if-not-is_sound_trace.false

pub returns-then-not-is_sound_trace : goal.returns-then-not-is_sound_trace
unfolding reply_by
returns-then-not-is_sound_trace c =
    let a = c.args in
    unsound_reply a.trace.now a.day (sym c.is_sound_trace.ensures ∙ c.if-not-is_sound_trace.true)

pub bounds-trace-0 : goal.bounds-trace-0
bounds-trace-0 c = let s = sound_facts _ (sound (goal.at.bounds-trace-0 c).Else-not-is_sound_trace) in omega (arith, s.some)

pub returns-then-trace-day : goal.returns-then-trace-day
unfolding reply_by
returns-then-trace-day c =
    let a = c.args in
    absent_reply a.trace.now a.day (sound (goal.at.returns-then-trace-day c).Else-not-is_sound_trace) c.if-trace-day.true

pub pair_at-requires : goal.pair_at-requires
pair_at-requires c = let s = sound_facts _ (sound (goal.at.pair_at-requires c).Else-not-is_sound_trace) in omega (arith, s.pairs)

pub returns : goal.returns
unfolding reply_by
returns c =
    let a = c.args in
    let pair = c.pair_at.ensures in
    ap (λ (p : Pair). accepted (p.start ∷ p.length ∷ [])) pair ∙ found_reply a.trace.now a.day (sound (goal.at.returns c).Else-not-is_sound_trace) c.if-trace-day.false
