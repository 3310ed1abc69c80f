-- Each way out of the tests is one case of the definition; else the two days that were found are merged.
use borrow.Author.Tests.{ltb-true}
use mathlib.Core.Bool.{true, ◌&&◌}
use mathlib.Core.List.{List}
use mathlib.Core.Path.{◌≡◌, sym, ap₂, subst, ◌∙◌}
use Prim.Native.Nat.{ℕ, ◌<◌}
use lib.Dec.{ltb}
use Rattle.shape.specs.LimitsLaws.{both}
use Rattle.model.specs.Trace.{day_count, sound_day, sound_trace}
use Rattle.model.specs.Reply.{reply_by}
use Rattle.trace.specs.TraceLaws.{day_sound}
use Rattle.merge_laws.specs.FirstNamed.{merge_days, unsound_merge, missing_merge, found_merge}
use Rattle.merge.proofs.merge_first.Goals as goal
use Rattle.merge.proofs.merge_first.Goals.{After-is_sound_trace-2, After-has_day-2, Else-not-there}

-- the test of both traces, and that of both days' numbers
sound : (c : After-is_sound_trace-2) → let a = c.args in (c.is_sound_trace.result && c.is_sound_trace-2.result) ≡ (sound_trace a.first.now && sound_trace a.second.now)
sound c = ap₂ ◌&&◌ c.is_sound_trace.ensures c.is_sound_trace-2.ensures

there : (c : After-has_day-2) → let a = c.args in
    (c.has_day.result && c.has_day-2.result) ≡ (ltb a.i (day_count a.first.now) && ltb a.j (day_count a.second.now))
there c = ap₂ ◌&&◌ c.has_day.ensures c.has_day-2.ensures

pub returns-then-not-sound : goal.returns-then-not-sound
unfolding reply_by
returns-then-not-sound c =
    let a = c.args in
    unsound_merge a.first.now a.i a.second.now a.j a.out.now (sym (sound (goal.at.returns-then-not-sound c).After-is_sound_trace-2) ∙ c.if-not-sound.true)

pub returns-then-not-there : goal.returns-then-not-there
unfolding reply_by
returns-then-not-there c =
    let a = c.args in
    let whole : (c.is_sound_trace.result && c.is_sound_trace-2.result) ≡ true = cc in
    missing_merge a.first.now a.i a.second.now a.j a.out.now (sym (sound (goal.at.returns-then-not-there c).After-is_sound_trace-2) ∙ whole) (sym (there (goal.at.returns-then-not-there c).After-has_day-2) ∙ c.if-not-there.true)

-- what both tests tell of each side
record Present (a : List ℕ) (i : ℕ) : Type 0 where
  pub trace : sound_trace a ≡ true
  pub day : i < day_count a

found : (c : Else-not-there) → let a = c.args in Present a.first.now a.i × Present a.second.now a.j
found c =
    let a = c.args in
    let p = both {a = sound_trace a.first.now} (sym (sound (goal.at.Else-not-there c).After-is_sound_trace-2) ∙ c.if-not-sound.false) in
    let q = both {a = ltb a.i (day_count a.first.now)} (sym (there (goal.at.Else-not-there c).After-has_day-2) ∙ c.if-not-there.false) in
    (record { trace = p.0; day = ltb-true _ _ q.0 }, record { trace = p.1; day = ltb-true _ _ q.1 })

pub day_part-requires : goal.day_part-requires
day_part-requires c = ((found (goal.at.day_part-requires c).Else-not-there).0.trace, (found (goal.at.day_part-requires c).Else-not-there).0.day)

pub day_part-requires-2 : goal.day_part-requires-2
day_part-requires-2 c = ((found (goal.at.day_part-requires-2 c).Else-not-there).1.trace, (found (goal.at.day_part-requires-2 c).Else-not-there).1.day)

pub merge_days-requires : goal.merge_days-requires
merge_days-requires c =
    let f = found (goal.at.merge_days-requires c).Else-not-there in (
      subst (λ (z : List ℕ). sound_day z ≡ true) (sym c.day_part.ensures) (day_sound _ _ f.0.trace f.0.day),
      subst (λ (z : List ℕ). sound_day z ≡ true) (sym c.day_part-2.ensures) (day_sound _ _ f.1.trace f.1.day),
    )

pub returns : goal.returns
returns c =
    let a = c.args in
    c.merge_days.ensures ∙ ap₂ (λ (x y : List ℕ). merge_days x y a.out.now) c.day_part.ensures c.day_part-2.ensures
    ∙ found_merge a.first.now a.i a.second.now a.j a.out.now (sym (sound (goal.at.returns c).After-is_sound_trace-2) ∙ c.if-not-sound.false) (sym (there (goal.at.returns c).After-has_day-2) ∙ c.if-not-there.false)
