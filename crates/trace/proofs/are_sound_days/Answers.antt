-- The test of all days is the whole test: each part that is looked at is the day's.
use Rattle.std.proofs.Common.{rules, ◌≡◌, refl, ℕ, Bool, true, false, arith}
use Rattle.std.proofs.Math.Nat.{sub-zero}
use Rattle.std.proofs.lemmas.Iterator.{cases_from_all, serves_from_Range, YieldsList-from_range}
use Rattle.model.specs.Trace.{sound_day, day_part, pair_start}
use Rattle.days.specs.Counted.{all_counted}
use Rattle.trace.specs.TraceLaws.{laid_lies}
use Rattle.trace.proofs.are_sound_days.Goals as goal

pub returns : goal.returns
returns c =
    let a = c.args in
    let p : ℕ → Bool = (λ j. sound_day (day_part a.trace.now j)) in
    all_counted p a.days c.all.result
    (cases_from_all _ _ _ (λ k. p k ≡ true) (λ k. p k ≡ false) c.all.ensures.ran (YieldsList-from_range 0 a.days a.days refl (sub-zero a.days)) (λ k q h. search rules) (λ k q h. search rules))

-- each day of a layout lies in the trace
pub all-requires-clause-callable : goal.all-requires-clause-callable
all-requires-clause-callable c =
    let a = c.args in
    serves_from_Range (λ j q h. search rules)
    (λ j low high. (
      (λ k p g r w o u. omega arith),
      (λ k p g r w o u pair l. rw pair.ensures (laid_lies a.trace.now a.days (pair_start a.days) 0 j c.requires.1 (omega arith) (omega (arith, high)))),
    ))
