-- The test of all record numbers is the whole test.
use Rattle.std.proofs.Common.{rules, ◌≡◌, refl, length, ℕ, ◌/◌, Bool, true, false}
use Rattle.std.proofs.Math.Nat.{sub-zero}
use Rattle.std.proofs.lemmas.Iterator.{cases_from_all, YieldsList-from_range}
use borrow.Author.Tests.{eq-eqb, ne_eqb}
use Rattle.model.specs.Trace.{record_words, record_at, sound_record, sound_day}
use Rattle.days.specs.Counted.{all_counted}
use Rattle.days.proofs.is_sound_day.Goals as goal

pub returns-then-day-ne0 : goal.returns-then-day-ne0
unfolding sound_day
returns-then-day-ne0 c = simp (ne_eqb _ _ c.if-day-ne0.true)

pub returns : goal.returns
unfolding sound_day
returns c =
    let day = c.args.day.now in
    let p : ℕ → Bool = (λ i. sound_record (record_at day i)) in
    let count : ℕ = length day / record_words in
    simp (eq-eqb _ _ c.if-day-ne0.false)
    (all_counted p count c.all.result
    (cases_from_all _ _ _ (λ k. p k ≡ true) (λ k. p k ≡ false) c.all.ensures.ran (YieldsList-from_range 0 count count refl (sub-zero count)) (λ k q h. search rules) (λ k q h. search rules)))
