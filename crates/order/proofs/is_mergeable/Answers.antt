-- No record; another record first than a clock's; or the test of the clocks.
use native.Mathlib.Omega.{arith}
use borrow.Author.Tests.{eq-eqb, eqb-true}
use mathlib.Core.Bool.{true≢false}
use mathlib.Core.Path.{sym, ap, ◌∙◌}
use Rattle.model.specs.Merge.{is_clock}
use Rattle.order.specs.OrderLaws.{none-mergeable, unopened-mergeable, opened-mergeable}
use Rattle.order.proofs.is_mergeable.Goals as goal

pub returns-then-day-lt-RECORD_WORDS : goal.returns-then-day-lt-RECORD_WORDS
returns-then-day-lt-RECORD_WORDS c = none-mergeable c.args.day.now (omega (arith, c.if-day-lt-RECORD_WORDS.true))

pub returns-then-not-is_clock : goal.returns-then-not-is_clock
returns-then-not-is_clock c =
    let none = sym (ap is_clock c.record_at-opening.ensures) ∙ sym c.is_clock.ensures ∙ c.if-not-is_clock.true in
    unopened-mergeable c.args.day.now (omega (arith, c.if-day-lt-RECORD_WORDS.false)) (λ e. true≢false (sym (eq-eqb _ _ e) ∙ none))

pub returns : goal.returns
returns c =
    let opens = sym (ap is_clock c.record_at-opening.ensures) ∙ sym c.is_clock.ensures ∙ c.if-not-is_clock.false in
    c.is_orderly.ensures ∙ opened-mergeable c.args.day.now (omega (arith, c.if-day-lt-RECORD_WORDS.false)) (eqb-true _ _ opens)
