-- Each way out of the tests is one case of the definition.
use borrow.Author.Tests.{eqb-true}
use mathlib.Core.Bool.{true, ◌&&◌}
use mathlib.Core.List.{[]}
use mathlib.Core.Path.{◌≡◌, sym, ap, ap₂, ◌∙◌}
use Prim.Native.Nat.{◌+◌}
use lib.ListN.{length}
use Rattle.shape.specs.Limits.{accepted}
use Rattle.model.specs.Calls.{outcome_of}
use Rattle.model.specs.Trace.{records_of}
use Rattle.model.specs.Merge.{mergeable}
use Rattle.model.specs.Reply.{reply_by}
use Rattle.days.specs.Records.{day_whole}
use Rattle.merge_laws.specs.FirstNamed.{unordered_days, other_length, days_merged}
use Rattle.merge.proofs.merge_days.Goals as goal
use Rattle.merge.proofs.merge_days.Goals.{After-is_mergeable-2}

-- the test of both days' clocks
ordered : (c : After-is_mergeable-2) → let a = c.args in (c.is_mergeable.result && c.is_mergeable-2.result) ≡ (mergeable (records_of a.a.now) && mergeable (records_of a.b.now))
ordered c = ap₂ ◌&&◌ c.is_mergeable.ensures c.is_mergeable-2.ensures

pub returns-then-not-ordered : goal.returns-then-not-ordered
unfolding reply_by
returns-then-not-ordered c =
    let a = c.args in
    unordered_days a.a.now a.b.now a.out.now (sym (ordered (goal.at.returns-then-not-ordered c).After-is_mergeable-2) ∙ c.if-not-ordered.true)

pub returns-then-not-fits : goal.returns-then-not-fits
unfolding reply_by
returns-then-not-fits c =
    let a = c.args in
    let in_order : (c.is_mergeable.result && c.is_mergeable-2.result) ≡ true = cc in
    other_length a.a.now a.b.now a.out.now (sym (ordered (goal.at.returns-then-not-fits c).After-is_mergeable-2) ∙ in_order) (sym c.is_sum-fits.ensures ∙ c.if-not-fits.true)

pub merge_records-requires : goal.merge_records-requires
merge_records-requires c =
    let a = c.args in
    (day_whole a.a.now c.requires.0, day_whole a.b.now c.requires.1, eqb-true (length a.out.now) (length a.a.now + length a.b.now) (sym c.is_sum-fits.ensures ∙ c.if-not-fits.false))

pub returns : goal.returns
unfolding reply_by
returns c =
    let a = c.args in
    ap (outcome_of (accepted [])) c.merge_records.ensures
    ∙ days_merged a.a.now a.b.now a.out.now (sym (ordered (goal.at.returns c).After-is_mergeable-2) ∙ c.if-not-ordered.false) (sym c.is_sum-fits.ensures ∙ c.if-not-fits.false)
