-- Each test is one conjunct of `within`: the first that fails makes it false, and after the last it is true.
use Rattle.std.proofs.Common.{◌≡◌, true, sym, ◌∙◌}
use Rattle.shape.specs.Limits.{within, checked, reply_of}
use Rattle.shape.proofs.Shape.new.Goals as goal
use Rattle.shape.proofs.Shape.new.Goals.{After-is_between-4, Else-not-is_between-4}

-- after the first three tests the last decides
last_decides : (c : After-is_between-4) → within c.args.k c.args.n c.args.m c.args.g ≡ c.is_between-4.result
unfolding within
last_decides c =
    simp (
      sym c.is_between.ensures ∙ c.if-not-is_between.false,
      sym c.is_between-2.ensures ∙ c.if-not-is_between-2.false,
      sym c.is_between-3.ensures ∙ c.if-not-is_between-3.false,
      ← c.is_between-4.ensures,
    )

all_in : (c : Else-not-is_between-4) → within c.args.k c.args.n c.args.m c.args.g ≡ true
all_in c = last_decides c.before ∙ c.if-not-is_between-4.false

pub returns-then-not-is_between : goal.returns-then-not-is_between
unfolding reply_of checked within
returns-then-not-is_between c = simp (sym c.is_between.ensures ∙ c.if-not-is_between.true)

pub returns-then-not-is_between-2 : goal.returns-then-not-is_between-2
unfolding reply_of checked within
returns-then-not-is_between-2 c =
    simp (
      sym c.is_between.ensures ∙ c.if-not-is_between.false,
      sym c.is_between-2.ensures ∙ c.if-not-is_between-2.true,
    )

pub returns-then-not-is_between-3 : goal.returns-then-not-is_between-3
unfolding reply_of checked within
returns-then-not-is_between-3 c =
    simp (
      sym c.is_between.ensures ∙ c.if-not-is_between.false,
      sym c.is_between-2.ensures ∙ c.if-not-is_between-2.false,
      sym c.is_between-3.ensures ∙ c.if-not-is_between-3.true,
    )

pub returns-then-not-is_between-4 : goal.returns-then-not-is_between-4
unfolding reply_of checked
returns-then-not-is_between-4 c = simp (last_decides c.before ∙ c.if-not-is_between-4.true)

pub returns : goal.returns
unfolding reply_of checked
returns c = simp (all_in (goal.at.returns c).Else-not-is_between-4)
