-- Each return follows from the first of the head's conditions, or the length, that fails.
use borrow.Author.Tests.{eq-eqb, ne_eqb}
use mathlib.Core.Bool.{cond, not}
use mathlib.Core.Path.{◌≡◌, refl, ◌∙◌}
use Prim.Native.Nat.{◌≤◌}
use lib.Dec.{eqb}
use lib.ListN.{length}
use Rattle.model.specs.Words.{clock_of}
use Rattle.model.specs.Sound.{max_clock}
use Rattle.book.specs.Judgement.{opened_number}
use Rattle.book.specs.Head.{told_judgement, opened-ahead, opened_rest}
use Rattle.book.proofs.head.with_shape.Goals as goal
use Rattle.book.proofs.head.with_shape.Goals.{After-book_len}

-- what is left to prove, by the tests of the words
told : (c : After-book_len) → let a = c.args in clock_of a.book.now ≤ max_clock
    → opened_number a.book.now ≡ cond (not c.is_blank-blank.result) 7 (cond (not (eqb (length a.book.now) c.book_len.result)) 2 0)
told c early = opened_rest _ c.requires early ∙ rw (c.is_blank-blank.ensures, c.book_len.ensures)

pub returns-then-clock-gt-MAX_CLOCK : goal.returns-then-clock-gt-MAX_CLOCK
returns-then-clock-gt-MAX_CLOCK c = told_judgement _ _ _ (opened-ahead _ c.requires c.if-clock-gt-MAX_CLOCK.true)

pub returns-then-not-blank : goal.returns-then-not-blank
returns-then-not-blank c = told_judgement _ _ _ (told (goal.at.returns-then-not-blank c).After-book_len c.if-clock-gt-MAX_CLOCK.false ∙ rw c.if-not-blank.true)

pub returns-then-not-whole : goal.returns-then-not-whole
returns-then-not-whole c = told_judgement _ _ _ (told (goal.at.returns-then-not-whole c).After-book_len c.if-clock-gt-MAX_CLOCK.false ∙ rw (c.if-not-blank.false, ne_eqb _ _ c.if-not-whole.true))

pub returns-else-not-whole : goal.returns-else-not-whole
returns-else-not-whole c =
    told_judgement _ _ _ (told (goal.at.returns-else-not-whole c).After-book_len c.if-clock-gt-MAX_CLOCK.false ∙ rw (c.if-not-blank.false, eq-eqb _ _ c.if-not-whole.false), c.requires.same, refl)
