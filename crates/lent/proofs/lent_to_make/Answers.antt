-- The constructor says whether the shape is within its limits.
use mathlib.Core.Path.{sym, ap, ◌∙◌}
use Prim.Native.Nat.{ℕ, min}
use Rattle.shape.specs.Limits.{reply_of}
use Rattle.shape.specs.LimitsLaws.{checked-within, checked_outside}
use Rattle.shape.specs.Layout.{book_words}
use Rattle.lent.proofs.lent_to_make.Goals as goal

pub returns-in-Some : goal.returns-in-Some
returns-in-Some c =
    let a = c.args in
    let t = checked-within a.k a.n a.m a.g c.in-Some.shape (ap reply_of (sym c.in-Some.is) ∙ c.new.ensures) in
    c.min.ensures ∙ ap (λ (x : ℕ). min x a.all) (c.book_len.ensures ∙ ap book_words t.1) ∙ rw t.0

pub returns-in-None : goal.returns-in-None
returns-in-None c =
    let a = c.args in
    rw (checked_outside a.k a.n a.m a.g (ap reply_of (sym c.in-None.is) ∙ c.new.ensures))
