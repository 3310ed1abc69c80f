-- The constructor says whether the shape is within its limits; the rest is `with_shape`.
use Rattle.std.proofs.Common.{◌≡◌, sym, ap, ◌∙◌, arith, Some, None}
use Rattle.std.proofs.lemmas.Result.{err_from_is_err_and}
use Rattle.model.specs.declared.Refusal.TheVariants.{Head}
use Rattle.shape.specs.Limits.{reply_of}
use Rattle.book.specs.Head.{told_judgement, opened_short, opened-unsound, head_outside}
use Rattle.shape.specs.LimitsLaws.{checked-within, checked_outside}
use Rattle.book.proofs.head.open.Goals as goal

pub returns-then-book-lt-HEAD_LEN : goal.returns-then-book-lt-HEAD_LEN
returns-then-book-lt-HEAD_LEN c = told_judgement _ _ _ (opened_short c.args.book.now (omega (arith, c.if-book-lt-HEAD_LEN.true)))

pub returns-in_err-shape : goal.returns-in_err-shape
returns-in_err-shape c =
    let p = err_from_is_err_and c.from_residual.result c.from_residual.ensures.1 in
    let none : c.new.result ≡ None = grind arith in
    let why : c.in_err-shape.field-0.0 ≡ Head = grind arith in
    rw (p.1, p.2, why)
    (told_judgement _ _ _
    (opened-unsound _ c.if-book-lt-HEAD_LEN.false
    (head_outside _ (checked_outside _ _ _ _ (ap reply_of (sym none) ∙ c.new.ensures)))))

pub with_shape-requires : goal.with_shape-requires
with_shape-requires c =
    let some : c.new.result ≡ Some c.in_ok-shape.shape = grind arith in
    let t = checked-within _ _ _ _ c.in_ok-shape.shape (ap reply_of (sym some) ∙ c.new.ensures) in
    record { long = c.if-book-lt-HEAD_LEN.false; inside = t.0; same = t.1 }
