-- The constructor refuses what is outside the limits; otherwise the shape is that of these numbers.
use Rattle.std.proofs.Common.{◌≡◌, refl, sym, ap, ◌∙◌, arith, Some, None}
use Rattle.std.proofs.lemmas.Result.{err_from_is_err_and}
use Rattle.shape.specs.declared.Shape.{Shape}
use Rattle.shape.specs.Limits.{reply_of}
use Rattle.shape.specs.LimitsLaws.{checked-within, checked_outside, within_limits}
use Rattle.model.specs.declared.Call.TheVariants.{Make}
use Rattle.model.specs.declared.Refusal.TheVariants as Refusal
use Rattle.model.specs.Calls.{perform}
use Rattle.summary.specs.Outcome.{refused_outcome, make_outside}
use Rattle.summary.proofs.make.Goals as goal

pub make_shape-requires : goal.make_shape-requires
make_shape-requires c =
    let a = c.args in
    let some : c.new.result ≡ Some c.in_ok-shape.shape = grind arith in
    let t = checked-within a.k a.n a.m a.g c.in_ok-shape.shape (ap reply_of (sym some) ∙ c.new.ensures) in
    rw t.1 (record { limits = within_limits a.k a.n a.m a.g t.0; last = refl })

pub returns : goal.returns
returns c =
    let a = c.args in
    let some : c.new.result ≡ Some c.in_ok-shape.shape = grind arith in
    let t = checked-within a.k a.n a.m a.g c.in_ok-shape.shape (ap reply_of (sym some) ∙ c.new.ensures) in
    c.make_shape.ensures ∙ ap (λ (z : Shape). perform a.book.now (Make z.k z.n z.m z.g)) t.1

pub returns-in_err-shape : goal.returns-in_err-shape
returns-in_err-shape c =
    let a = c.args in
    let p = err_from_is_err_and c.from_residual.result c.from_residual.ensures.1 in
    let none : c.new.result ≡ None = grind arith in
    let why : c.in_err-shape.field-0.0 ≡ Refusal.Shape = grind arith in
    rw (p.1, p.2, why)
    (refused_outcome a.book.now (Make a.k a.n a.m a.g) _ Refusal.Shape
    (make_outside a.book.now a.k a.n a.m a.g (checked_outside a.k a.n a.m a.g (ap reply_of (sym none) ∙ c.new.ensures))))
