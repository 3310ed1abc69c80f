-- A wrong length is refused; otherwise the head is written and every block emptied.
use mathlib.Core.Path.{sym, ◌∙◌}
use Rattle.summary.specs.Outcome.{book_long, misfit_outcome, made_outcome}
use Rattle.model.specs.Reply.{reply_by}
use Rattle.summary.proofs.make_shape.Goals as goal

pub returns-then-book-book_len : goal.returns-then-book-book_len
returns-then-book-book_len c =
    misfit_outcome c.args.shape c.requires c.args.book.now (λ e. c.if-book-book_len.true (e ∙ sym c.book_len.ensures))

pub write_head-requires : goal.write_head-requires
write_head-requires c =
    book_long c.args.shape c.args.book.now (c.if-book-book_len.false ∙ c.book_len.ensures)

pub returns : goal.returns
unfolding reply_by
returns c =
    rw (c.clear_blocks.ensures, c.write_head.ensures)
    (made_outcome c.args.shape c.requires c.args.book.now (c.if-book-book_len.false ∙ c.book_len.ensures))
