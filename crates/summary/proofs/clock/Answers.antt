-- The head is written; the blocks stay sound under it and are advanced.
use Rattle.judge.specs.Judge.{open_size}
use Rattle.summary.specs.Outcome.{judged_outcome, book_long, headed-sound, clocked_outcome}
use Rattle.std.proofs.lemmas.Result.{err_from_is_err_and}
use Rattle.model.specs.declared.Call.TheVariants.{Clock}
use Rattle.model.specs.Reply.{reply_by}
use Rattle.judge.specs.Judge.{judged_open, judged_accepted}
use Rattle.summary.proofs.clock.Goals as goal

pub returns-in_err-opened : goal.returns-in_err-opened
returns-in_err-opened c =
    let p = err_from_is_err_and c.from_residual.result c.from_residual.ensures.1 in
    rw (p.1, p.2) (judged_outcome c.args.book.now (Clock c.args.to) _ _ c.in_err-opened.ensures)

pub write_head-requires : goal.write_head-requires
write_head-requires c =
    book_long c.in_ok-opened.opened.shape c.args.book.now (open_size c.args.book.now c.in_ok-opened.opened.shape c.in_ok-opened.opened.clock (judged_open _ _ (Clock c.args.to) c.in_ok-opened.ensures tt))

pub advance_blocks-requires : goal.advance_blocks-requires
advance_blocks-requires c =
    rw c.write_head.ensures (headed-sound c.args.book.now c.in_ok-opened.opened.shape c.in_ok-opened.opened.clock c.args.to (judged_open _ _ (Clock c.args.to) c.in_ok-opened.ensures tt) (judged_accepted _ _ (Clock c.args.to) c.in_ok-opened.ensures))

pub returns : goal.returns
unfolding reply_by
returns c =
    rw (c.advance_blocks.ensures, c.write_head.ensures)
    (clocked_outcome c.args.book.now c.in_ok-opened.opened.shape c.in_ok-opened.opened.clock c.args.to (judged_open _ _ (Clock c.args.to) c.in_ok-opened.ensures tt) (judged_accepted _ _ (Clock c.args.to) c.in_ok-opened.ensures))
