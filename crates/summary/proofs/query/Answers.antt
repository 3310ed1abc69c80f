-- Only the block of the grade is handed on; its window's sum is the answer.
use Rattle.judge.specs.Judge.{query_inside, query_whole}
use Rattle.summary.specs.Outcome.{judged_outcome, asked_outcome}
use Rattle.std.proofs.lemmas.Result.{err_from_is_err_and}
use Rattle.model.specs.declared.Call.TheVariants.{Query}
use Rattle.model.specs.Reply.{reply_by}
use Rattle.judge.specs.Judge.{judged_open, judged_accepted}
use Rattle.summary.proofs.query.Goals as goal

pub returns-in_err-opened : goal.returns-in_err-opened
returns-in_err-opened c =
    let p = err_from_is_err_and c.from_residual.result c.from_residual.ensures.1 in
    rw (p.1, p.2) (judged_outcome c.args.book.now (Query c.args.grade c.args.window) _ _ c.in_err-opened.ensures)

pub block_at-words-requires : goal.block_at-words-requires
block_at-words-requires c =
    let a = c.args in
    query_inside a.book.now c.in_ok-opened.opened.shape c.in_ok-opened.opened.clock a.grade a.window (judged_open _ _ (Query c.args.grade c.args.window) c.in_ok-opened.ensures tt) (judged_accepted _ _ (Query c.args.grade c.args.window) c.in_ok-opened.ensures)

pub window_sum-sum-requires : goal.window_sum-sum-requires
window_sum-sum-requires c =
    let a = c.args in
    rw c.block_at-words.ensures (query_whole a.book.now c.in_ok-opened.opened.shape c.in_ok-opened.opened.clock a.grade a.window (judged_open _ _ (Query c.args.grade c.args.window) c.in_ok-opened.ensures tt) (judged_accepted _ _ (Query c.args.grade c.args.window) c.in_ok-opened.ensures))

pub returns : goal.returns
unfolding reply_by
returns c =
    let a = c.args in
    rw (c.window_sum-sum.ensures, c.block_at-words.ensures)
    (asked_outcome a.book.now c.in_ok-opened.opened.shape c.in_ok-opened.opened.clock a.grade a.window (judged_open _ _ (Query c.args.grade c.args.window) c.in_ok-opened.ensures tt) (judged_accepted _ _ (Query c.args.grade c.args.window) c.in_ok-opened.ensures))
