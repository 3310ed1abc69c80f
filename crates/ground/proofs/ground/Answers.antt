-- A refused question has no ground; otherwise only the block of the grade is handed on, and its window's ground is the answer.
use Rattle.std.proofs.lemmas.Result.{err_from_is_err_and}
use Rattle.model.specs.declared.Call.TheVariants.{Query}
use Rattle.model.specs.Reply.{reply_by}
use Rattle.book.specs.Head.{judgement_told}
use Rattle.judge.specs.Judge.{judged_open, judged_accepted, query_inside, query_whole}
use Rattle.ground.specs.Replies.{refused_reply, given_reply}
use Rattle.ground.proofs.ground.Goals as goal

pub returns-in_err-opened : goal.returns-in_err-opened
returns-in_err-opened c =
    let p = err_from_is_err_and c.from_residual.result c.from_residual.ensures.1 in
    rw (p.1, p.2) (refused_reply c.args.book.now c.args.grade c.args.window _ (judgement_told _ _ _ c.in_err-opened.ensures))

pub block_at-words-requires : goal.block_at-words-requires
block_at-words-requires c =
    query_inside c.args.book.now _ _ c.args.grade c.args.window (judged_open _ _ (Query c.args.grade c.args.window) c.in_ok-opened.ensures tt) (judged_accepted _ _ (Query c.args.grade c.args.window) c.in_ok-opened.ensures)

pub block_ground-ground-requires : goal.block_ground-ground-requires
block_ground-ground-requires c =
    rw c.block_at-words.ensures
    (query_whole c.args.book.now _ _ c.args.grade c.args.window (judged_open _ _ (Query c.args.grade c.args.window) c.in_ok-opened.ensures tt) (judged_accepted _ _ (Query c.args.grade c.args.window) c.in_ok-opened.ensures))

pub returns : goal.returns
unfolding reply_by
returns c =
    rw (c.block_ground-ground.ensures, c.block_at-words.ensures)
    (given_reply c.args.book.now _ _ c.args.grade c.args.window (judged_open _ _ (Query c.args.grade c.args.window) c.in_ok-opened.ensures tt) (judged_accepted _ _ (Query c.args.grade c.args.window) c.in_ok-opened.ensures))
