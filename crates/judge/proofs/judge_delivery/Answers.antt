-- A refusal of the head is the refusal of the call; otherwise the book is open.
use Rattle.std.proofs.lemmas.Result.{err_from_is_err_and}
use Rattle.model.specs.declared.Call.TheVariants.{Delivery}
use Rattle.judge.specs.Judge.{open_refused, opened_open}
use Rattle.judge.proofs.judge_delivery.Goals as goal

pub judge_delivery_in-requires : goal.judge_delivery_in-requires
judge_delivery_in-requires c = opened_open c.args.book.now c.in_ok-opened.opened c.in_ok-opened.ensures

pub returns-in_err-opened : goal.returns-in_err-opened
returns-in_err-opened c =
    let p = err_from_is_err_and c.from_residual.result c.from_residual.ensures.1 in
    rw (p.1, p.2) (open_refused c.args.book.now _ c.in_err-opened.ensures (Delivery c.args.grade c.args.stamp c.args.volume) tt)
