-- Only the block of the grade is handed on, and it comes back with the delivery.
use native.Mathlib.Omega.{arith}
use borrow.Rule.Slice.PartMut.{Post-is}
use Prim.Native.Nat.{◌+◌}
use native.Mathlib.Nat.{add-sub_cancel_left}
use Rattle.book.specs.Part.{block_within}
use Rattle.summary.specs.Outcome.{judged_outcome, delivery_inside, delivery_deliverable, delivered_outcome}
use Rattle.std.proofs.lemmas.Result.{err_from_is_err_and}
use Rattle.model.specs.declared.Call.TheVariants.{Delivery}
use Rattle.model.specs.Reply.{reply_by}
use Rattle.judge.specs.Judge.{judged_open, judged_accepted}
use Rattle.summary.proofs.delivery.Goals as goal

pub returns-in_err-opened : goal.returns-in_err-opened
returns-in_err-opened c =
    let p = err_from_is_err_and c.from_residual.result c.from_residual.ensures.1 in
    rw (p.1, p.2) (judged_outcome c.args.book.now (Delivery c.args.grade c.args.stamp c.args.volume) _ _ c.in_err-opened.ensures)

pub overflow_add-e : goal.overflow_add-e
overflow_add-e c =
    omega (arith, block_within (delivery_inside c.args.book.now c.in_ok-opened.opened.shape c.args.grade c.args.stamp c.args.volume (judged_open _ _ (Delivery c.args.grade c.args.stamp c.args.volume) c.in_ok-opened.ensures tt).same (judged_accepted _ _ (Delivery c.args.grade c.args.stamp c.args.volume) c.in_ok-opened.ensures)))

pub offset_bounds-book-a : goal.offset_bounds-book-a
offset_bounds-book-a c =
    omega (arith, block_within (delivery_inside c.args.book.now c.in_ok-opened.opened.shape c.args.grade c.args.stamp c.args.volume (judged_open _ _ (Delivery c.args.grade c.args.stamp c.args.volume) c.in_ok-opened.ensures tt).same (judged_accepted _ _ (Delivery c.args.grade c.args.stamp c.args.volume) c.in_ok-opened.ensures)))

pub slice_bounds-deliver_block-end : goal.slice_bounds-deliver_block-end
slice_bounds-deliver_block-end c =
    omega (arith, block_within (delivery_inside c.args.book.now c.in_ok-opened.opened.shape c.args.grade c.args.stamp c.args.volume (judged_open _ _ (Delivery c.args.grade c.args.stamp c.args.volume) c.in_ok-opened.ensures tt).same (judged_accepted _ _ (Delivery c.args.grade c.args.stamp c.args.volume) c.in_ok-opened.ensures)))

pub deliver_block-splits-requires : goal.deliver_block-splits-requires
deliver_block-splits-requires c =
    rw (c.block_start-a.ensures, c.block_len.ensures, add-sub_cancel_left)
    (delivery_deliverable c.args.book.now c.in_ok-opened.opened.shape c.args.grade c.args.stamp c.args.volume (judged_open _ _ (Delivery c.args.grade c.args.stamp c.args.volume) c.in_ok-opened.ensures tt).same (judged_accepted _ _ (Delivery c.args.grade c.args.stamp c.args.volume) c.in_ok-opened.ensures))

pub returns : goal.returns
unfolding reply_by
returns c =
    let a = c.block_start-a.result in
    let e = a + c.block_len.result in
    let done = c.deliver_block-splits.ensures in
    rw (done.count, done.words, Post-is a e c.args.book.now (omega arith), c.block_start-a.ensures, c.block_len.ensures, add-sub_cancel_left)
    (delivered_outcome c.args.book.now c.in_ok-opened.opened.shape c.args.grade c.args.stamp c.args.volume (judged_open _ _ (Delivery c.args.grade c.args.stamp c.args.volume) c.in_ok-opened.ensures tt).same (judged_accepted _ _ (Delivery c.args.grade c.args.stamp c.args.volume) c.in_ok-opened.ensures))
