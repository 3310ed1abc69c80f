-- If the tests of the quick pass hold, its bound or the sum of the weights answers; else the exact pass does.
use Rattle.std.proofs.Common.{arith, leb-true}
use Rattle.quick_laws.proofs.QuickLaws.{is_tried_tests}
use Rattle.quick_laws.proofs.Weighs.{is_enough-weighs, bounded_weighs}
use Rattle.quick.proofs.sound_buckets.Goals as goal

pub quick_buckets-t-requires : goal.quick_buckets-t-requires
quick_buckets-t-requires c =
    let a = c.args in
    let p = (is_tried_tests a.count a.i).0 (rw c.is_tried.ensures at c.if-is_tried.true) in
    (omega (arith, c.requires), omega (arith, c.requires), p.1)

pub returns-then-is_bounded : goal.returns-then-is_bounded
returns-then-is_bounded c =
    let a = c.args in
    let rows = rw (c.most_of-high.ensures, c.least_of-low.ensures) at c.quick_buckets-t.ensures in
    let bound = rw (c.is_bounded.ensures, c.least_of-low.ensures) at c.if-is_bounded.true in
    bounded_weighs a.level.now a.count a.k (omega (arith, c.requires)) a.i a.total c.quick_buckets-t.result (omega (arith, c.requires))
    (rw c.is_tried.ensures at c.if-is_tried.true) rows (rw c.is_enough.ensures at c.if-is_enough.true) c.if-first-gt0.true
    (leb-true _ _ bound)

pub returns-then-is_enough : goal.returns-then-is_enough
returns-then-is_enough c =
    let a = c.args in
    let rows = rw (c.most_of-high.ensures, c.least_of-low.ensures) at c.quick_buckets-t.ensures in
    rw (c.weighs.ensures, c.from.ensures)
    (is_enough-weighs a.level.now a.count a.k (omega (arith, c.requires)) a.i a.total c.quick_buckets-t.result c.weight_of.result
    (omega (arith, c.requires)) (omega (arith, c.requires)) (rw c.is_tried.ensures at c.if-is_tried.true) rows
    (rw c.is_enough.ensures at c.if-is_enough.true) (rw c.slots.ensures.0 at c.weight_of.ensures))

pub quick_buckets-t-requires-else-first-gt0 : goal.quick_buckets-t-requires-else-first-gt0
quick_buckets-t-requires-else-first-gt0 c =
    let a = c.args in
    let p = (is_tried_tests a.count a.i).0 (rw c.is_tried.ensures at c.if-is_tried.true) in
    (omega (arith, c.requires), omega (arith, c.requires), p.1)

pub returns-then-is_enough-2 : goal.returns-then-is_enough-2
returns-then-is_enough-2 c =
    let a = c.args in
    let rows = rw (c.most_of-high.ensures, c.least_of-low.ensures) at c.quick_buckets-t-else-first-gt0.ensures in
    rw (c.weighs-then-is_enough-2.ensures, c.from-then-is_enough-2.ensures)
    (is_enough-weighs a.level.now a.count a.k (omega (arith, c.requires)) a.i a.total c.quick_buckets-t-else-first-gt0.result c.weight_of-then-is_enough-2.result
    (omega (arith, c.requires)) (omega (arith, c.requires)) (rw c.is_tried.ensures at c.if-is_tried.true) rows
    (rw c.is_enough-else-first-gt0.ensures at c.if-is_enough-2.true)
    (rw c.slots-then-is_enough-2.ensures.0 at c.weight_of-then-is_enough-2.ensures))

pub returns : goal.returns
returns c =
    let v = rw c.slots-2.ensures.0 at c.judge_seen-v.ensures in
    rw (c.weighs-right.ensures, v.1, v.0)
