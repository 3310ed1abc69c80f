use mathlib.Core.Path.{◌≡◌, ap, ◌∙◌}
use mathlib.Core.List.{List}
use Prim.Native.Nat.{ℕ, suc, ◌+◌}
use native.Mathlib.Numerals.{add-one}
use lib.ListN.{get_or, set}
use Rattle.laws.specs.BlockWords.{block_words-halves}
use Rattle.laws.specs.DeliverSplits.{splits_from-start}
use Rattle.fill.specs.Fill.{Fills, Filling, filled, level_in, delivering_insertable, level_filled, level_splits_on}
use native.Mathlib.Omega.{arith}
use Rattle.fill.proofs.fill.Goals as goal
use Rattle.fill.proofs.fill.Goals.{After-from, After-insert_at-splits}

pub bounds-block-at : goal.bounds-block-at
bounds-block-at c =
    omega (arith, block_words-halves c.args.s, c.requires.deliverable.whole.size, c.requires.half)

pub bounds-block-at-2 : goal.bounds-block-at-2
bounds-block-at-2 c =
    omega (arith, block_words-halves c.args.s, c.requires.deliverable.whole.size, c.requires.half)

pub loop-i-init : goal.loop-i-init
loop-i-init c =
    let a = c.args in
    (omega arith, λ ws e f. record { words = e ∙ rw f.half; count = omega (arith, splits_from-start a.s a.stamp a.v ws) })

-- the words that the total was stored in are those that the function was given
start : (d : After-from)
    → let a = d.args in
    set a.block.now a.parity (d.from.result + a.v) ≡ set a.block.now a.parity (get_or a.block.now a.parity 0 + a.v)
start d = ap (λ (t : ℕ). set d.args.block.now d.args.parity (t + d.args.v)) d.from.ensures

pub insert_at-splits-requires : goal.insert_at-splits-requires
insert_at-splits-requires c =
    let l = c.loop-i in
    let a = c.args in
    let e = l.invariant.1 a.block.now (start (goal.at.insert_at-splits-requires c).After-from) c.requires in (
      rw e.words (level_in a.s a.stamp a.parity a.x a.v a.block.now c.requires l.i (omega arith)),
      rw e.words (delivering_insertable a.s a.stamp a.parity a.x a.v a.block.now c.requires l.i (omega arith)),
    )

-- level i has the volume too
filling : (d : After-insert_at-splits) (ws : List ℕ)
    → let a = d.args in
    set a.block.now a.parity (d.from.result + a.v) ≡ set ws a.parity (get_or ws a.parity 0 + a.v) → Fills a.s a.stamp a.parity a.x a.v ws
    → Filling a.s a.stamp a.v (suc d.loop-i.i) (d.loop-i.splits + d.insert_at-splits.result) ws d.insert_at-splits.new.block
filling d ws e f =
    let l = d.loop-i in
    let a = d.args in
    let done = d.insert_at-splits.ensures in
    let so = l.invariant.1 ws e f in
    record {
      words = done.words ∙ rw so.words (level_filled a.s a.stamp a.parity a.x a.v ws f l.i (omega arith));
      count = omega (arith, so.count, rw so.words at done.count, level_splits_on a.s a.stamp a.parity a.x a.v ws f l.i (omega arith));
    }

pub loop-i-preserved : goal.loop-i-preserved
loop-i-preserved c =
    let top = c.requires.deliverable.whole.proper in
    let d = (goal.at.loop-i-preserved c).After-insert_at-splits in
    (omega (arith, c.loop-i.invariant.0, c.insert_at-splits.ensures.most, top.limits.high_k), λ ws e f. rw (add-one c.loop-i.i) (filling d ws e f))

pub returns-2 : goal.returns-2
returns-2 c =
    let a = c.args in
    let last : c.loop-i.i ≡ a.s.last = omega arith in
    let d = (goal.at.returns-2 c).After-insert_at-splits in
    let so = rw last at (filling d a.block.now (start (goal.at.returns-2 c).After-from) c.requires) in
    let end = filled so c.requires.deliverable.whole in
    record { words = end.0; count = end.1 }
