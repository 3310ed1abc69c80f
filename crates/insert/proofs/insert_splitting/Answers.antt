-- Inserting the rest into the bucket at hand gives what inserting all of it gave at first, and the splits so far with those of the rest are
-- all of its splits. Each split halves the width of that bucket, which is the measure.
use mathlib.Core.Path.{sym, ap, ◌∙◌}
use native.Mathlib.Omega.{arith}
use Rattle.model.specs.Words.{slot, encode_level}
use Rattle.insert.specs.Ready.{splits_few, no_splits, filled}
use Rattle.insert.specs.Loop.{has_room}
use Rattle.insert.proofs.insert_splitting.Goals as goal

pub overflow_add-splits : goal.overflow_add-splits
overflow_add-splits c =
    omega (arith, c.loop-splits.invariant.2, splits_few c.requires)

pub returns : goal.returns
returns c =
    let a = c.args in
    let here = slot c.loop-splits.level c.loop-splits.slot in
    let room = has_room a.i c.loop-splits.rest here (sym c.gets_full.ensures ∙ c.loop-splits-test.false) in
    record { words = c.gain.ensures ∙ filled c.loop-splits.invariant.0 room ∙ ap (encode_level _) c.loop-splits.invariant.1; count = omega (arith, c.loop-splits.invariant.2, no_splits c.loop-splits.invariant.0 room) }
