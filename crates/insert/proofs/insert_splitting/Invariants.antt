use mathlib.Core.Path.{◌≡◌}
use Prim.Native.Nat.{◌+◌}
use Rattle.model.specs.Level.{insert, insert_splits}
use Rattle.model.specs.Words.{slot, decode_level}
use Rattle.insert.specs.Ready.{Ready}
use Rattle.insert.proofs.insert_splitting.Given as goal

abbrev pub invariant-loop-splits : goal.invariant-loop-splits
invariant-loop-splits l =
    Ready l.n l.i l.x l.rest l.slot l.level × (insert l.n l.i l.x l.rest (decode_level l.level) ≡ insert l.n l.i l.x l.v (decode_level l.initial.level))
    × (l.splits + insert_splits l.n l.i l.x l.rest (decode_level l.level) ≡ insert_splits l.n l.i l.x l.v (decode_level l.initial.level))

abbrev pub decreases-loop-splits : goal.decreases-loop-splits
decreases-loop-splits l = (slot l.level l.slot).width
