use mathlib.Core.Path.{◌≡◌, ap, ◌∙◌}
use Prim.Native.Nat.{suc}
use native.Mathlib.Omega.{arith}
use lib.ListN.{set}
use Rattle.laws.specs.BlockWrites.{with_level}
use Rattle.laws.specs.BlockWords.{block_words-halves}
use Rattle.laws.specs.HalfWrites.{with_levels, empty_words, emptied}
use Rattle.erase.proofs.clear_half.Goals as goal
use Rattle.erase.proofs.clear_half.Goals.{After-clear_at}

pub bounds-block-at : goal.bounds-block-at
bounds-block-at c = omega (arith, block_words-halves c.args.s, c.requires.0.size, c.requires.1)

written : (d : After-clear_at)
    → let a = d.args in
    d.clear_at.new.block ≡ with_levels a.s a.parity (empty_words a.s) (suc d.loop-i.i) (set a.block.now a.parity 0)
written d =
    let a = d.args in
    d.clear_at.ensures ∙ ap (with_level a.s a.parity d.loop-i.i (empty_words a.s d.loop-i.i)) d.loop-i.invariant

pub returns-2 : goal.returns-2
unfolding emptied
returns-2 c =
    let last : c.loop-i.i ≡ c.args.s.last = omega arith in
    rw last at (written (goal.at.returns-2 c).After-clear_at)
