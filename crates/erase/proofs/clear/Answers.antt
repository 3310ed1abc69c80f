-- Emptying both halves, one after the other, leaves the empty block.
use mathlib.Core.Path.{ap, ◌∙◌}
use native.Mathlib.Omega.{arith}
use Rattle.laws.specs.HalfWrites.{emptied, emptied-both}
use Rattle.erase.proofs.clear.Goals as goal

pub returns : goal.returns
returns c =
    c.clear_half-2.ensures ∙ ap (emptied c.args.s 1) c.clear_half.ensures ∙ emptied-both c.args.s (omega arith) c.args.block.now c.requires.size
