use mathlib.Core.Path.{ap}
use Prim.Native.Nat.{◌≤◌}
use native.Mathlib.Omega.{arith}
use lib.ListN.{length, drop_of_length-le}
use Rattle.model.specs.Words.{decode_level}
use Rattle.model.specs.Block.{sum_from}
use Rattle.scan.proofs.sum_from.Goals as goal

pub returns : goal.returns
unfolding decode_level
returns c =
    let all = c.slots-words-items.result.now in
    let none : length all ≤ c.loop-words.words-index = omega arith in
    omega (arith, rw (drop_of_length-le all none) at c.loop-words.invariant.1, ap (sum_from c.args.a) c.slots-words-items.ensures.0)
