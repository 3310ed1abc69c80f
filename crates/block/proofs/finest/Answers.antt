-- The levels before have F above the offset, so the first that has not is the one that serves; the last has evicted nothing.
use native.Mathlib.Omega.{arith}
use mathlib.Core.Path.{◌≡◌}
use Rattle.block.specs.Steps.{last_index}
use Rattle.block.proofs.finest.Goals as goal

pub returns : goal.returns
returns c =
    let l = c.loop-finest in
    let all : l.finest ≡ c.args.s.last = omega arith in
    omega (arith, rw all at l.invariant.1, last_index c.args.s c.args.block.now c.requires.0 c.args.parity c.requires.1 c.args.a)
