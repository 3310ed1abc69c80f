-- Zeros are level 0 of an empty half; the count and the width of one bucket make them any other level.
use mathlib.Core.Path.{◌≡◌}
use native.Mathlib.Omega.{arith}
use Rattle.erase.specs.Blank.{empty_lowest, empty_upper}
use Rattle.erase.proofs.clear_level.Goals as goal

pub returns-then-i-gt0 : goal.returns-then-i-gt0
returns-then-i-gt0 c =
    rw (c.power.ensures, c.fill.ensures.after (λ y e. e), c.requires.0) (empty_upper c.args.s.n c.args.s.k c.args.i (omega arith) c.if-i-gt0.true)

pub returns-else-i-gt0 : goal.returns-else-i-gt0
returns-else-i-gt0 c =
    let none : c.args.i ≡ 0 = omega arith in
    rw (c.fill.ensures.after (λ y e. e), c.requires.0, none) (empty_lowest c.args.s.n c.args.s.k)
