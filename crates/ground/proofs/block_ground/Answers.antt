-- Window 0 is answered at once, another one from its opening.
use mathlib.Core.Path.{sym}
use native.Mathlib.Omega.{arith}
use Rattle.model.specs.Words.{decode_block}
use Rattle.laws.specs.GroundLaws.{ground-none}
use Rattle.ground.proofs.block_ground.Goals as goal

pub returns-then-window-eq0 : goal.returns-then-window-eq0
returns-then-window-eq0 c =
    let a = c.args in
    sym (ground-none a.opened.shape a.opened.clock a.window (decode_block a.opened.shape a.block.now) c.if-window-eq0.true)

pub opened_ground-requires : goal.opened_ground-requires
opened_ground-requires c = (c.requires, omega (arith, c.if-window-eq0.false))
