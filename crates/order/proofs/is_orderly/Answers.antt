-- The records that are left to test at i, after the clock of those before, give the whole test.
use native.Mathlib.Omega.{arith}
use mathlib.Core.Path.{sym, ap, ◌∙◌}
use Prim.Native.Nat.{◌≤◌}
use Rattle.model.specs.Sound.{max_clock}
use Rattle.model.specs.Merge.{clock_after}
use Rattle.order.specs.OrderLaws.{orderly-start, orderly_end, orderly-falls, orderly_passes, orderly_step}
use Rattle.order.proofs.is_orderly.Goals as goal

pub loop-i-init : goal.loop-i-init
loop-i-init c = orderly-start c.args.day.now

pub returns-then-next-clock : goal.returns-then-next-clock
returns-then-next-clock c =
    let is = c.clock_after-next.ensures ∙ ap (clock_after c.loop-i.clock) c.record_at.ensures in
    sym (orderly-falls c.args.day.now c.loop-i.i c.loop-i.clock _ c.loop-i-test.true is c.if-next-clock.true) ∙ c.loop-i.invariant

pub returns-then-next-gt-MAX_CLOCK : goal.returns-then-next-gt-MAX_CLOCK
returns-then-next-gt-MAX_CLOCK c =
    let is = c.clock_after-next.ensures ∙ ap (clock_after c.loop-i.clock) c.record_at.ensures in
    sym (orderly_passes c.args.day.now c.loop-i.i c.loop-i.clock _ c.loop-i-test.true is (omega (arith, c.if-next-gt-MAX_CLOCK.true))) ∙ c.loop-i.invariant

pub loop-i-preserved : goal.loop-i-preserved
loop-i-preserved c =
    let is = c.clock_after-next.ensures ∙ ap (clock_after c.loop-i.clock) c.record_at.ensures in
    let low : c.clock_after-next.result ≤ max_clock = omega arith in
    sym (orderly_step c.args.day.now c.loop-i.i c.loop-i.clock _ c.loop-i-test.true is c.if-next-clock.false low) ∙ c.loop-i.invariant

pub returns : goal.returns
returns c =
    sym (orderly_end c.args.day.now c.loop-i.i c.loop-i.clock c.loop-i-test.false) ∙ c.loop-i.invariant
