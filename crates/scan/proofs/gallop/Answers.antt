use mathlib.Core.Path.{sym, ◌∙◌}
use Prim.Native.Nat.{◌-◌, ◌≤◌}
use native.Mathlib.Omega.{arith}
use lib.ListN.{get_or}
use Rattle.model.specs.Words.{slots, decode_level}
use Rattle.laws.specs.LevelWords.{length-slots}
use Rattle.laws.specs.SlotOf.{slot_of, slot_of_le}
use Rattle.scan.specs.Search.{past-most, past-least}
use Rattle.scan.proofs.gallop.Goals as goal
use Rattle.scan.proofs.gallop.Goals.{In-loop-high}

pub loop-high-init : goal.loop-high-init
unfolding decode_level
loop-high-init c =
    let a = c.args in
    let ws = a.level.now in
    let all = get_or ws 0 0 in
    omega (arith, slot_of_le a.x (slots ws 0 all), length-slots ws 0 all)

-- the tested slot exists, and bounds the slot of x
stepped : (c : In-loop-high) →
    let a = c.args in
    (c.loop-high.step ≤ c.loop-high.high) × (slot_of a.x (decode_level a.level.now).buckets ≤ c.loop-high.high - c.loop-high.step)
stepped c =
    let a = c.args in
    let i = c.loop-high.invariant in
    past-most a.level.now c.loop-high.high c.loop-high.step a.x i.0 i.2 (sym c.is_past.ensures ∙ c.loop-high-test.true)

pub overflow_sub-high : goal.overflow_sub-high
overflow_sub-high c = (stepped (goal.at.overflow_sub-high c).In-loop-high).0

pub overflow_mul-step : goal.overflow_mul-step
overflow_mul-step c = omega (arith, (stepped (goal.at.overflow_mul-step c).In-loop-high).0)

pub loop-high-smaller : goal.loop-high-smaller
loop-high-smaller c = omega (arith, (stepped (goal.at.loop-high-smaller c).In-loop-high).0)

pub loop-high-preserved : goal.loop-high-preserved
loop-high-preserved c = omega (arith, (stepped (goal.at.loop-high-preserved c).In-loop-high).1)

pub returns : goal.returns
returns c =
    let a = c.args in
    let i = c.loop-high.invariant in
    let ended = sym c.is_past.ensures ∙ c.loop-high-test.false in
    omega
    (arith, past-least a.level.now c.loop-high.high c.loop-high.step a.x i.0 i.2 c.requires.0 ended c.if-high-step.false)
