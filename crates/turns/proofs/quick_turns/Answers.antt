use Rattle.std.proofs.Common.{◌+◌, ◌≤◌, length, arith}
use Rattle.quick_laws.proofs.RowsLaws.{quick_turns-start, quick_turns_room, quick_turns_next, goes_room}
use Rattle.turns.proofs.quick_turns.Goals as goal
use Rattle.turns.proofs.quick_turns.Goals.{In-loop-rest}

pub loop-rest-init : goal.loop-rest-init
loop-rest-init c =
    let a = c.args in
    rw (c.fresh-4.ensures, c.fresh-3.ensures, c.fresh-2.ensures, c.fresh.ensures)
    (quick_turns-start a.least a.most a.level.now a.count)

pub goes_on-requires : goal.goes_on-requires
goes_on-requires c = omega (arith, c.loop-rest.invariant.0.within)

-- sixteen slots are left
more : (c : In-loop-rest) → c.loop-rest.at + 16 ≤ c.args.count
more c = goes_room c.loop-rest.t.gap _ _ (rw c.goes_on.ensures at c.loop-rest-test.true)

left : (c : In-loop-rest) → 48 ≤ length c.loop-rest.rest.now
left c =
    let a = c.args in
    quick_turns_room a.least a.most a.level.now a.count c.loop-rest.t c.loop-rest.rest.now c.loop-rest.at c.loop-rest.invariant (omega (arith, c.requires)) (more c)

pub quick_turn-t-requires : goal.quick_turn-t-requires
quick_turn-t-requires c = left (goal.at.quick_turn-t-requires c).In-loop-rest

pub slice_bounds-rest-count-in-loop-rest : goal.slice_bounds-rest-count-in-loop-rest
slice_bounds-rest-count-in-loop-rest c = left (goal.at.slice_bounds-rest-count-in-loop-rest c).In-loop-rest

pub slice_bounds-rest-start-in-loop-rest : goal.slice_bounds-rest-start-in-loop-rest
slice_bounds-rest-start-in-loop-rest c = left (goal.at.slice_bounds-rest-start-in-loop-rest c).In-loop-rest

pub overflow_add-at : goal.overflow_add-at
overflow_add-at c = omega (arith, more (goal.at.overflow_add-at c).In-loop-rest, c.requires)

pub loop-rest-smaller : goal.loop-rest-smaller
loop-rest-smaller c = omega (arith, more (goal.at.loop-rest-smaller c).In-loop-rest)

pub loop-rest-preserved : goal.loop-rest-preserved
loop-rest-preserved c =
    let a = c.args in
    rw c.quick_turn-t.ensures
    (quick_turns_next a.least a.most a.level.now a.count c.loop-rest.t c.loop-rest.rest.now c.loop-rest.at c.loop-rest.invariant (more (goal.at.loop-rest-preserved c).In-loop-rest))

pub returns : goal.returns
returns c = c.loop-rest.invariant.0
