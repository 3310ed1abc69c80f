-- A day that is not refused lies in the trace, so the part is its words.
use mathlib.Core.Path.{sym, ap, ◌∙◌}
use lib.ListN.{take, drop}
use Rattle.laws.specs.Refusals.{number_of_pos}
use Rattle.days.specs.declared.Pair.{Pair}
use Rattle.trace.specs.TraceLaws.{InTrace, at_in, refused-first, part_found, part_none}
use Rattle.trace.proofs.find_day.Goals as goal
use Rattle.trace.proofs.find_day.Goals.{In-Ok}

placed : (c : In-Ok) → InTrace c.args.trace.now c.args.day c.in-Ok.pair
placed c = at_in _ _ c.judge_day.result c.in-Ok.pair c.in-Ok.is c.judge_day.ensures

pub day_at-requires : goal.day_at-requires
day_at-requires c = (placed (goal.at.day_at-requires c).In-Ok).within

pub returns-in-Ok : goal.returns-in-Ok
returns-in-Ok c =
    let a = c.args in
    let p = placed (goal.at.returns-in-Ok c).In-Ok in
    c.day_at.ensures ∙ ap (λ (z : Pair). take z.length (drop z.start a.trace.now)) p.is ∙ sym (part_found a.trace.now a.day p.number)

pub returns-in-Err : goal.returns-in-Err
returns-in-Err c =
    let a = c.args in
    let why = c.in-Err.field-0 in
    let number = refused-first a.trace.now a.day c.judge_day.result why c.in-Err.is c.judge_day.ensures in
    sym (part_none a.trace.now a.day (λ e. number_of_pos why (number ∙ e)))
