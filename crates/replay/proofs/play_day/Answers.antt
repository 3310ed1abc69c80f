-- What is played and what is left give the whole replay; the words past the answers are kept.
use native.Mathlib.Omega.{arith}
use Rattle.days.specs.Records.{length_records}
use Rattle.replay.specs.ReplayLaws.{played_start, played_step, played_end}
use Rattle.replay.proofs.play_day.Goals as goal

pub loop-i-init : goal.loop-i-init
loop-i-init c =
    let a = c.args in
    played_start a.book.now a.day.now a.answers.now

pub play-requires : goal.play-requires
play-requires c = omega (arith, c.requires, length_records c.args.day.now)

pub loop-i-preserved : goal.loop-i-preserved
loop-i-preserved c =
    let a = c.args in
    let step = played_step a.book.now a.day.now a.answers.now c.loop-i.i c.loop-i.book c.loop-i.answers c.loop-i.invariant c.loop-i-test.true (omega (arith, c.requires, length_records a.day.now)) in
    rw (c.play.ensures.left, c.play.ensures.told, c.record_at.ensures) step

pub returns : goal.returns
returns c =
    let a = c.args in
    let p = played_end a.book.now a.day.now a.answers.now c.loop-i.i c.loop-i.book c.loop-i.answers c.loop-i.invariant c.loop-i-test.false (omega (arith, c.requires, length_records a.day.now)) in
    record { left = p.0; told = p.1 }
