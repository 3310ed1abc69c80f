-- The two cases of a day that was found.
use native.Mathlib.Omega.{arith}
use Rattle.model.specs.Reply.{reply_by}
use Rattle.days.specs.Records.{length_records}
use Rattle.replay.specs.Part.{part_cramped, part_played}
use Rattle.replay.proofs.replay_part.Goals as goal

pub returns-then-answers-day : goal.returns-then-answers-day
unfolding reply_by
returns-then-answers-day c =
    let a = c.args in
    part_cramped a.book.now a.day.now a.answers.now (omega (arith, c.if-answers-day.true, length_records a.day.now))

pub play_day-requires : goal.play_day-requires
play_day-requires c = omega (arith, c.if-answers-day.false, length_records c.args.day.now)

pub returns : goal.returns
unfolding reply_by
returns c =
    let a = c.args in
    rw (c.play_day.ensures.left, c.play_day.ensures.told)
    (part_played a.book.now a.day.now a.answers.now (omega (arith, c.if-answers-day.false, length_records a.day.now)))
