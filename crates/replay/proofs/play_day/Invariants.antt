use Rattle.replay.specs.ReplayLaws.{Played}
use Rattle.replay.proofs.play_day.Given as goal

abbrev pub invariant-loop-i : goal.invariant-loop-i
invariant-loop-i l =
    Played l.initial.book l.day l.initial.answers l.i l.book l.answers
