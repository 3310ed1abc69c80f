-- The match says which answer it is.
use native.Mathlib.Omega.{arith}
use Rattle.model.specs.Reply.{reply_by}
use Rattle.replay.proofs.answer_sum.Goals as goal

pub overflow_cast-result : goal.overflow_cast-result
unfolding reply_by
overflow_cast-result c = omega (arith, rw (c.in-Ok-Sum.is, rw c.in-Ok-Sum.is at c.in-Ok-Sum.field-0-is) at c.requires)

pub returns-in-Ok-Sum : goal.returns-in-Ok-Sum
unfolding reply_by
returns-in-Ok-Sum c = rw (c.in-Ok-Sum.is, rw c.in-Ok-Sum.is at c.in-Ok-Sum.field-0-is)

pub returns-in-Ok-Done : goal.returns-in-Ok-Done
unfolding reply_by
returns-in-Ok-Done c = rw (c.in-Ok-Done.is, rw c.in-Ok-Done.is at c.in-Ok-Done.field-0-is)

pub returns-in-Ok-Splits : goal.returns-in-Ok-Splits
unfolding reply_by
returns-in-Ok-Splits c = rw (c.in-Ok-Splits.is, rw c.in-Ok-Splits.is at c.in-Ok-Splits.field-0-is)

pub returns-in-Err : goal.returns-in-Err
unfolding reply_by
returns-in-Err c = rw c.in-Err.is
