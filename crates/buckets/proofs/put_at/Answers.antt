-- There are three cases: with room, without room at slot 0, and without room above it. Each leaves what evicting from the longer list
-- leaves.
use native.Mathlib.Omega.{arith}
use Rattle.buckets.specs.Steps.{put_in_room, put_in_lowest, put_in_shifted}
use Rattle.buckets.proofs.put_at.Goals as goal

pub returns-then-count-n : goal.returns-then-count-n
returns-then-count-n c =
    rw c.put_in.ensures (put_in_room c.requires.0 c.args.i _ (omega arith))

pub returns-then-j-eq0 : goal.returns-then-j-eq0
returns-then-j-eq0 c =
    rw c.first_after.ensures (put_in_lowest c.requires.0 c.args.i _ (omega arith) c.if-j-eq0.true c.requires.2)

pub returns : goal.returns
returns c =
    rw c.first_after-2.ensures (put_in_shifted c.requires.0 c.args.i _ (omega arith) (omega arith) c.shift_in.ensures)
