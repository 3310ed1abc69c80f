-- By their contracts, what the two calls leave is the clause.
use Rattle.buckets.specs.Steps.{lowered}
use Rattle.buckets.proofs.shift_in.Goals as goal

pub returns : goal.returns
returns c =
    rw (c.put_slot.ensures, c.copy_within.ensures.after, c.start_of.ensures, c.start_of-2.ensures, c.start_of-3.ensures, lowered c.args.level.now c.args.j)
