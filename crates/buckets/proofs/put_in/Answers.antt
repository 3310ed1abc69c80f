-- By their contracts, what the two calls leave and the count that is stored last are the clause.
use Rattle.buckets.specs.Steps.{raised}
use Rattle.buckets.proofs.put_in.Goals as goal

pub returns : goal.returns
returns c =
    rw (c.put_slot.ensures, c.copy_within.ensures.after, c.start_of.ensures, c.start_of-2.ensures, c.start_of-3.ensures, raised c.args.level.now c.args.j c.args.count)
