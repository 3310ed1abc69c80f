-- Each step is a step of the definition, on the slot that it reads.
use Rattle.std.proofs.Common.{arith}
use Rattle.row.proofs.quick_row.Goals as goal

pub overflow_add-at-3 : goal.overflow_add-at-3
overflow_add-at-3 c = omega (arith, c.requires, c.well_formed, c.ranges)

pub returns : goal.returns
returns c =
    rw (
      c.quick_bucket.ensures,
      c.slot_from-4.ensures,
      c.quick_bucket-three.ensures,
      c.slot_from-3.ensures,
      c.quick_bucket-two.ensures,
      c.slot_from-2.ensures,
      c.quick_bucket-one.ensures,
      c.slot_from.ensures,
      c.open_row-none.ensures,
    )
