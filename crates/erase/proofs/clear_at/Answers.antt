-- The part comes back where it was lent.
use native.Mathlib.Omega.{arith}
use Rattle.block.specs.Steps.{level-within}
use Rattle.erase.proofs.clear_at.Goals as goal

pub overflow_add-e : goal.overflow_add-e
overflow_add-e c = omega (arith, level-within c.requires)

pub offset_bounds-block-a : goal.offset_bounds-block-a
offset_bounds-block-a c = omega (arith, level-within c.requires)

pub slice_bounds-clear_level-end : goal.slice_bounds-clear_level-end
slice_bounds-clear_level-end c = omega (arith, level-within c.requires)
