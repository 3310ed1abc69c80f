-- The code computes the bound.
use Rattle.std.proofs.Common.{arith}
use Rattle.quick_laws.proofs.QuickLaws.{product_fits}
use Rattle.quick.proofs.is_bounded.Goals as goal

pub overflow_mul-result : goal.overflow_mul-result
overflow_mul-result c = record { fits = product_fits _ _ (omega (arith, c.from.ensures, c.from-2.ensures)) (omega arith) }

pub returns : goal.returns
returns c = rw (c.from.ensures, c.from-2.ensures)
