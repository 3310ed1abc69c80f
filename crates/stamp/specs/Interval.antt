-- How large the number of an interval is. Assumes nothing.
use Rattle.std.specs.Prelude.{ℕ, ◌+◌, ◌^◌, ◌≤◌, ◌<◌}
use Rattle.std.proofs.Common.{arith, pow_mono, shr_lt}
use Rattle.shape.specs.declared.Shape.{Shape}
use Rattle.model.specs.Block.{interval}

-- the number of an interval leaves room for the next
pub interval-small : (s : Shape) (t : ℕ) → 2 ≤ s.k → t < 2 ^ 32 → interval s t < 2 ^ 30
interval-small s t low h = shr_lt {n = t} 30 s.k (omega (arith, pow_mono {i = 32} {j = 30 + s.k} (omega arith)))
