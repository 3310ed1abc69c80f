-- The sum from 0 on. Assumes nothing.
use Rattle.std.specs.Prelude.{List, [], ◌∷◌, ◌≡◌, refl, ℕ, ◌+◌}
use Rattle.std.proofs.Common.{ap}
use Rattle.std.proofs.Math.Dec.{leb-zero}
use Rattle.model.specs.Level.{Bucket}
use Rattle.model.specs.Block.{sum_from}
use Rattle.model.specs.Sound.{weight_of}

-- every offset is at least 0, so the sum from 0 on is the whole weight
pub sum_from-zero : (bs : List Bucket) → sum_from 0 bs ≡ weight_of bs
sum_from-zero [] = refl
sum_from-zero (b ∷ bs) = rw (leb-zero b.offset) (ap (λ (z : ℕ). b.weight + z) (sum_from-zero bs))
