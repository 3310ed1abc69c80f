-- How far the sums of a level are from the counts that it follows, at every offset from its first on. For every level and all counts. Rests
-- on the error of a level from 1 on.
use Rattle.std.proofs.Common.{arith}
use Rattle.std.specs.Prelude.{List, ℕ, zero, suc, ◌+◌, ◌*◌, ◌^◌, ◌≤◌}
use Rattle.model.specs.Level.{Bucket, Level}
use Rattle.model.specs.Block.{sum_from}
use Rattle.model.specs.Claim.{Near}
use Rattle.laws.specs.SumFrom.{Falling}
use Rattle.laws.specs.Unit.{Follows, Tracks}
use Rattle.theory.specs.Near.{chain_near}

follows_near : (k i : ℕ) (c : ℕ → ℕ) (first t : ℕ) (bs : List Bucket) → Falling c → first ≤ t → t ≤ 2 ^ k → Follows k i c first bs
    → Near ((k + 1) * 2 ^ i) (sum_from t bs) (c t)
follows_near k zero c first t bs falls l h g = omega (arith, g.1 t l)
follows_near k (suc j) c first t bs falls l h g = chain_near (2 ^ suc j) k c falls first t bs l h g

module _ {k n i total : ℕ} {c : ℕ → ℕ} {l : Level} (tracks : Tracks k n i total c l) where
  -- the error of a sum, from any offset on
  pub tracks_near : (t : ℕ) → l.first ≤ t → t ≤ 2 ^ k → Near ((k + 1) * 2 ^ i) (sum_from t l.buckets) (c t)
  tracks_near t h inside = follows_near k i c l.first t l.buckets tracks.falls h inside tracks.follows
