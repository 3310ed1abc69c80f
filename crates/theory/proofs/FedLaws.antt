-- The sums of a fed level are near the counts of its events. Rests on the error of a level that follows counts.
use Rattle.std.specs.Prelude.{List, ℕ, ◌+◌, ◌*◌, ◌^◌, ◌≤◌, ◌<◌}
use Rattle.model.specs.Block.{sum_from}
use Rattle.model.specs.Claim.{Near}
use Rattle.theory.specs.Near.{tracks_crowded}
use Rattle.theory.specs.Fed.{Event, fed, counted, Inside, fed_tracks}
use Rattle.theory.proofs.NearLaws.{tracks_near}

module _ (k n i : ℕ) (two : 2 ≤ n) where
  module _ (es : List Event) (inside : Inside k es) where
    -- the error of a sum, from any offset on
    pub fed_near : (t : ℕ) → (fed k n i es).first ≤ t → t ≤ 2 ^ k → Near ((k + 1) * 2 ^ i) (sum_from t (fed k n i es).buckets) (counted es t)
    fed_near = tracks_near (fed_tracks k n i two es inside)

    -- a level that has evicted what lay at a has counted much from a on
    pub fed_crowded : (a : ℕ) → a < (fed k n i es).first → n * 2 ^ i ≤ counted es a + (k + 1) * 2 ^ i
    fed_crowded = tracks_crowded (fed_tracks k n i two es inside) two
