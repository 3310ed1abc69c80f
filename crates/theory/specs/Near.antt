-- How far the sums of a level from 1 on are from the counts that it follows, at every offset from its first on; and how much a level has
-- counted if it has evicted buckets. For all counts. Assumes nothing.
use Rattle.std.proofs.Common.{⊎_elim, ap, mul-le-mul_right, le_refl, arith}
use Rattle.std.specs.Prelude.{◌≡◌, List, [], ◌∷◌, ℕ, zero, suc, ◌+◌, ◌*◌, ◌^◌, ◌≤◌, ◌<◌}
use Rattle.model.specs.Level.{Bucket, Level}
use Rattle.model.specs.Block.{sum_from}
use Rattle.model.specs.Sound.{weight_of}
use Rattle.model.specs.Claim.{Near}
use Rattle.laws.specs.Cond.{by_le, lt_or_ge}
use Rattle.laws.specs.SumFrom.{Falling, AtLeast, sum_from_all}
use Rattle.laws.specs.Add.{Dyadic, Chain, chain_above}
use Rattle.laws.specs.Put.{rising-above}
use Rattle.laws.specs.Unit.{Follows, Tracks}
use Rattle.laws.specs.InsertSound.{tracks_heavy}

-- an interval of more than one tick was halved fewer than k times
shallow : {k a width : ℕ} (d : Dyadic k a width) → 1 < width → suc d.depth ≤ k
shallow {k} {width} d long = go d.size d.power d.deep
  where
    go : (z : ℕ) → width ≡ 2 ^ z → z + d.depth ≡ k → suc d.depth ≤ k
    go zero e f = omega arith
    go (suc z) e f = omega arith

module _ (p k : ℕ) (c : ℕ → ℕ) (falls : Falling c) where
  -- t lies strictly inside the first bucket
  inside_near : {a : ℕ} {b : Bucket} (t : ℕ) (bs : List Bucket) → a < t → t < a + b.width → Chain p k c a (b ∷ bs) → Near ((k + 1) * p) (weight_of bs) (c t)
  inside_near {a} {b} t bs l h g =
      let q = g.0 in
      let light = g.1 (omega arith) in
      let low = falls a t (omega arith) in
      let high = falls t (a + b.width) (omega arith) in
      let deep = mul-le-mul_right p (shallow q.shape (omega arith)) in
      omega arith

  -- t lies anywhere from a on; the case strictly inside the first bucket is proved here anew, so that each law stands by itself
  pub chain_near : (a t : ℕ) (bs : List Bucket) → a ≤ t → t ≤ 2 ^ k → Chain p k c a bs → Near ((k + 1) * p) (sum_from t bs) (c t)
  chain_near a t [] l h g = let same : t ≡ a = omega arith in rw same (omega arith)
  chain_near a t (b ∷ bs) l h g =
      let q = g.0 in
      let end = a + b.width in
      by_le t b.offset (λ z. Near ((k + 1) * p) (z + sum_from t bs) (c t))
      (λ m.
      let same : c t ≡ c a = ap c (omega arith) in
      let deep = mul-le-mul_right {m = q.shape.depth} {n = k} p (omega arith) in
      let all = sum_from_all t bs (chain_above p k c t end bs (omega arith) g.2) in
      omega arith)
      (λ m. ⊎_elim
      (λ (r : t < end).
      let all = sum_from_all t bs (chain_above p k c t end bs (omega arith) g.2) in
      let light = g.1 (omega arith) in
      let low = falls a t (omega arith) in
      let high = falls t end (omega arith) in
      let deep = mul-le-mul_right p (shallow q.shape (omega arith)) in
      omega arith)
      (λ (r : end ≤ t). let near = chain_near end t bs r h g.2 in omega arith)
      (lt_or_ge t end))

follows_above : (k i : ℕ) (c : ℕ → ℕ) (first : ℕ) (bs : List Bucket) → Follows k i c first bs → AtLeast first bs
follows_above k zero c first bs g = rising-above k first first bs (le_refl first) g.0
follows_above k (suc j) c first bs g = chain_above (2 ^ suc j) k c first first bs (le_refl first) g

-- at the first offset the error is at most k × 2^i
follows_first : (k i : ℕ) (c : ℕ → ℕ) (first : ℕ) (bs : List Bucket) → Follows k i c first bs → Near (k * 2 ^ i) (weight_of bs) (c first)
follows_first k zero c first bs g =
    omega (arith, g.1 first (le_refl first), sum_from_all first bs (follows_above k zero c first bs g))
follows_first k (suc j) c first [] g = omega (arith, g.1)
follows_first k (suc j) c first (b ∷ bs) g =
    let q = g.0 in
    let deep = mul-le-mul_right {m = q.shape.depth} {n = k} (2 ^ suc j) (omega (arith, q.shape.deep)) in
    omega (arith, deep, q.left.above, q.left.below)

module _ {k n i total : ℕ} {c : ℕ → ℕ} {l : Level} (tracks : Tracks k n i total c l) where
  -- a level that has evicted what lay at a has counted much from a on
  pub tracks_crowded : 2 ≤ n → (a : ℕ) → a < l.first → n * 2 ^ i ≤ c a + (k + 1) * 2 ^ i
  tracks_crowded two a h =
      let f = l.first in
      let close = follows_first k i c f l.buckets tracks.follows in
      omega (arith, tracks_heavy two tracks (omega arith), tracks.falls a f (omega arith))
