-- Level 0: buckets of single, rising offsets, and what a decilitre does to such a list. Assumes nothing.
use Rattle.std.specs.Prelude.{◌≡◌, refl, List, [], ◌∷◌, ℕ, suc, ◌+◌, ◌^◌, ◌≤◌, ◌<◌, length}
use Rattle.std.proofs.Common.{ap, arith}
use Rattle.model.specs.Level.{Bucket, put}
use Rattle.model.specs.Block.{sum_from}
use Rattle.model.specs.Sound.{weight_of}
use Rattle.laws.specs.Cond.{by_lt, by_eq}
use Rattle.laws.specs.SumFrom.{share, share-suc, share-none, AtLeast}

-- a bucket of level 0, at offset a or above
pub record Single (k a : ℕ) (b : Bucket) : Type 0 where
  pub low : a ≤ b.offset
  pub high : b.offset < 2 ^ k
  pub one : b.width ≡ 1
  pub some : 1 ≤ b.weight

-- each offset is above the one before, and the first is at least a
abbrev pub Rising : ℕ → ℕ → List Bucket → Type 0
Rising k a [] = Unit {0}
Rising k a (b ∷ bs) = Single k a b × Rising k (b.offset + 1) bs

pub rising-above : (k t a : ℕ) (bs : List Bucket) → t ≤ a → Rising k a bs → AtLeast t bs
rising-above k t a [] h r = tt
rising-above k t a (b ∷ bs) h r = (omega (arith, r.0.low), rising-above k t (b.offset + 1) bs (omega (arith, r.0.low)) r.1)

-- above the first bucket's offset only the other buckets count
pub sum_from-past : (b : Bucket) (bs : List Bucket) (t : ℕ) → b.offset < t → sum_from t (b ∷ bs) ≡ sum_from t bs
sum_from-past b bs t h = omega (arith, share-none b.offset b.weight t h)

module _ (x : ℕ) where
  pub put-length : (bs : List Bucket) → (length bs ≤ length (put x bs)) × (length (put x bs) ≤ suc (length bs))
  put-length [] = omega arith
  put-length (b ∷ bs) =
      let P : List Bucket → Type 0 = λ z. (suc (length bs) ≤ length z) × (length z ≤ suc (suc (length bs))) in
      by_lt x b.offset P (λ _. omega arith) (λ _. by_eq x b.offset P (λ _. omega arith) (λ _. omega (arith, put-length bs)))

  pub put_weight : (bs : List Bucket) → weight_of (put x bs) ≡ suc (weight_of bs)
  put_weight [] = refl
  put_weight (b ∷ bs) =
      let P : List Bucket → Type 0 = λ z. weight_of z ≡ suc (b.weight + weight_of bs) in
      by_lt x b.offset P (λ _. omega arith) (λ _. by_eq x b.offset P (λ _. omega arith) (λ _. omega (arith, put_weight bs)))

  pub put-sum : (t : ℕ) (bs : List Bucket) → sum_from t (put x bs) ≡ share x 1 t + sum_from t bs
  put-sum t [] = refl
  put-sum t (b ∷ bs) =
      let P : List Bucket → Type 0 = λ z. sum_from t z ≡ share x 1 t + sum_from t (b ∷ bs) in
      by_lt x b.offset P
      (λ _. refl)
      (λ _. by_eq x b.offset P
      (λ same. omega (arith, share-suc b.offset b.weight t, ap (λ (z : ℕ). share z 1 t) same))
      (λ _. omega (arith, put-sum t bs)))

  pub put-rising : (k a : ℕ) (bs : List Bucket) → a ≤ x → x < 2 ^ k → Rising k a bs → Rising k a (put x bs)
  put-rising k a [] l h r = (record { low = l; high = h; one = refl; some = omega arith }, tt)
  put-rising k a (b ∷ bs) l h r =
      let s = r.0 in
      by_lt x b.offset (Rising k a)
      (λ below. (
        record { low = l; high = h; one = refl; some = omega arith },
        (record { low = omega arith; high = s.high; one = s.one; some = s.some }, r.1),
      ))
      (λ reached. by_eq x b.offset (Rising k a)
      (λ _. (record { low = s.low; high = s.high; one = s.one; some = omega arith }, r.1))
      (λ other. (s, put-rising k (b.offset + 1) bs (omega arith) h r.1)))
