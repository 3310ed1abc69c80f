-- Counts from an offset on: `c t` is how much was delivered at t or above. What one delivery adds to them, and the sums of a bucket list as
-- such counts. Assumes nothing.
use Rattle.std.specs.Prelude.{Bool, true, false, cond, ◌≡◌, refl, List, [], ◌∷◌, ℕ, suc, ◌+◌, ◌*◌, ◌≤◌, ◌<◌, leb, length}
use Rattle.std.proofs.Common.{arith}
use Rattle.model.specs.Level.{Bucket}
use Rattle.model.specs.Block.{sum_from}
use Rattle.model.specs.Sound.{weight_of}
use Rattle.model.specs.Claim.{Each}
use Rattle.laws.specs.Cond.{by_le}

-- how much of v at x lies at t or above: all or nothing
abbrev pub share : ℕ → ℕ → ℕ → ℕ
share x v t = cond (leb t x) v 0

-- the counts c with v at x more
abbrev pub more : ℕ → ℕ → (ℕ → ℕ) → ℕ → ℕ
more x v c t = share x v t + c t

-- counts fall as the offset rises
abbrev pub Falling : (ℕ → ℕ) → Type 0
Falling c = (t u : ℕ) → t ≤ u → c u ≤ c t

module _ (x v t : ℕ) where
  pub share_all : t ≤ x → share x v t ≡ v
  share_all h = by_le t x (λ z. z ≡ v) (λ _. refl) (λ l. omega arith)

  pub share-none : x < t → share x v t ≡ 0
  share-none h = by_le t x (λ z. z ≡ 0) (λ l. omega arith) (λ _. refl)

pub share-zero : (x t : ℕ) → share x 0 t ≡ 0
share-zero x t = by_le t x (λ z. z ≡ 0) (λ _. refl) (λ _. refl)

pub share-suc : (x v t : ℕ) → share x (suc v) t ≡ share x 1 t + share x v t
share-suc x v t = go (leb t x)
  where
    go : (b : Bool) → cond b (suc v) 0 ≡ cond b 1 0 + cond b v 0
    go true = omega arith
    go false = refl

pub share-falls : (x v t u : ℕ) → t ≤ u → share x v u ≤ share x v t
share-falls x v t u h = by_le u x (λ z. z ≤ share x v t) (λ l. omega (arith, share_all x v t (omega arith))) (λ _. omega arith)

pub more-falls : (x v : ℕ) {c : ℕ → ℕ} → Falling c → Falling (more x v c)
more-falls x v falls t u h = omega (arith, share-falls x v t u h, falls t u h)

pub sum_from-falls : (bs : List Bucket) → Falling (λ t. sum_from t bs)
sum_from-falls [] t u h = omega arith
sum_from-falls (b ∷ bs) t u h = more-falls b.offset b.weight (sum_from-falls bs) t u h

-- every bucket starts at a or above
abbrev pub AtLeast : ℕ → List Bucket → Type 0
AtLeast a = Each (λ b. a ≤ b.offset)

pub at_least-less : (t a : ℕ) (bs : List Bucket) → t ≤ a → AtLeast a bs → AtLeast t bs
at_least-less t a [] h g = tt
at_least-less t a (b ∷ bs) h g = (omega (arith, g.0), at_least-less t a bs h g.1)

pub sum_from_all : (t : ℕ) (bs : List Bucket) → AtLeast t bs → sum_from t bs ≡ weight_of bs
sum_from_all t [] h = refl
sum_from_all t (b ∷ bs) h = omega (arith, share_all b.offset b.weight t h.0, sum_from_all t bs h.1)

-- the sum of buckets that weigh p or more each
pub heavy_sum : (p : ℕ) (bs : List Bucket) → Each (λ b. p ≤ b.weight) bs → length bs * p ≤ weight_of bs
heavy_sum p [] h = omega arith
heavy_sum p (b ∷ bs) h = omega (arith, heavy_sum p bs h.1)
