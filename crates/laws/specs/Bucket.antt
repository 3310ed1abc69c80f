-- One bucket: what it becomes when it gains or splits, and case distinctions for its tests. Assumes nothing.
use Rattle.std.specs.Prelude.{true, false, cond, ◌≡◌, List, [], ◌∷◌, ℕ, suc, ◌+◌, ◌/◌, ◌^◌, ◌≤◌, ◌<◌, T, leb, ltb, eqb}
use Rattle.std.proofs.Common.{subst, lt-ltb, le-ltb, le-leb, leb→le, ltb→lt, eqb→eq, le→leb, lt→ltb}
use Rattle.std.proofs.Math.Dec.{eqb_refl}
use Rattle.model.specs.Level.{Bucket, bucket_of, holds, split}
use Rattle.laws.specs.Cond.{by_both, and-true, and-false}

-- the bucket with v more weight
abbrev pub raised : ℕ → Bucket → Bucket
raised v b = bucket_of b.offset b.width (b.weight + v)

-- the two halves of a full bucket of level i
abbrev pub halves : ℕ → Bucket → List Bucket
halves i b = bucket_of b.offset (b.width / 2) (2 ^ i) ∷ bucket_of (b.offset + b.width / 2) (b.width / 2) (2 ^ i) ∷ []

-- case distinctions for the tests of `add` and of `split`
pub by_holds : {A : Type 0} {y z : A} (b : Bucket) (x : ℕ) (P : A → Type 0)
    → (b.offset ≤ x → x < b.offset + b.width → P y) → ((b.offset ≤ x → x < b.offset + b.width → ⊥) → P z) → P (cond (holds b x) y z)
by_holds b x P f g =
    by_both P (leb b.offset x) (ltb x (b.offset + b.width))
    (λ l h. f (leb→le _ x l) (ltb→lt x _ h))
    (λ out. g (λ l h. out (le→leb _ x l) (lt→ltb x _ h)))

pub by_split : (i : ℕ) (b : Bucket) (P : List Bucket → Type 0)
    → (b.weight ≡ 2 ^ suc i → 1 < b.width → P (halves i b)) → ((1 < b.width → b.weight ≡ 2 ^ suc i → ⊥) → P (b ∷ [])) → P (split i b)
by_split i b P f g =
    by_both P (eqb b.weight (2 ^ suc i)) (ltb 1 b.width)
    (λ full long. f (eqb→eq b.weight _ full) (ltb→lt 1 _ long))
    (λ out. g (λ long full. out (subst (λ (w : ℕ). T (eqb b.weight w)) full (eqb_refl b.weight)) (lt→ltb 1 _ long)))

module _ (b : Bucket) (x : ℕ) where
  pub holds_inside : b.offset ≤ x → x < b.offset + b.width → holds b x ≡ true
  holds_inside l h = and-true (le-leb b.offset x l) (lt-ltb x (b.offset + b.width) h)

  pub holds-past : b.offset + b.width ≤ x → holds b x ≡ false
  holds-past h = and-false (leb b.offset x) (le-ltb x (b.offset + b.width) h)
