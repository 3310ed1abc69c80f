-- What a unit step ignores, where F stands after an eviction, and that each split makes one more bucket. Assumes nothing.
use Rattle.std.specs.Prelude.{Bool, true, false, cond, ◌≡◌, refl, List, [], ◌∷◌, ◌++◌, ℕ, suc, ◌+◌, ◌/◌, ◌^◌, ◌<◌, length}
use Rattle.std.proofs.Common.{ap, add-one, arith, lt-ltb}
use Rattle.model.specs.Level.{Bucket, Level, bucket_of, gained, holds, is_full, add, grow, add_splits, first_after, evict, unit}

-- a decilitre below F changes nothing, at any level
pub unit-below : (n i x : ℕ) (l : Level) → x < l.first → unit n i x l ≡ l
unfolding unit
unit-below n i x l h = ap (λ (t : Bool). cond t l (evict n i l.first (grow i x l.buckets))) (lt-ltb x l.first h)

-- level 0 keeps every offset after the one that it dropped
pub first_after-zero : (b : Bucket) (rest : List Bucket) → first_after 0 b rest ≡ suc b.offset
first_after-zero b rest = add-one b.offset

-- from level 1 on the buckets that a decilitre adds are those that it splits
pub length-add : (i x : ℕ) (bs : List Bucket) → length (add i x bs) ≡ length bs + add_splits i x bs
length-add i x [] = refl
length-add i x (b ∷ bs) = go (holds b x) (is_full i (gained b)) (length-add i x bs)
  where
    go : (here full : Bool) → length (add i x bs) ≡ length bs + add_splits i x bs
        → length (cond here (cond full (bucket_of b.offset (b.width / 2) (2 ^ i) ∷ bucket_of (b.offset + b.width / 2) (b.width / 2) (2 ^ i) ∷ []) (gained b ∷ []) ++ bs) (b ∷ add i x bs))
        ≡ length (b ∷ bs) + cond here (cond full 1 0) (add_splits i x bs)
    go true true more = omega arith
    go true false more = omega arith
    go false full more = omega (arith, more)
