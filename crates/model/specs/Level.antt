-- One level of a half: its buckets, and what a decilitre does to it (SPECIFICATION 4). Levels do not read each other. Assumes nothing.
use Rattle.std.specs.Prelude.{Bool, cond, ◌&&◌, List, [], ◌∷◌, ◌++◌, ℕ, zero, suc, ◌+◌, ◌/◌, ◌^◌, leb, ltb, eqb, length}

pub record Bucket : Type 0 where  -- SPECIFICATION 3.5; `width` is 'length' in the customer's paper
  pub offset : ℕ
  pub width : ℕ
  pub weight : ℕ

pub record Level : Type 0 where  -- SPECIFICATION 3.5: the buckets by rising offset; `first` is the first kept offset F
  pub first : ℕ
  pub buckets : List Bucket

abbrev pub bucket_of : ℕ → ℕ → ℕ → Bucket
bucket_of offset width weight = record { offset = offset; width = width; weight = weight }

abbrev pub level_of : ℕ → List Bucket → Level
level_of first buckets = record { first = first; buckets = buckets }

abbrev pub gained : Bucket → Bucket  -- the weight grows by 1
gained b = bucket_of b.offset b.width (suc b.weight)

abbrev pub put : ℕ → List Bucket → List Bucket  -- SPECIFICATION 4.2: at level 0 the bucket at x gains 1; where there is none, one of weight 1 comes in by its offset
put x [] = bucket_of x 1 1 ∷ []
put x (b ∷ bs) = cond (ltb x b.offset) (bucket_of x 1 1 ∷ b ∷ bs) (cond (eqb x b.offset) (gained b ∷ bs) (b ∷ put x bs))

abbrev pub holds : Bucket → ℕ → Bool  -- SPECIFICATION 3.5: the bucket spans offset x
holds b x = leb b.offset x && ltb x (b.offset + b.width)

abbrev pub is_full : ℕ → Bucket → Bool  -- SPECIFICATION 4.3: after a gain at level i, the bucket has reached 2^(i+1) and is wider than 1
is_full i b = eqb b.weight (2 ^ suc i) && ltb 1 b.width

abbrev pub split_count : ℕ → Bucket → ℕ  -- SPECIFICATION 4.6: 1 where `split` splits the bucket, by the same test
split_count i b = cond (is_full i b) 1 0

abbrev pub split : ℕ → Bucket → List Bucket  -- SPECIFICATION 4.3 ('halve' in the customer's paper): at level i a full bucket becomes two, each of half the width and of weight 2^i
split i b =
    let half = b.width / 2 in
    cond (is_full i b) (bucket_of b.offset half (2 ^ i) ∷ bucket_of (b.offset + half) half (2 ^ i) ∷ []) (b ∷ [])

abbrev pub add : ℕ → ℕ → List Bucket → List Bucket  -- SPECIFICATION 4.3: at a level i from 1 the bucket that spans offset x gains 1
add i x [] = []
add i x (b ∷ bs) = cond (holds b x) (split i (gained b) ++ bs) (b ∷ add i x bs)

abbrev pub grow : ℕ → ℕ → List Bucket → List Bucket  -- SPECIFICATION 4.1: counting at level i
grow zero x bs = put x bs
grow (suc j) x bs = add (suc j) x bs

abbrev pub first_after : ℕ → Bucket → List Bucket → ℕ  -- SPECIFICATION 4.4, F after an eviction: at level 0 the dropped offset + 1, at the others the next bucket's offset
first_after zero b rest = b.offset + 1
first_after (suc j) b [] = b.offset + b.width
first_after (suc j) b (next ∷ rest) = next.offset

abbrev pub evict : ℕ → ℕ → ℕ → List Bucket → Level  -- SPECIFICATION 4.4 ('give up' in the customer's paper): of n + 1 buckets the lowest is dropped
evict n i first [] = level_of first []
evict n i first (b ∷ bs) = cond (eqb (length (b ∷ bs)) (n + 1)) (level_of (first_after i b bs) bs) (level_of first (b ∷ bs))

unfoldable pub unit : ℕ → ℕ → ℕ → Level → Level  -- SPECIFICATION 4.1: one decilitre at offset x into level i, which holds at most n buckets; below F it is ignored
unit n i x l = cond (ltb x l.first) l (evict n i l.first (grow i x l.buckets))

unfoldable pub insert : ℕ → ℕ → ℕ → ℕ → Level → Level  -- SPECIFICATION 4.5 ('pour' in the customer's paper): v decilitres at offset x, one after another
insert n i x zero l = l
insert n i x (suc v) l = unit n i x (insert n i x v l)

-- SPECIFICATION 4.6 ('halvings' in the customer's paper): how many buckets `add`, `grow`, `unit` and `insert` split, each from what these are given

abbrev pub add_splits : ℕ → ℕ → List Bucket → ℕ  -- the bucket that spans offset x gains 1, and counts if it is then full
add_splits i x [] = 0
add_splits i x (b ∷ bs) = cond (holds b x) (split_count i (gained b)) (add_splits i x bs)

abbrev pub grow_splits : ℕ → ℕ → List Bucket → ℕ  -- level 0 never splits
grow_splits zero x bs = 0
grow_splits (suc j) x bs = add_splits (suc j) x bs

abbrev pub unit_splits : ℕ → ℕ → Level → ℕ  -- below F the decilitre is ignored
unit_splits i x l = cond (ltb x l.first) 0 (grow_splits i x l.buckets)

unfoldable pub insert_splits : ℕ → ℕ → ℕ → ℕ → Level → ℕ  -- v decilitres, one after another, each into the level that those before it left
insert_splits n i x zero l = 0
insert_splits n i x (suc v) l = insert_splits n i x v l + unit_splits i x (insert n i x v l)

abbrev pub empty_level : ℕ → ℕ → Level  -- SPECIFICATION 3.7: level i of an empty half of 2^k ticks
empty_level k zero = level_of 0 []
empty_level k (suc j) = level_of 0 (bucket_of 0 (2 ^ k) 0 ∷ [])
