-- One round of insertion on words: a bucket is put in, and the lowest is evicted if there is no room; and what a split leaves at a level
-- from 1, into which the rest goes. Rests on the steps of `Insert` and the writes of `LevelWrites`.
use Rattle.std.specs.Prelude.{cond, ◌≡◌, refl, List, [], ◌∷◌, ◌++◌, ℕ, zero, suc, ◌+◌, ◌-◌, ◌*◌, ◌^◌, ◌≤◌, ◌<◌, ltb, eqb, length, get_or, set, replicate}
use Rattle.std.proofs.Common.{⊎_elim, ap, ◌∙◌, arith, lt-ltb, le-ltb, ne_eqb, length-append}
use Rattle.shape.specs.Layout.{level_head_len, slot_len, slot_start}
use Rattle.model.specs.Level.{Bucket, Level, level_of, first_after, evict, insert}
use Rattle.model.specs.Words.{encode_level}
use Rattle.model.specs.Claim.{Each}
use Rattle.laws.specs.Cond.{by_lt, lt_or_ge}
use Rattle.laws.specs.Bucket.{raised, halves, holds_inside, holds-past}
use Rattle.laws.specs.Insert.{Uncovered, Under, evict-none, evict_lowest, insert_held, insert-split}
use Rattle.laws.specs.SlotWrites.{raise, lower, put_slot}
use Rattle.laws.specs.Put.{Rising}
use Rattle.laws.specs.SoundLevel.{SoundBucket, Chained}
use Rattle.laws.specs.SlotOf.{slot_of}
use Rattle.laws.specs.LevelWrites.{get_or_count, set_first, insert_encode, shift_encode}

-- ---- putting a bucket in

-- the offset of the first bucket
abbrev pub head_offset : List Bucket → ℕ
head_offset [] = 0
head_offset (b ∷ bs) = b.offset

-- it is a word of the level
word_blank : (c i : ℕ) → ◌≡◌ {A = ℕ} (get_or (replicate c 0) i 0) 0
word_blank zero i = refl
word_blank (suc c) zero = refl
word_blank (suc c) (suc i) = word_blank c i

pub get_d_head : (n f : ℕ) (bs : List Bucket) → get_or (encode_level n (level_of f bs)) 2 0 ≡ head_offset bs
unfolding encode_level
get_d_head n f [] = word_blank (slot_len * (n - 0)) 0
get_d_head n f (b ∷ bs) = refl

-- F after bucket b was evicted, by the word of the next one
first-after : (i : ℕ) (b : Bucket) (bs : List Bucket) → (0 < i → 0 < length bs)
    → cond (eqb i 0) (b.offset + 1) (head_offset bs) ≡ first_after i b bs
first-after zero b bs some = refl
first-after (suc i) b [] some = absurd (omega (arith, some (omega arith)))
first-after (suc i) b (next ∷ bs) some = rw (ne_eqb (suc i) 0 (omega arith))

pub count_parts : (n f : ℕ) (before after : List Bucket) (ws : List ℕ) → ws ≡ encode_level n (level_of f (before ++ after))
    → get_or ws 0 0 ≡ length before + length after
count_parts n f before after ws held = ap (λ (z : List ℕ). get_or z 0 0) held ∙ get_or_count n (level_of f (before ++ after)) ∙ length-append before after

module _ (n i f : ℕ) (b : Bucket) (after : List Bucket) where
  -- with room: the slots from j on move up by one
  pub put_room : (before : List Bucket) (j count : ℕ) → length before ≡ j → count ≡ length before + length after → count < n
      → set (put_slot (raise (encode_level n (level_of f (before ++ after))) (slot_start j) (slot_len * (count - j))) (slot_start j) b) 0 (count + 1)
      ≡ encode_level n (evict n i f (before ++ b ∷ after))
  put_room before j count place all room =
      let few : length (before ++ b ∷ after) ≤ n = simp length-append (omega arith) in
      rw (evict-none n i f (before ++ b ∷ after) few)
      (insert_encode n f before after j place b (slot_len * (count - j)) (count + 1) (omega arith) (omega arith) (omega arith))

  -- without room, if the bucket would be the lowest: only F changes
  pub put_lowest : length after ≡ n → (0 < i → 0 < length after)
      → set (encode_level n (level_of f after)) 1 (cond (eqb i 0) (b.offset + 1) (head_offset after)) ≡ encode_level n (evict n i f (b ∷ after))
  put_lowest full some = rw (evict_lowest n i f b after full, first-after i b after some) (set_first n (level_of f after) _)

  -- without room otherwise: the lowest is evicted, and the slots up to the new bucket's move down by one
  pub put_shift : (lowest : Bucket) (before : List Bucket) (j : ℕ) → length before ≡ j → suc (length before + length after) ≡ n
      → set (put_slot (lower (encode_level n (level_of f (lowest ∷ (before ++ after)))) level_head_len (slot_len * j)) (slot_start j) b) 1
      (cond (eqb i 0) (lowest.offset + 1) (head_offset (before ++ b ∷ after)))
      ≡ encode_level n (evict n i f (lowest ∷ (before ++ b ∷ after)))
  put_shift lowest before j place full =
      let all : length (before ++ b ∷ after) ≡ n = simp length-append (omega arith) in
      rw (shift_encode n f before after j place lowest b, evict_lowest n i f lowest (before ++ b ∷ after) all, first-after i lowest (before ++ b ∷ after) (λ _. simp length-append (omega arith)))
      (set_first n (level_of f (before ++ b ∷ after)) _)

-- ---- a level from 1

-- every bucket of the list ends at or before x
abbrev pub Passed : ℕ → List Bucket → Type 0
Passed x = Each (λ b. b.offset + b.width ≤ x)

pub passed_uncovered : (x : ℕ) (bs : List Bucket) → Passed x bs → Uncovered x bs
passed_uncovered x [] p = tt
passed_uncovered x (b ∷ bs) p = (holds-past b x p.0, passed_uncovered x bs p.1)

pub passed_snoc : (x : ℕ) (bs : List Bucket) (b : Bucket) → Passed x bs → b.offset + b.width ≤ x → Passed x (bs ++ b ∷ [])
passed_snoc x [] b p h = (h, tt)
passed_snoc x (c ∷ bs) b p h = (p.0, passed_snoc x bs b p.1 h)

-- what a split leaves, and the slot of the upper half: both halves are there, or the lower one was the lowest and was evicted
pub data Round (n x : ℕ) (lo hi : Bucket) (after : List Bucket) (up : ℕ) (l : Level) : Type 0 where
  both : (f : ℕ) (before : List Bucket) → l ≡ level_of f (before ++ lo ∷ hi ∷ after) → suc (length before) ≡ up
      → length before + suc (suc (length after)) ≤ n → Passed x before → f ≤ x → Round n x lo hi after up l
  upper : l ≡ level_of hi.offset (hi ∷ after) → up ≡ 0 → suc (length after) ≤ n → Round n x lo hi after up l

module _ (n x f : ℕ) (kept : f ≤ x) where
  full_round : (j : ℕ) (lo hi : Bucket) → lo.offset ≤ x → (after before : List Bucket) → Passed x before → length before + suc (length after) ≡ n
      → Round n x lo hi after (length before) (evict n (suc j) f (before ++ lo ∷ hi ∷ after))
  full_round j lo hi low after [] p full = upper (evict_lowest n (suc j) f lo (hi ∷ after) (omega arith)) refl (omega arith)
  full_round j lo hi low after (d ∷ before) p full =
      let all : length (before ++ lo ∷ hi ∷ after) ≡ n = simp length-append (omega arith) in
      let next = first_after (suc j) d (before ++ lo ∷ hi ∷ after) in
      both next before (evict_lowest n (suc j) f d (before ++ lo ∷ hi ∷ after) all) refl (omega arith) p.1 (next_kept before p.1)
    where
      next_kept : (before : List Bucket) → Passed x before → first_after (suc j) d (before ++ lo ∷ hi ∷ after) ≤ x
      next_kept [] p = low
      next_kept (c ∷ before) p = omega (arith, p.0)

  module _ (before : List Bucket) (passed : Passed x before) (b : Bucket) (low : b.offset ≤ x) (high : x < b.offset + b.width)
      (after : List Bucket) (few : length before + suc (length after) ≤ n) where
    all_few : length (before ++ b ∷ after) ≤ n
    all_few = simp length-append (omega arith)

    -- the bucket that spans x takes v, if that does not fill it
    pub upper_held : (i : ℕ) → 0 < i → (v : ℕ) → (1 < b.width → b.weight + v < 2 ^ suc i)
        → insert n i x v (level_of f (before ++ b ∷ after)) ≡ level_of f (before ++ raised v b ∷ after)
    upper_held zero h v room = absurd (omega arith)
    upper_held (suc j) h v room =
        insert_held n j x f kept before (passed_uncovered x before passed) b after (holds_inside b x low high) all_few v room

    -- otherwise it is split, and the rest goes on
    pub upper_split : (i : ℕ) → 0 < i → (v : ℕ) → 1 < b.width → b.weight < 2 ^ suc i → 2 ^ suc i ≤ b.weight + v
        → insert n i x v (level_of f (before ++ b ∷ after)) ≡ insert n i x (b.weight + v - 2 ^ suc i) (evict n i f (before ++ (halves i b ++ after)))
    upper_split zero h v long small full = absurd (omega arith)
    upper_split (suc j) h v long small full =
        insert-split n j x f kept before (passed_uncovered x before passed) b after (holds_inside b x low high) all_few v long small full

    -- what the split leaves
    pub one_round : (i : ℕ) → 0 < i → (lo hi : Bucket) → lo.offset ≤ x
        → Round n x lo hi after (cond (ltb (length before + suc (length after)) n) (length before + 1) (length before)) (evict n i f (before ++ lo ∷ hi ∷ after))
    one_round zero h lo hi below = absurd (omega arith)
    one_round (suc j) h lo hi below =
        let count : ℕ = length before + suc (length after) in
        ⊎_elim
        (λ (room : count < n).
        rw (lt-ltb count n room)
        (both f before (evict-none n (suc j) f (before ++ lo ∷ hi ∷ after) (simp length-append (omega arith))) (omega arith) (omega arith) passed kept))
        (λ (none : n ≤ count). rw (le-ltb count n none) (full_round j lo hi below after before passed (omega arith)))
        (lt_or_ge count n)

-- ---- the slot of an offset

-- the first bucket of the list, if there is one, ends after x
abbrev pub Ends : ℕ → List Bucket → Type 0
Ends x [] = Unit {0}
Ends x (b ∷ bs) = x < b.offset + b.width

-- the buckets before slot j, and those from it on
pub record PartedAt (x : ℕ) (bs : List Bucket) (j : ℕ) : Type 0 where
  pub before : List Bucket
  pub after : List Bucket
  pub same : bs ≡ before ++ after
  pub size : length before ≡ j
  pub passed : Passed x before
  pub ends : Ends x after

pub slot_of_parts : (x : ℕ) (bs : List Bucket) → PartedAt x bs (slot_of x bs)
slot_of_parts x [] = record { before = []; after = []; same = refl; size = refl; passed = tt; ends = tt }
slot_of_parts x (b ∷ bs) =
    let P : ℕ → Type 0 = λ j. PartedAt x (b ∷ bs) j in
    let rest = slot_of_parts x bs in
    by_lt x (b.offset + b.width) P
    (λ h. record { before = []; after = b ∷ bs; same = refl; size = refl; passed = tt; ends = h })
    (λ h. record {
      before = b ∷ rest.before;
      after = rest.after;
      same = ap (λ (z : List Bucket). b ∷ z) rest.same;
      size = ap suc rest.size;
      passed = (h, rest.passed);
      ends = rest.ends;
    })

-- a level from 1: the first bucket that ends after x spans it
pub record Covering (k i count x : ℕ) (after : List Bucket) : Type 0 where
  pub here : Bucket
  pub rest : List Bucket
  pub same : after ≡ here ∷ rest
  pub low : here.offset ≤ x
  pub high : x < here.offset + here.width
  pub sound : SoundBucket k i count here.offset here

pub chained_covering : (k i count x : ℕ) → x < 2 ^ k → (after : List Bucket) → Ends x after
    → (start : ℕ) (before : List Bucket) → start ≤ x → Passed x before → Chained k i count start (before ++ after) → Covering k i count x after
chained_covering k i count x inside [] ends start [] l p g = absurd (omega arith)
chained_covering k i count x inside (b ∷ after) ends start [] l p g =
    let s = g.0 in
    record { here = b; rest = after; same = refl; low = omega (arith, s.at); high = ends; sound = record { at = refl; shape = s.shape; light = s.light; heavy = s.heavy } }
chained_covering k i count x inside after ends start (c ∷ before) l p g =
    chained_covering k i count x inside after ends (c.offset + c.width) before p.0 p.1 g.1

-- level 0: buckets that end at or before x are below it, since widths are 1
module _ (k x : ℕ) where
  pub rising_passed : (a : ℕ) (before after : List Bucket) → Passed x before → Rising k a (before ++ after) → Under x before
  rising_passed a [] after p r = tt
  rising_passed a (b ∷ before) after p r = (omega (arith, p.0, r.0.one), rising_passed (b.offset + 1) before after p.1 r.1)

  pub rising_at : (b : Bucket) (after : List Bucket) (a : ℕ) (before : List Bucket) → Rising k a (before ++ b ∷ after) → b.width ≡ 1
  rising_at b after a [] r = r.0.one
  rising_at b after a (c ∷ before) r = rising_at b after (c.offset + 1) before r.1
