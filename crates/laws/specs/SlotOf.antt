-- The slot of an offset: the buckets before it end at or before the offset, and the one there ends after it. If the ends rise, as they do in
-- a sound level, each bucket shows on which side of it that slot is. Assumes nothing.
use Rattle.std.specs.Prelude.{cond, List, [], ◌∷◌, ◌≡◌, ℕ, zero, suc, ◌+◌, ◌≤◌, ◌<◌, ltb, length, get_or}
use Rattle.std.proofs.Common.{add-zero, arith}
use Rattle.model.specs.Level.{Bucket}
use Rattle.model.specs.Words.{slot, slots, decode_level}
use Rattle.laws.specs.Cond.{by_lt}
use Rattle.laws.specs.Put.{Rising}
use Rattle.laws.specs.LevelWords.{length-slots}
use Rattle.laws.specs.SoundLevel.{Chained, SoundBuckets}

abbrev pub slot_of : ℕ → List Bucket → ℕ  -- how many leading buckets end at or before offset x
slot_of x [] = 0
slot_of x (b ∷ bs) = cond (ltb x (b.offset + b.width)) 0 (suc (slot_of x bs))

pub slot_of_le : (x : ℕ) (bs : List Bucket) → slot_of x bs ≤ length bs
slot_of_le x [] = omega arith
slot_of_le x (b ∷ bs) = by_lt x (b.offset + b.width) (λ j. j ≤ suc (length bs)) (λ _. omega arith) (λ _. omega (arith, slot_of_le x bs))

abbrev pub end_of : Bucket → ℕ
end_of b = b.offset + b.width

abbrev pub EndsRise : ℕ → List Bucket → Type 0  -- each bucket ends at or after a, and not before the one before it
EndsRise a [] = Unit
EndsRise a (b ∷ bs) = (a ≤ end_of b) × EndsRise (end_of b) bs

rising_rises : (k a f : ℕ) (bs : List Bucket) → a ≤ f → Rising k f bs → EndsRise a bs
rising_rises k a f [] h r = tt
rising_rises k a f (b ∷ bs) h r =
    let s = r.0 in
    (omega (arith, s.low), rising_rises k (end_of b) (b.offset + 1) bs (omega (arith, s.one)) r.1)

chained_rises : (k i count a f : ℕ) (bs : List Bucket) → a ≤ f → Chained k i count f bs → EndsRise a bs
chained_rises k i count a f [] h c = tt
chained_rises k i count a f (b ∷ bs) h c = (omega (arith, c.0.at), chained_rises k i count (end_of b) (end_of b) bs (omega arith) c.1)

-- the ends of a sound level rise: at level 0 each bucket is above the one before, at the others it starts where that one ends
pub sound_rises : (k i f : ℕ) (bs : List Bucket) → SoundBuckets k i f bs → EndsRise 0 bs
sound_rises k zero f bs s = rising_rises k 0 f bs (omega arith) s.1
sound_rises k (suc j) f bs s = chained_rises k (suc j) (length bs) 0 f bs (omega arith) s.1

-- `none` is the default for a slot without a bucket
module _ (none : Bucket) where
  rises_at : (a : ℕ) (bs : List Bucket) (m : ℕ) → m < length bs → EndsRise a bs → a ≤ end_of (get_or bs m none)
  rises_at a [] m h r = absurd (omega arith)
  rises_at a (b ∷ bs) zero h r = r.0
  rises_at a (b ∷ bs) (suc m) h r = omega (arith, r.0, rises_at (end_of b) bs m (omega arith) r.1)

  -- a bucket that ends after x bounds the slot of x from above
  slot_of_most : (x : ℕ) (bs : List Bucket) (m : ℕ) → m < length bs → x < end_of (get_or bs m none) → slot_of x bs ≤ m
  slot_of_most x [] m h past = absurd (omega arith)
  slot_of_most x (b ∷ bs) zero h past = by_lt x (end_of b) (λ j. j ≤ 0) (λ _. omega arith) (λ ended. absurd (omega arith))
  slot_of_most x (b ∷ bs) (suc m) h past =
      by_lt x (end_of b) (λ j. j ≤ suc m) (λ _. omega arith) (λ _. omega (arith, slot_of_most x bs m (omega arith) past))

  -- if the ends rise, a bucket that ends at or before x bounds it from below
  slot_of_least : (x a : ℕ) (bs : List Bucket) (m : ℕ) → EndsRise a bs → m < length bs → end_of (get_or bs m none) ≤ x → m < slot_of x bs
  slot_of_least x a [] m r h ended = absurd (omega arith)
  slot_of_least x a (b ∷ bs) zero r h ended =
      by_lt x (end_of b) (λ j. 0 < j) (λ past. absurd (omega arith)) (λ _. omega arith)
  slot_of_least x a (b ∷ bs) (suc m) r h ended =
      by_lt x (end_of b) (λ j. suc m < j)
      (λ past. absurd (omega (arith, rises_at (end_of b) bs m (omega arith) r.1)))
      (λ _. omega (arith, slot_of_least x (end_of b) bs m r.1 (omega arith) ended))

-- bucket m of the list is that of its slot
slots-get_or : (ws : List ℕ) (j c m : ℕ) (none : Bucket) → m < c → get_or (slots ws j c) m none ≡ slot ws (j + m)
slots-get_or ws j zero m none h = absurd (omega arith)
slots-get_or ws j (suc c) zero none h = rw (add-zero j)
slots-get_or ws j (suc c) (suc m) none h = let e : j + suc m ≡ j + 1 + m = omega arith in rw e (slots-get_or ws (j + 1) c m none (omega arith))

-- so the bucket of a slot shows whether the slot of x comes after it
module _ (ws : List ℕ) (x m : ℕ) (h : m < get_or ws 0 0) where
  here : get_or (slots ws 0 (get_or ws 0 0)) m (slot ws m) ≡ slot ws m
  here = let e : 0 + m ≡ m = omega arith in rw e at (slots-get_or ws 0 (get_or ws 0 0) m (slot ws m) h)

  inside : m < length (slots ws 0 (get_or ws 0 0))
  inside = omega (arith, length-slots ws 0 (get_or ws 0 0))

  pub slot-most : x < end_of (slot ws m) → slot_of x (decode_level ws).buckets ≤ m
  unfolding decode_level
  slot-most past = slot_of_most (slot ws m) x (slots ws 0 (get_or ws 0 0)) m inside (rw here past)

  pub slot-least : EndsRise 0 (decode_level ws).buckets → end_of (slot ws m) ≤ x → m < slot_of x (decode_level ws).buckets
  unfolding decode_level
  slot-least rises ended = slot_of_least (slot ws m) x 0 (slots ws 0 (get_or ws 0 0)) m rises inside (rw here ended)
