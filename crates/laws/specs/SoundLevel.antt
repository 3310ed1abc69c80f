-- Soundness of one level as facts, and that the tests of the model decide exactly these. Assumes nothing.
use Rattle.std.specs.Prelude.{Bool, true, ◌&&◌, ◌≡◌, refl, List, [], ◌∷◌, ℕ, zero, suc, ◌+◌, ◌-◌, ◌/◌, ◌%◌, ◌^◌, ◌≤◌, ◌<◌, leb, ltb, eqb, length, get_or, drop}
use Rattle.std.proofs.Common.{inl, inr, ⊎_elim, ap, ◌∙◌, subst, div-add-mod', arith}
use Rattle.std.proofs.Math.Nat.{mul-mod_left}
use Rattle.shape.specs.declared.Shape.{Shape}
use Rattle.shape.specs.Layout.{slot_start}
use Rattle.model.specs.Level.{Bucket, Level}
use Rattle.model.specs.Words.{decode_level}
use Rattle.model.specs.Sound.{implies, zeros, weight_of, is_power, rising, sound_bucket, chained, sound_buckets, sound_level}
use Rattle.laws.specs.Cond.{lt_or_ge}
use Rattle.laws.specs.Tests.{Tests, tests_same, leb_tests, ltb_tests, eqb_tests, and_tests, and-between, or_tests, implies_tests}
use Rattle.laws.specs.Add.{Dyadic}
use Rattle.laws.specs.Put.{Rising}
use Rattle.laws.specs.LevelWords.{length-slots}

-- a bucket of level i from 1 on, one of `count`, which starts at `start`
pub record SoundBucket (k i count start : ℕ) (b : Bucket) : Type 0 where
  pub at : b.offset ≡ start
  pub shape : Dyadic k b.offset b.width
  pub light : 1 < b.width → b.weight < 2 ^ suc i
  pub heavy : 2 ≤ count → 2 ^ i ≤ b.weight

-- each bucket starts where the one before ends, and the last ends at 2 ^ k
abbrev pub Chained : ℕ → ℕ → ℕ → ℕ → List Bucket → Type 0
Chained k i count start [] = start ≡ 2 ^ k
Chained k i count start (b ∷ bs) = SoundBucket k i count start b × Chained k i count (b.offset + b.width) bs

abbrev pub SoundBuckets : ℕ → ℕ → ℕ → List Bucket → Type 0
SoundBuckets k zero first bs = (first < 2 ^ k) × Rising k first bs
SoundBuckets k (suc j) first bs = (1 ≤ length bs) × Chained k (suc j) (length bs) first bs

-- a sound level i, in a half of this total
pub record SoundLevel (k n i total : ℕ) (l : Level) : Type 0 where
  pub few : length l.buckets ≤ n
  pub within : weight_of l.buckets ≤ total
  pub whole : l.first ≡ 0 → weight_of l.buckets ≡ total
  pub full : 0 < l.first → length l.buckets ≡ n
  pub parts : SoundBuckets k i l.first l.buckets

-- the tests of a level, of which `count` is the number of buckets
abbrev rest_tests : ℕ → ℕ → ℕ → ℕ → ℕ → Level → Bool
rest_tests k n i total count l =
    let first = l.first in
    let bs = l.buckets in
    leb (weight_of bs) total && (implies (eqb first 0) (eqb (weight_of bs) total)
    && (implies (ltb 0 first) (eqb count n) && sound_buckets k i first bs))

abbrev sound_tests : ℕ → ℕ → ℕ → ℕ → Level → Bool
sound_tests k n i total l = let count = length l.buckets in leb count n && rest_tests k n i total count l

-- ---- a width is a power of 2, and its offset a multiple of it

record Power (k x : ℕ) : Type 0 where
  size : ℕ
  most : size ≤ k
  same : x ≡ 2 ^ size

power_tests : (k x : ℕ) → Tests (is_power k x) (Power k x)
power_tests zero x =
    tests_same (eqb_tests x 1)
    (λ e. record { size = 0; most = omega arith; same = e })
    (λ p. let none : p.size ≡ 0 = omega arith in p.same ∙ ap (λ (z : ℕ). 2 ^ z) none)
power_tests (suc k) x =
    tests_same (or_tests (eqb_tests x (2 ^ suc k)) (power_tests k x))
    (⊎_elim
    (λ (e : x ≡ 2 ^ suc k). record { size = suc k; most = omega arith; same = e })
    (λ (p : Power k x). record { size = p.size; most = omega arith; same = p.same }))
    (λ p. ⊎_elim
    (λ (less : p.size < suc k). inr (record { size = p.size; most = omega arith; same = p.same }))
    (λ (top : suc k ≤ p.size). let all : p.size ≡ suc k = omega (arith, p.most) in inl (p.same ∙ ap (λ (z : ℕ). 2 ^ z) all))
    (lt_or_ge p.size (suc k)))

dyadic : (k a width : ℕ) → Power k width → a % width ≡ 0 → Dyadic k a width
dyadic k a width p e = record {
  size = p.size;
  depth = k - p.size;
  place = a / width;
  power = p.same;
  deep = omega (arith, p.most);
  aligned = omega (arith, div-add-mod' a width);
}

dyadic_rest : (k a width : ℕ) → Dyadic k a width → a % width ≡ 0
dyadic_rest k a width d = rw d.aligned (mul-mod_left d.place width)

-- ---- each test and its fact

rising_tests : (k a : ℕ) (bs : List Bucket) → Tests (rising k a bs) (Rising k a bs)
rising_tests k a [] = (λ _. tt, λ _. refl)
rising_tests k a (b ∷ bs) =
    tests_same
    (and_tests (leb_tests a b.offset) (and_tests (ltb_tests b.offset (2 ^ k)) (and_tests (eqb_tests b.width 1)
    (and_tests (leb_tests 1 b.weight) (rising_tests k (b.offset + 1) bs)))))
    (λ p. (record { low = p.0; high = p.1.0; one = p.1.1.0; some = p.1.1.1.0 }, p.1.1.1.1))
    (λ r. let s = r.0 in (s.low, (s.high, (s.one, (s.some, r.1)))))

bucket_tests : (k i count start : ℕ) (b : Bucket) → Tests (sound_bucket k i (leb 2 count) start b) (SoundBucket k i count start b)
bucket_tests k i count start b =
    tests_same
    (and_tests (eqb_tests b.offset start) (and_tests (power_tests k b.width) (and_tests (eqb_tests (b.offset % b.width) 0)
    (and_tests (implies_tests (ltb_tests 1 b.width) (ltb_tests b.weight (2 ^ suc i)))
    (implies_tests (leb_tests 2 count) (leb_tests (2 ^ i) b.weight))))))
    (λ p. record { at = p.0; shape = dyadic k b.offset b.width p.1.0 p.1.1.0; light = p.1.1.1.0; heavy = p.1.1.1.1 })
    (λ s.
    let d = s.shape in
    (s.at, (record { size = d.size; most = omega (arith, d.deep); same = d.power }, (dyadic_rest k b.offset b.width d, (s.light, s.heavy)))))

chained_tests : (k i count start : ℕ) (bs : List Bucket) → Tests (chained k i (leb 2 count) start bs) (Chained k i count start bs)
chained_tests k i count start [] = eqb_tests start (2 ^ k)
chained_tests k i count start (b ∷ bs) = and_tests (bucket_tests k i count start b) (chained_tests k i count (b.offset + b.width) bs)

pub buckets_tests : (k i first : ℕ) (bs : List Bucket) → Tests (sound_buckets k i first bs) (SoundBuckets k i first bs)
buckets_tests k zero first bs = and_tests (ltb_tests first (2 ^ k)) (rising_tests k first bs)
buckets_tests k (suc j) first bs = and_tests (leb_tests 1 (length bs)) (chained_tests k (suc j) (length bs) first bs)

pub sound_tests_lem : (k n i total : ℕ) (l : Level) → Tests (sound_tests k n i total l) (SoundLevel k n i total l)
sound_tests_lem k n i total l =
    let bs = l.buckets in
    tests_same
    (and_tests (leb_tests (length bs) n) (and_tests (leb_tests (weight_of bs) total)
    (and_tests (implies_tests (eqb_tests l.first 0) (eqb_tests (weight_of bs) total))
    (and_tests (implies_tests (ltb_tests 0 l.first) (eqb_tests (length bs) n)) (buckets_tests k i l.first bs)))))
    (λ p. record { few = p.0; within = p.1.0; whole = p.1.1.0; full = p.1.1.1.0; parts = p.1.1.1.1 })
    (λ s. (s.few, (s.within, (s.whole, (s.full, s.parts)))))

-- ---- the words of a level

-- words are sound exactly if their unused slots are zero and they stand for a sound level
pub words_tests : (s : Shape) (i total : ℕ) (ws : List ℕ)
    → Tests (sound_level s i total ws) ((zeros (drop (slot_start (get_or ws 0 0)) ws) ≡ true) × SoundLevel s.k s.n i total (decode_level ws))
unfolding sound_level decode_level
words_tests s i total ws =
    let l = decode_level ws in
    let count = get_or ws 0 0 in
    and-between (leb count s.n) (zeros (drop (slot_start count) ws)) (rest_tests s.k s.n i total count l)
    (subst (λ (c : ℕ). Tests (leb c s.n && rest_tests s.k s.n i total c l) (SoundLevel s.k s.n i total l))
    (length-slots ws 0 count) (sound_tests_lem s.k s.n i total l))
