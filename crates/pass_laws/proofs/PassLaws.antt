-- The exact pass over the buckets of a level finds exactly what soundness asks of them, and their weight. Assumes nothing.
use Rattle.std.specs.Prelude.{List, [], ◌∷◌, ◌≡◌, refl, length}
use Rattle.std.proofs.Common.{⊎_elim, ap, ◌∙◌, div-add-mod', le-ltb, le-leb, ne_eqb}
use Rattle.std.proofs.Math.Path.{sym}
use Prim.Native.Nat.{ℕ, zero, suc, ◌+◌, ◌-◌, ◌*◌, ◌/◌, ◌%◌, ◌^◌, ◌≤◌, ◌<◌}
use Rattle.std.proofs.Math.Nat.{mul-mod_left, mod-eq_of_lt}
use native.Mathlib.Omega.{arith}
use Rattle.std.specs.Int.Bits.{bit_and, bit_xor, or_lt}
use Rattle.std.proofs.lemmas.Nat.{and_mask}
use Rattle.std.proofs.Math.Pow.{pow_pos, pow_mono, pow-lt}
use Rattle.model.specs.Level.{Bucket}
use Rattle.model.specs.Sound.{weight_of, sound_buckets}
use Rattle.laws.specs.Cond.{lt_or_ge, by_lt, by_le, by_eq}
use Rattle.laws.specs.Add.{Dyadic, width_pos}
use Rattle.laws.specs.Tests.{Tests, tests_same, tests_equal, ltb_tests, eqb_tests, and_tests, implies_tests}
use Rattle.laws.specs.Put.{Single, Rising}
use Rattle.laws.specs.SoundLevel.{SoundBucket, Chained, SoundBuckets, buckets_tests}
use Rattle.words.specs.Bits.{or_none, none_or, or_least, xor_none, none_xor, lone_bit}
use Rattle.pass_laws.specs.Pass.{unseen, below, less, spread, see_single, see_bucket, see_one, see_all, least_of, seen_level, weight_seen, sound_seen}
use Rattle.pass_laws.specs.declared.Seen.{Seen}

-- what the tests require of a pass
record Faultless (k i : ℕ) (t : Seen) : Type 0 where
  exact : t.faults ≡ 0
  inside : t.reach < 2 ^ k
  light : t.heavy < 2 ^ suc i
  enough : t.short ≡ 0

-- ---- the tests of one number

none_below : (x y : ℕ) → below x y ≡ 0 → y ≤ x
none_below x y = by_lt {a = 1} {b = 0} x y (λ (z : ℕ). z ≡ 0 → y ≤ x) (λ _ e. absurd (omega arith)) (λ h _. h)

below_none : (x y : ℕ) → y ≤ x → below x y ≡ 0
below_none x y h = rw (le-ltb x y h)

-- a width within 2 ^ k, as follows if the word before it is below 2 ^ k
pub record Length (k w : ℕ) : Type 0 where
  pub some : 0 < w
  pub before : less w ≡ w - 1
  pub most : w ≤ 2 ^ k

pub reached : (k w : ℕ) → k ≤ 31 → less w < 2 ^ k → Length k w
reached k zero hk h = absurd (omega (arith, pow_mono hk))
reached k (suc w) hk h = record { some = omega arith; before = omega arith; most = omega arith }

-- the word that is w if 1 is added modulo 2 ^ 32
pub less-is : (r w : ℕ) → r < 2 ^ 32 → (r + 1) % 2 ^ 32 ≡ w → r ≡ less w
less-is r zero h e = omega arith
less-is r (suc w) h e = omega arith

pub before-is : (w : ℕ) → 0 < w → less w ≡ w - 1
before-is zero h = absurd (omega arith)
before-is (suc w) h = omega arith

-- ---- a width and an offset that share no bit with the number before the width

pub aligned : (k o w : ℕ) → 0 < w → w ≤ 2 ^ k → bit_and w (w - 1) ≡ 0 → bit_and o (w - 1) ≡ 0 → Dyadic k o w
aligned k o w some most p q =
    let b = lone_bit w some p in
    let m = b.size in
    let few : m ≤ k = ⊎_elim (λ (h : k < m). absurd (omega (arith, b.same, pow-lt h))) (λ (h : m ≤ k). h) (lt_or_ge k m) in
    let rest : o % w ≡ 0 = rw b.same (sym (and_mask o m) ∙ rw b.same at q) in
    record {
      size = m;
      depth = k - m;
      place = o / w;
      power = b.same;
      deep = omega arith;
      aligned = omega (arith, div-add-mod' o w);
    }

common_none : {k o w : ℕ} (d : Dyadic k o w) → (place : ℕ) → bit_and (place * w) (w - 1) ≡ 0
common_none d place = rw d.power (and_mask (place * 2 ^ d.size) d.size ∙ mul-mod_left place (2 ^ d.size))

-- ---- one bucket of a level from 1 on

module _ (k i count : ℕ) (few : k ≤ 20) where
  abbrev least : ℕ
  least = least_of count i

  -- a bucket that passed is sound, and those before it passed
  bucket_sound : (t : Seen) (b : Bucket) → Faultless k i (see_bucket least t b) → Faultless k i t × SoundBucket k i count t.end b
  unfolding see_bucket
  bucket_sound t b p =
      let o = b.offset in
      let w = b.width in
      let x = b.weight in
      let f1 = or_none _ (bit_and o (less w)) p.exact in
      let f2 = or_none _ (bit_and w (less w)) f1.0 in
      let f3 = or_none t.faults (bit_xor t.end o) f2.0 in
      let r = or_least t.reach (less w) in
      let l = reached k w (omega arith) (omega (arith, p.inside)) in
      let h = or_least t.heavy (spread b) in
      let heavy : least ≤ x = none_below x least (omega (arith, p.enough)) in (
        record { exact = f3.0; inside = omega (arith, p.inside); light = omega (arith, p.light); enough = omega (arith, p.enough) },
        record {
          at = sym (xor_none t.end o f3.1);
          shape = aligned k o w l.some l.most (rw l.before at f2.1) (rw l.before at f1.1);
          light = λ wide. let s : spread b ≡ x = rw (ne_eqb w 1 (λ e. omega arith)) in omega (arith, p.light);
          heavy = λ many. rw (le-leb 2 count many) at heavy;
        },
      )

  -- a sound bucket passes
  sound_bucket_lem : (t : Seen) (b : Bucket) → Faultless k i t → SoundBucket k i count t.end b → Faultless k i (see_bucket least t b)
  unfolding see_bucket
  sound_bucket_lem t b p s =
      let o = b.offset in
      let w = b.width in
      let x = b.weight in
      let d = s.shape in
      let some = width_pos d in
      let before = before-is w some in
      let most : w ≤ 2 ^ k = omega (arith, d.power, pow_mono {i = d.size} {j = k} (omega (arith, d.deep))) in
      let own : bit_and w (less w) ≡ 0 = rw before (let c = common_none d 1 in let one : 1 * w ≡ w = omega arith in rw one at c) in
      let multiple : bit_and o (less w) ≡ 0 = rw (before, d.aligned) (common_none d d.place) in
      let spread_light : spread b < 2 ^ suc i =
      by_eq w 1 (λ (z : ℕ). z < 2 ^ suc i) (λ _. pow_pos (suc i)) (λ ne. s.light (omega (arith, some, ne))) in
      let enough : below x least ≡ 0 = below_none x least (by_le 2 count (λ (z : ℕ). z ≤ x) s.heavy (λ _. omega arith)) in
      record {
        exact = none_or _ _ (none_or _ _ (none_or _ _ p.exact (none_xor t.end o (sym s.at))) own) multiple;
        inside = or_lt k t.reach (less w) p.inside (omega (arith, before));
        light = or_lt (suc i) t.heavy (spread b) p.light spread_light;
        enough = omega (arith, p.enough);
      }

-- ---- one bucket of level 0

module _ (k i : ℕ) where
  -- a bucket that passed is sound, and those before it passed
  single_sound : (t : Seen) (b : Bucket) → Faultless k i (see_single t b) → Faultless k i t × Single k t.end b
  unfolding see_single
  single_sound t b p =
      let f = or_none t.faults (bit_xor b.width 1) p.exact in
      let r = or_least t.reach b.offset in (
        record { exact = f.0; inside = omega (arith, p.inside); light = p.light; enough = omega (arith, p.enough) },
        record {
          low = none_below b.offset t.end (omega (arith, p.enough));
          high = omega (arith, p.inside);
          one = xor_none b.width 1 f.1;
          some = none_below b.weight 1 (omega (arith, p.enough));
        },
      )

  -- a sound bucket passes
  sound_single : (t : Seen) (b : Bucket) → Faultless k i t → Single k t.end b → Faultless k i (see_single t b)
  unfolding see_single
  sound_single t b p s = record {
    exact = none_or _ _ p.exact (none_xor b.width 1 s.one);
    inside = or_lt k t.reach b.offset p.inside s.high;
    light = p.light;
    enough = omega (arith, p.enough, below_none b.offset t.end s.low, below_none b.weight 1 s.some);
  }

-- ---- all buckets

-- if all passed, those before passed
faultless_before : (k i : ℕ) (see : Seen → Bucket → Seen) → ((t : Seen) (b : Bucket) → Faultless k i (see t b) → Faultless k i t)
    → (t : Seen) (bs : List Bucket) → Faultless k i (see_all see t bs) → Faultless k i t
faultless_before k i see back t [] p = p
faultless_before k i see back t (b ∷ bs) p = back t b (faultless_before k i see back (see t b) bs p)

module _ (k i : ℕ) (few : k ≤ 20) where
  next_single : (t : Seen) (b : Bucket) → b.offset < 2 ^ k → (see_single t b).end ≡ b.offset + 1
  unfolding see_single
  next_single t b h = mod-eq_of_lt (omega (arith, pow_mono few))

  singles_sound : (t : Seen) (bs : List Bucket) → Faultless k i (see_all see_single t bs) → Rising k t.end bs
  singles_sound t [] p = tt
  singles_sound t (b ∷ bs) p =
      let s = (single_sound k i t b (faultless_before k i see_single (λ u c q. (single_sound k i u c q).0) (see_single t b) bs p)).1 in
      (s, rw (← next_single t b s.high) (singles_sound (see_single t b) bs p))

  sound_singles : (t : Seen) (bs : List Bucket) → Faultless k i t → Rising k t.end bs → Faultless k i (see_all see_single t bs)
  sound_singles t [] p r = p
  sound_singles t (b ∷ bs) p r =
      sound_singles (see_single t b) bs (sound_single k i t b p r.0) (rw (next_single t b r.0.high) r.1)

-- the ends stay below 2 ^ 32 as long as there is room for n buckets more
end_next : (k i count start : ℕ) (b : Bucket) (n : ℕ) → k ≤ 20 → start + 1048576 * suc n < 2 ^ 32 → SoundBucket k i count start b
    → ((b.offset + b.width) % 2 ^ 32 ≡ b.offset + b.width) × (b.offset + b.width + 1048576 * n < 2 ^ 32)
end_next k i count start b n few room s =
    let d = s.shape in
    let most : b.width ≤ 2 ^ 20 = omega (arith, d.power, pow_mono {i = d.size} {j = 20} (omega (arith, d.deep))) in
    (mod-eq_of_lt (omega (arith, s.at)), omega (arith, s.at))

module _ (k i count : ℕ) (few : k ≤ 20) where
  abbrev see : Seen → Bucket → Seen
  see = see_bucket (least_of count i)

  abbrev Room : Seen → List Bucket → Type 0
  Room t bs = t.end + 1048576 * length bs < 2 ^ 32

  next_bucket : (t : Seen) (b : Bucket) (bs : List Bucket) → Room t (b ∷ bs) → SoundBucket k i count t.end b
      → ((see t b).end ≡ b.offset + b.width) × Room (see t b) bs
  unfolding see_bucket
  next_bucket t b bs room s = let n = end_next k i count t.end b (length bs) few room s in (n.0, rw n.0 n.1)

  buckets_sound : (t : Seen) (bs : List Bucket) → Room t bs → Faultless k i (see_all see t bs) → (see_all see t bs).end ≡ 2 ^ k
      → Chained k i count t.end bs
  buckets_sound t [] room p e = e
  buckets_sound t (b ∷ bs) room p e =
      let s = (bucket_sound k i count few t b (faultless_before k i see (λ u c q. (bucket_sound k i count few u c q).0) (see t b) bs p)).1 in
      let n = next_bucket t b bs room s in
      (s, rw (← n.0) (buckets_sound (see t b) bs n.1 p e))

  sound_buckets_lem : (t : Seen) (bs : List Bucket) → Room t bs → Faultless k i t → Chained k i count t.end bs
      → Faultless k i (see_all see t bs) × ((see_all see t bs).end ≡ 2 ^ k)
  sound_buckets_lem t [] room p r = (p, r)
  sound_buckets_lem t (b ∷ bs) room p r =
      let n = next_bucket t b bs room r.0 in
      sound_buckets_lem (see t b) bs n.1 (sound_bucket_lem k i count few t b p r.0) (rw n.0 r.1)

-- a chain starts at or before 2 ^ k
pub chained-start : (k i count start : ℕ) (bs : List Bucket) → Chained k i count start bs → start ≤ 2 ^ k
chained-start k i count start [] e = omega arith
chained-start k i count start (b ∷ bs) r = omega (arith, r.0.at, chained-start k i count (b.offset + b.width) bs r.1)

-- ---- the weight

-- the sum of the weights' upper 16 bits
abbrev highs : List Bucket → ℕ
highs [] = 0
highs (b ∷ bs) = b.weight / 65536 + highs bs

highs_near : (bs : List Bucket) → (65536 * highs bs ≤ weight_of bs) × (weight_of bs ≤ 65536 * highs bs + 65535 * length bs)
highs_near [] = (omega arith, omega arith)
highs_near (b ∷ bs) = let h = highs_near bs in (omega (arith, h.0), omega (arith, h.1))

module _ (see : Seen → Bucket → Seen)
    (see_low : (t : Seen) (b : Bucket) → (see t b).low ≡ (t.low + b.weight) % 2 ^ 32)
    (see_high : (t : Seen) (b : Bucket) → (see t b).high ≡ t.high + b.weight / 65536) where
  all_low : (t : Seen) (bs : List Bucket) → (see_all see t bs).low % 2 ^ 32 ≡ (t.low + weight_of bs) % 2 ^ 32
  all_low t [] = ap (λ (z : ℕ). z % 2 ^ 32) {x = t.low} {y = t.low + 0} (omega arith)
  all_low t (b ∷ bs) = omega (arith, all_low (see t b) bs, see_low t b)

  all_high : (t : Seen) (bs : List Bucket) → (see_all see t bs).high ≡ t.high + highs bs
  all_high t [] = omega arith
  all_high t (b ∷ bs) = omega (arith, all_high (see t b) bs, see_high t b)

  all_weight : (first : ℕ) (bs : List Bucket) → length bs ≤ 1024 → weight_seen (see_all see (unseen first) bs) ≡ weight_of bs
  unfolding weight_seen
  all_weight first bs few =
      let n = highs_near bs in omega (arith, all_low (unseen first) bs, all_high (unseen first) bs, n.0, n.1)

pub seen_weight : (i first : ℕ) (bs : List Bucket) → length bs ≤ 1024 → weight_seen (seen_level i first bs) ≡ weight_of bs
unfolding see_single see_bucket
seen_weight zero first bs few = all_weight see_single (λ t b. refl) (λ t b. refl) first bs few
seen_weight (suc j) first bs few = all_weight (see_bucket (least_of (length bs) (suc j))) (λ t b. refl) (λ t b. refl) first bs few

pub one_upper : (i least : ℕ) → 0 < i → see_one i least ≡ see_bucket least
one_upper zero least h = absurd (omega arith)
one_upper (suc j) least h = refl

-- ---- soundness

-- what the tests of a level require
abbrev Satisfied : ℕ → ℕ → ℕ → Seen → Type 0
Satisfied k i first t = (first < 2 ^ k) × Faultless k i t × (0 < i → t.end ≡ 2 ^ k)

satisfied_tests : (k i first : ℕ) (t : Seen) → Tests (sound_seen k i first t) (Satisfied k i first t)
unfolding sound_seen
satisfied_tests k i first t =
    tests_same
    (and_tests (ltb_tests first (2 ^ k)) (and_tests (eqb_tests t.faults 0) (and_tests (ltb_tests t.reach (2 ^ k))
    (and_tests (ltb_tests t.heavy (2 ^ suc i)) (and_tests (eqb_tests t.short 0)
    (implies_tests (ltb_tests 0 i) (eqb_tests t.end (2 ^ k))))))))
    (λ p. (p.0, record { exact = p.1.0; inside = p.1.1.0; light = p.1.1.1.0; enough = p.1.1.1.1.0 }, p.1.1.1.1.1))
    (λ f. let p = f.1 in (f.0, (p.exact, (p.inside, (p.light, (p.enough, f.2))))))

module _ (k first : ℕ) (few : k ≤ 20) where
  begun : (i : ℕ) → Faultless k i (unseen first)
  begun i = record { exact = refl; inside = pow_pos k; light = pow_pos (suc i); enough = refl }

  satisfied_sound : (i : ℕ) (bs : List Bucket) → length bs ≤ 1024 → Satisfied k i first (seen_level i first bs) → SoundBuckets k i first bs
  satisfied_sound zero bs small f = (f.0, singles_sound k 0 few (unseen first) bs f.1)
  satisfied_sound (suc j) [] small f = absurd (omega (arith, f.0, f.2 (omega arith)))
  satisfied_sound (suc j) (b ∷ bs) small f =
      let count = length (b ∷ bs) in
      let room : first + 1048576 * count < 2 ^ 32 = omega (arith, f.0, pow_mono few) in
      (omega arith, buckets_sound k (suc j) count few (unseen first) (b ∷ bs) room f.1 (f.2 (omega arith)))

  sound_satisfied : (i : ℕ) (bs : List Bucket) → length bs ≤ 1024 → SoundBuckets k i first bs → Satisfied k i first (seen_level i first bs)
  sound_satisfied zero bs small s = (s.0, sound_singles k 0 few (unseen first) bs (begun 0) s.1, λ h. absurd (omega arith))
  sound_satisfied (suc j) [] small s = absurd (omega (arith, s.0))
  sound_satisfied (suc j) (b ∷ bs) small s =
      let r = s.1 in
      let count = length (b ∷ bs) in
      let end = chained-start k (suc j) count (b.offset + b.width) bs r.1 in
      let inside : first < 2 ^ k = omega (arith, r.0.at, width_pos r.0.shape) in
      let room : first + 1048576 * count < 2 ^ 32 = omega (arith, pow_mono few) in
      let p = sound_buckets_lem k (suc j) count few (unseen first) (b ∷ bs) room (begun (suc j)) r in
      (inside, p.0, λ _. p.1)

  pub seen-sound : (i : ℕ) (bs : List Bucket) → length bs ≤ 1024 → sound_seen k i first (seen_level i first bs) ≡ sound_buckets k i first bs
  seen-sound i bs small =
      tests_equal
      (tests_same (satisfied_tests k i first (seen_level i first bs)) (satisfied_sound i bs small) (sound_satisfied i bs small))
      (buckets_tests k i first bs)
