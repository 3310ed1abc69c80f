-- If the tests of the quick pass hold, the buckets are sound, and no weight exceeds what the collected bits allow. Assumes nothing.
use Rattle.std.specs.Prelude.{List, [], ◌∷◌, ◌++◌, ◌≡◌, ℕ, zero, suc, ◌+◌, ◌-◌, ◌*◌, ◌/◌, ◌%◌, ◌^◌, ◌≤◌, ◌<◌, length}
use Rattle.std.proofs.Common.{⊎_elim, ◌∙◌, mul-suc, mul-le-mul_right, pow-suc, mod-eq_of_lt, arith, pow_pos, pow_mono, le-leb}
use Rattle.std.proofs.Math.Path.{refl, sym}
use Rattle.std.specs.Int.Bits.{bit_and, bit_xor, xor_shifted}
use Rattle.std.proofs.lemmas.Nat.{and_comm, and_mask}
use Rattle.std.proofs.lemmas.Bool.{lt-leb}
use Rattle.model.specs.Level.{Bucket}
use Rattle.model.specs.Sound.{weight_of}
use Rattle.laws.specs.Cond.{lt_or_ge, by_lt, by_le}
use Rattle.laws.specs.Tests.{Tests, tests_same, leb_tests, ltb_tests, eqb_tests, and_tests}
use Rattle.laws.specs.SoundLevel.{SoundBucket, Chained}
use Rattle.words.specs.Bits.{or_none, or_least, xor_none, lone_bit}
use Rattle.pass_laws.specs.Pass.{less, least_of}
use Rattle.pass_laws.proofs.PassLaws.{before-is, aligned, chained-start}
use Rattle.quick_laws.specs.Quick.{above, mask, quick_bucket, quick_all, mark, quick_each, most_of, is_enough, is_tried}
use Rattle.quick_laws.specs.declared.Quick.{Quick}

-- ---- the tests of one number

-- the word that is x if y is added modulo 2 ^ 32
pub above-is : (r x y : ℕ) → r < 2 ^ 32 → y < 2 ^ 32 → (r + y) % 2 ^ 32 ≡ x → r ≡ above x y
above-is r x y hr hy e =
    by_lt {a = x + (4294967296 - y)} {b = x - y} x y (λ (z : ℕ). r ≡ z) (λ h. omega (arith, e)) (λ h. omega (arith, e))

-- a word that is not far above a small one is not below it
above-small : (x y : ℕ) → y ≤ 1048576 → above x y < 2097152 → (y ≤ x) × (x ≡ y + above x y)
above-small x y h =
    by_lt {a = x + (4294967296 - y)} {b = x - y} x y (λ (z : ℕ). z < 2097152 → (y ≤ x) × (x ≡ y + z))
    (λ lt near. absurd (omega arith))
    (λ ge near. (ge, omega arith))

-- a word that shares no bit with the word of all bits is 0
no_bit : (m : ℕ) → m < 4294967296 → bit_and 4294967295 m ≡ 0 → m ≡ 0
no_bit m h e = sym (mod-eq_of_lt h) ∙ sym (and_mask m 32) ∙ and_comm m 4294967295 ∙ e

same_order : (a b x y : ℕ) → a ≡ 2147483648 + x → b ≡ 2147483648 + y → a ≤ b → x ≤ y
same_order a b x y p q h = omega (arith, p, q, h)

none-zero : {P : Type 0} (m : ℕ) → 0 < m → m ≡ 0 → P
none-zero m h e = absurd (omega arith)

-- words below 2 ^ 31 compare alike, signed or unsigned
mask-none : (x y m : ℕ) → x < 2147483648 → y < 2147483648 → 0 < m → m < 4294967296 → bit_and (mask x y) m ≡ 0 → x ≤ y
mask-none x y m hx hy some word =
    by_lt {a = 4294967295} {b = 0} (bit_xor 2147483648 y) (bit_xor 2147483648 x) (λ (z : ℕ). bit_and z m ≡ 0 → x ≤ y)
    (λ lt e. none-zero m some (no_bit m word e))
    (λ ge e. same_order _ _ x y (xor_shifted 1 31 x hx) (xor_shifted 1 31 y hy) ge)

-- ---- a width that shares no bit with the word before it, and an offset that does not either

some_length : (o w : ℕ) → 0 < o → o < 4294967296 → bit_and o (less w) ≡ 0 → 0 < w
some_length o zero some word e = absurd (omega (arith, some, no_bit o word (and_comm 4294967295 o ∙ e)))
some_length o (suc w) some word e = omega arith

-- such an offset that is not 0 is a multiple of the width, so the width is at most as large
not_longer : (o w : ℕ) → 0 < o → 0 < w → bit_and w (less w) ≡ 0 → bit_and o (less w) ≡ 0 → w ≤ o
not_longer o w past some own multiple =
    let b = lone_bit w some (rw (before-is w some) at own) in
    let none : bit_and o (w - 1) ≡ 0 = rw (before-is w some) at multiple in
    let rest : o % w ≡ 0 = rw b.same (sym (and_mask o b.size) ∙ rw b.same at none) in
    ⊎_elim (λ (h : o < w). absurd (omega (arith, past, rest, mod-eq_of_lt h))) (λ (h : w ≤ o). h) (lt_or_ge o w)

-- ---- one bucket

-- what the tests require of the pass so far, in which no weight is more than e above the least one
pub record Enough (k e : ℕ) (t : Quick) : Type 0 where
  pub exact : t.faults ≡ 0
  pub inside : t.reach / 2 < 2 ^ k
  pub near : t.extra ≤ e

most-small : (count i : ℕ) → i ≤ 24 → most_of count i < 2147483648
most-small count i few =
    by_le {a = 2 ^ i - 1} {b = 2 ^ suc i - 1} 2 count (λ (z : ℕ). z < 2147483648)
    (λ _. omega (arith, pow_mono few))
    (λ _. omega (arith, pow_mono few, pow-suc 2 i))

-- a weight `most` above the least one is still below 2 ^ (i + 1)
light_sum : (count i e : ℕ) → e ≤ most_of count i → least_of count i + e < 2 ^ suc i
light_sum count i e =
    by_le {a = 2 ^ i - 1} {b = 2 ^ suc i - 1} 2 count (λ (z : ℕ). e ≤ z → least_of count i + e < 2 ^ suc i)
    (λ many h. let both : 2 ^ i + e < 2 ^ suc i = omega (arith, h, pow_pos i, pow-suc 2 i) in rw (le-leb 2 count many) both)
    (λ one h. let alone : 0 + e < 2 ^ suc i = omega (arith, h, pow_pos (suc i)) in rw (lt-leb 2 count one) alone)

-- a mark means that the end is within reach
pub mark_inside : (k e : ℕ) (t : Quick) → k ≤ 20 → Enough k e (mark t) → Enough k e t × (t.end ≤ 2 ^ 21)
mark_inside k e t few p =
    let r = or_least t.reach t.end in
    let within : t.end / 2 < 2 ^ k = omega (arith, p.inside, r.1) in
    (record { exact = p.exact; inside = omega (arith, p.inside, r.0); near = p.near }, omega (arith, within, pow_mono few))

more : (top x w n : ℕ) → x ≤ top → w ≤ top * n → x + w ≤ top * suc n
more top x w n h p = omega (arith, h, p, mul-suc top n)

-- the width of the first bucket
abbrev pub width_of_first : List Bucket → ℕ
width_of_first [] = 0
width_of_first (b ∷ bs) = b.width

-- if the buckets start at 0, the first width is not 0 and at most 2 ^ 21
abbrev pub Leads : ℕ → List Bucket → Type 0
Leads start bs = start ≡ 0 → (0 < width_of_first bs) × (width_of_first bs ≤ 2 ^ 21)

-- what holds of the buckets from `start` on, if none is more than e above the least weight
abbrev pub Held : ℕ → ℕ → ℕ → ℕ → ℕ → List Bucket → Type 0
Held k i count e start bs = Chained k i count start bs × (weight_of bs ≤ (least_of count i + e) * length bs)

module _ (k i count e : ℕ) (few : k ≤ 20) (low : i ≤ 24) (small : least_of count i ≤ 1048576) (light : e < 2097152) where
  abbrev least : ℕ
  least = least_of count i

  abbrev most : ℕ
  most = most_of count i

  abbrev quick : Quick → Bucket → Quick
  quick = quick_bucket least most

  -- what follows for a bucket that passed
  record Read (t : Quick) (b : Bucket) : Type 0 where
    before : Enough k e t
    at : b.offset ≡ t.end
    own : bit_and b.width (less b.width) ≡ 0
    multiple : bit_and b.offset (less b.width) ≡ 0
    masked : bit_and (mask (above b.weight least) most) (less b.width) ≡ 0
    near : above b.weight least ≤ e

  quick_read : (t : Quick) (b : Bucket) → Enough k e (quick t b) → Read t b
  unfolding quick_bucket
  quick_read t b p =
      let o = b.offset in
      let w = b.width in
      let x = above b.weight least in
      let f0 = or_none _ (bit_and (mask x most) (less w)) p.exact in
      let f1 = or_none _ (bit_and o (less w)) f0.0 in
      let f2 = or_none _ (bit_and w (less w)) f1.0 in
      let f3 = or_none t.faults (bit_xor t.end o) f2.0 in
      let h = or_least t.extra x in
      record {
        before = record { exact = f3.0; inside = p.inside; near = omega (arith, p.near, h.0) };
        at = sym (xor_none t.end o f3.1);
        own = f2.1;
        multiple = f1.1;
        masked = f0.1;
        near = omega (arith, p.near, h.1);
      }

  pub quick_end : (t : Quick) (b : Bucket) → (quick t b).end ≡ (b.offset + b.width) % 2 ^ 32
  unfolding quick_bucket
  quick_end t b = refl

  -- a bucket that starts by 2 ^ m ends after 0 and by 2 ^ (m + 1)
  record Next (m : ℕ) (t : Quick) (b : Bucket) : Type 0 where
    some : 0 < b.width
    same : (quick t b).end ≡ b.offset + b.width
    most : b.offset + b.width ≤ 2 ^ suc m

  length_near : (m : ℕ) (t : Quick) (b : Bucket) (bs : List Bucket) → 21 ≤ m → m ≤ 25 → t.end ≤ 2 ^ m → Leads t.end (b ∷ bs) → Read t b
      → (0 < b.width) × (b.width ≤ 2 ^ m)
  length_near m t b bs lo hi near leads r =
      ⊎_elim
      (λ (at_start : t.end < 1). let l = leads (omega (arith, at_start)) in (l.0, omega (arith, l.1, pow_mono lo)))
      (λ (past : 1 ≤ t.end).
      let o : 0 < b.offset = omega (arith, r.at, past) in
      let word : b.offset < 4294967296 = omega (arith, r.at, near, pow_mono hi) in
      let some = some_length b.offset b.width o word r.multiple in
      (some, omega (arith, not_longer b.offset b.width o some r.own r.multiple, r.at, near)))
      (lt_or_ge t.end 1)

  next : (m : ℕ) (t : Quick) (b : Bucket) (bs : List Bucket) → 21 ≤ m → m ≤ 25 → t.end ≤ 2 ^ m → Leads t.end (b ∷ bs) → Read t b → Next m t b
  next m t b bs lo hi near leads r =
      let w = length_near m t b bs lo hi near leads r in
      let bound : b.offset + b.width ≤ 2 ^ suc m = omega (arith, r.at, near, w.1, pow-suc 2 m) in
      let word : b.offset + b.width < 2 ^ 32 = omega (arith, r.at, near, w.1, pow_mono hi) in
      record { some = w.0; same = quick_end t b ∙ mod-eq_of_lt word; most = bound }

  -- a bucket that passed is sound and not too heavy, if its width is within 2 ^ k
  read_sound : (t : Quick) (b : Bucket) → Read t b → 0 < b.width → b.width ≤ 2 ^ k → SoundBucket k i count t.end b × (b.weight ≤ least + e)
  read_sound t b r some within =
      let w = b.width in
      let x = b.weight in
      let before = before-is w some in
      let s = above-small x least small (omega (arith, r.near, light)) in (
        record {
          at = r.at;
          shape = aligned k b.offset w some within (rw before at r.own) (rw before at r.multiple);
          light = λ wide.
              let bound = mask-none (above x least) most (less w) (omega (arith, r.near, light)) (most-small count i low) (omega (arith, before))
              (omega (arith, before, within, pow_mono few)) r.masked in
              omega (arith, s.1, light_sum count i (above x least) bound);
          heavy = λ many. rw (le-leb 2 count many) at s.0;
        },
        omega (arith, s.1, r.near),
      )

  -- ---- all buckets

  -- the buckets after one that passed end at 2 ^ k, so this one ends before that
  held : (m : ℕ) (t : Quick) (b : Bucket) (bs : List Bucket) → Read t b → Next m t b → Held k i count e (quick t b).end bs → Held k i count e t.end (b ∷ bs)
  held m t b bs r n c =
      let chain : Chained k i count (b.offset + b.width) bs = rw n.same at c.0 in
      let s = read_sound t b r n.some (omega (arith, chained-start k i count (b.offset + b.width) bs chain)) in
      ((s.0, chain), more (least + e) b.weight (weight_of bs) (length bs) s.1 c.1)

  past-start : (m : ℕ) (t : Quick) (b : Bucket) (bs : List Bucket) → Next m t b → Leads (quick t b).end bs
  past-start m t b bs n z = absurd (omega (arith, z, n.same, n.some))

  -- if all passed, those before passed
  pub all_before : (t : Quick) (bs : List Bucket) → Enough k e (quick_all least most t bs) → Enough k e t
  all_before t [] p = p
  all_before t (b ∷ bs) p = (quick_read t b (all_before (quick t b) bs p)).before

  pub each_before : (t : Quick) (bs : List Bucket) → Enough k e (quick_each least most t bs) → Enough k e t
  each_before t [] p = p
  each_before t (b ∷ bs) p = (quick_read t b (mark_inside k e (quick t b) few (each_before (mark (quick t b)) bs p)).0).before

  -- an end at most doubles from bucket to bucket, so a few buckets without a mark do not wrap; what holds after them holds from them on
  pub all_held : (m : ℕ) (t : Quick) (bs cs : List Bucket) → m + length bs ≤ 26 → 21 ≤ m → t.end ≤ 2 ^ m → Leads t.end (bs ++ cs)
      → Enough k e (quick_all least most t bs)
      → (Leads (quick_all least most t bs).end cs → Held k i count e (quick_all least most t bs).end cs) → Held k i count e t.end (bs ++ cs)
  all_held m t [] cs sum lo near leads p after = after leads
  all_held m t (b ∷ bs) cs sum lo near leads p after =
      let u = quick t b in
      let r = quick_read t b (all_before u bs p) in
      let n = next m t b (bs ++ cs) lo (omega (arith, sum)) near leads r in
      let bound : u.end ≤ 2 ^ suc m = omega (arith, n.same, n.most) in
      held m t b (bs ++ cs) r n
      (all_held (suc m) u bs cs (omega (arith, sum)) (omega (arith, lo)) bound (past-start m t b (bs ++ cs) n) p after)

  -- a marked end is within 2 ^ 21
  pub each_held : (t : Quick) (bs : List Bucket) → t.end ≤ 2 ^ 21 → Leads t.end bs
      → Enough k e (quick_each least most t bs) → (quick_each least most t bs).end ≡ 2 ^ k → Held k i count e t.end bs
  each_held t [] near leads p z = (z, omega arith)
  each_held t (b ∷ bs) near leads p z =
      let u = quick t b in
      let q = mark_inside k e u few (each_before (mark u) bs p) in
      let r = quick_read t b q.0 in
      let n = next 21 t b bs (omega arith) (omega arith) near leads r in
      held 21 t b bs r n (each_held (mark u) bs q.1 (past-start 21 t b bs n) p z)

-- ---- the level

-- what the tests of a level require
abbrev Tested : ℕ → ℕ → Quick → Type 0
Tested k first t = (first < 2 ^ k) × Enough k t.extra t × (t.end ≡ 2 ^ k) × (t.extra < 2097152)

pub is_enough_tests : (k first : ℕ) (t : Quick) → Tests (is_enough k first t) (Tested k first t)
unfolding is_enough
is_enough_tests k first t =
    tests_same
    (and_tests (ltb_tests first (2 ^ k)) (and_tests (eqb_tests t.faults 0) (and_tests (ltb_tests (t.reach / 2) (2 ^ k))
    (and_tests (eqb_tests t.end (2 ^ k)) (ltb_tests t.extra 2097152)))))
    (λ p. (p.0, record { exact = p.1.0; inside = p.1.1.0; near = omega arith }, p.1.1.1.0, p.1.1.1.1))
    (λ f. let p = f.1 in (f.0, (p.exact, (p.inside, (f.2, f.3)))))

-- what holds if the quick pass is tried
pub is_tried_tests : (count i : ℕ) → Tests (is_tried count i) ((0 < i) × (0 < count) × (least_of count i ≤ 1048576))
unfolding is_tried
is_tried_tests count i =
    tests_same (and_tests (ltb_tests 0 i) (and_tests (ltb_tests 0 count) (leb_tests (least_of count i) 1048576))) (λ p. (p.0, p.1.0, p.1.1))
    (λ p. (p.0, (p.1, p.2)))

pub product_fits : (a b : ℕ) → a ≤ 2 ^ 33 → b ≤ 1024 → a * b < 2 ^ 64
product_fits a b ha hb = omega (arith, mul-le-mul_right {m = a} {n = 8589934592} b ha, hb)
