-- Delivery and clock keep a sound block sound, grown or not; and on every sound half some level serves each opening.
-- Rests on the soundness of one level being kept.
use Rattle.std.specs.Prelude.{true, ◌≡◌, refl, List, [], ◌∷◌, ℕ, zero, suc, ◌+◌, ◌*◌, ◌%◌, ◌^◌, ◌≤◌, ◌<◌, eqb, length, get_or}
use Rattle.std.proofs.Common.{sym, ◌∙◌, ⊎_elim, zero-add, mul-le-mul_right, mod-lt, arith, pow_pos, le-leb}
use Rattle.std.proofs.Math.Path.{ap}
use Rattle.std.proofs.lemmas.Bool.{lt-leb}
use Rattle.shape.specs.declared.Shape.{Shape}
use Rattle.shape.specs.Layout.{block_words}
use Rattle.model.specs.Level.{Level, level_of, insert, empty_level}
use Rattle.model.specs.Block.{Half, Block, up_from, empty_half, insert_all, deliver_half, deliver, half_of, interval, offset_of, advance, empties, serving, serving_index}
use Rattle.model.specs.Words.{encode_block}
use Rattle.model.specs.Sound.{sound_block}
use Rattle.model.specs.Ground.{first_at, Finest}
use Rattle.laws.specs.Cond.{by_test, lt_or_ge}
use Rattle.laws.specs.Parts.{length_up_from, get_or_up_from}
use Rattle.laws.specs.SoundLevel.{SoundLevel, sound_tests_lem}
use Rattle.laws.specs.InsertSound.{empty_sound, insert-sound, sound_serves}
use Rattle.laws.specs.BlockWords.{HalfSound, sound_sized, length-encode_block, sound_block_encode}
use Rattle.laws.specs.Proper.{Proper}

-- each level of a sound half, as facts
half-level : (s : Shape) (h : Half) (y : HalfSound s h) (i : ℕ) → i ≤ s.last → SoundLevel s.k s.n i h.total (y.level_at i)
half-level s h y i low = (sound_tests_lem s.k s.n i h.total (y.level_at i)).0 (y.sound i low)

-- a delivery into levels from i on is one into each
pub insert_all_up_from : (n x v : ℕ) (f : ℕ → Level) (i c : ℕ) → insert_all n i x v (up_from f i c) ≡ up_from (λ j. insert n j x v (f j)) i c
insert_all_up_from n x v f i zero = refl
insert_all_up_from n x v f i (suc c) = ap (λ ls. insert n i x v (f i) ∷ ls) (insert_all_up_from n x v f (suc i) c)

-- level i is the finest with F at most a, and it is the level l
pub record FinestIs (a : ℕ) (levels : List Level) (i : ℕ) (l : Level) : Type 0 where
  pub finest : Finest a levels i
  pub same : get_or levels i (level_of 0 []) ≡ l

module _ (a : ℕ) (l : Level) (ls : List Level) where
  finest_here : l.first ≤ a → FinestIs a (l ∷ ls) 0 l
  finest_here h = record { finest = record { among = omega arith; held = h; past = λ j before. absurd (omega arith) }; same = refl }

  finest_later : a < l.first → (i : ℕ) (m : Level) → FinestIs a ls i m → FinestIs a (l ∷ ls) (suc i) m
  finest_later above i m r = record {
    finest = record { among = omega (arith, r.finest.among); held = r.finest.held; past = past };
    same = r.same;
  }
    where
      past : (j : ℕ) → j < suc i → a < first_at (l ∷ ls) j
      past zero before = above
      past (suc j) before = r.finest.past j (omega arith)

-- if some level has F at most a, the serving index is that of the finest such one, and this is the level that serves
finest_serves : (a : ℕ) (levels : List Level) (i : ℕ) → i < length levels → first_at levels i ≤ a → FinestIs a levels (serving_index a levels) (serving a levels)
finest_serves a [] i h held = absurd (omega arith)
finest_serves a (l ∷ ls) zero h held = rw (le-leb l.first a held) (finest_here a l ls held)
finest_serves a (l ∷ ls) (suc i) h held =
    ⊎_elim
    (λ (above : a < l.first).
    rw (lt-leb l.first a above) (finest_later a l ls above (serving_index a ls) (serving a ls) (finest_serves a ls i (omega arith) held)))
    (λ (here : l.first ≤ a). rw (le-leb l.first a here) (finest_here a l ls here))
    (lt_or_ge a l.first)

-- level i of levels 0 to `last` serves a: no finer one does
pub record ServesAt (a : ℕ) (f : ℕ → Level) (last i : ℕ) : Type 0 where
  pub low : i ≤ last
  pub held : (f i).first ≤ a
  pub past : (j : ℕ) → j < i → a < (f j).first

-- levels 0 to `last`, of which the last has evicted nothing
module _ (a : ℕ) (f : ℕ → Level) (last : ℕ) (whole : (f last).first ≡ 0) where
  abbrev levels : List Level
  levels = up_from f 0 (suc last)

  level-is : (i : ℕ) → i ≤ last → get_or levels i (level_of 0 []) ≡ f i
  level-is i h = rw zero-add at (get_or_up_from f 0 (suc last) i (level_of 0 []) (omega arith))

  serving_finest : FinestIs a levels (serving_index a levels) (serving a levels)
  serving_finest =
      finest_serves a levels last (omega (arith, length_up_from f 0 (suc last))) (rw (level-is last (omega arith)) (omega (arith, whole)))

  -- the level of the serving index serves a, and it is the one that `serving` gives
  pub serving-index : ServesAt a f last (serving_index a levels) × (f (serving_index a levels) ≡ serving a levels)
  serving-index =
      let i : ℕ = serving_index a levels in
      let r = serving_finest in
      let low : i ≤ last = omega (arith, r.finest.among, length_up_from f 0 (suc last)) in (
        record {
          low = low;
          held = rw (level-is i low, first_at) at r.finest.held;
          past = λ j before. rw (level-is j (omega arith), first_at) at (r.finest.past j before);
        },
        sym (level-is i low) ∙ r.same,
      )

module _ (s : Shape) (proper : Proper s) where
  -- an empty half is sound
  pub empty_half_lem : HalfSound s (empty_half s)
  unfolding empty_half
  empty_half_lem = record {
    level_at = empty_level s.k;
    levels = refl;
    total = omega arith;
    sound = λ i low. (sound_tests_lem s.k s.n i 0 (empty_level s.k i)).1 (empty_sound s.k s.n i proper.limits.low_n);
  }

  -- a sound half stays sound after a delivery for which it has room
  deliver-half : (h : Half) (x v : ℕ) → HalfSound s h → x < 2 ^ s.k → h.total + v ≤ 2 ^ s.m → HalfSound s (deliver_half s x v h)
  unfolding deliver_half
  deliver-half h x v y inside room = record {
    level_at = λ i. insert s.n i x v (y.level_at i);
    levels = ap (insert_all s.n 0 x v) y.levels ∙ insert_all_up_from s.n x v y.level_at 0 (suc s.last);
    total = room;
    sound = λ i low.
        (sound_tests_lem s.k s.n i (h.total + v) (insert s.n i x v (y.level_at i))).1
        (insert-sound s.k s.n i proper.limits.low_n h.total x v (y.level_at i) inside (half-level s h y i low));
  }

  -- both halves
  abbrev pub Both : Block → Type 0
  Both b = HalfSound s b.even × HalfSound s b.odd

  pub both-half : (j : ℕ) (b : Block) → Both b → HalfSound s (half_of j b)
  both-half j b y = by_test (HalfSound s) (eqb (j % 2) 0) (λ _. y.0) (λ _. y.1)

  pub deliver-both : (stamp v : ℕ) (b : Block) → Both b → (half_of (interval s stamp) b).total + v ≤ 2 ^ s.m → Both (deliver s stamp v b)
  unfolding deliver
  deliver-both stamp v b y room =
      let j = interval s stamp in
      let half = deliver-half (half_of j b) (offset_of s stamp) v (both-half j b y) (mod-lt stamp (pow_pos s.k)) room in
      by_test Both (eqb (j % 2) 0) (λ _. (half, y.1)) (λ _. (y.0, half))

  pub advance-both : (old new : ℕ) (b : Block) → Both b → Both (advance s old new b)
  unfolding advance
  advance-both old new b y = (
    by_test (HalfSound s) (empties (interval s old) (interval s new) 0) (λ _. empty_half_lem) (λ _. y.0),
    by_test (HalfSound s) (empties (interval s old) (interval s new) 1) (λ _. empty_half_lem) (λ _. y.1),
  )

  -- the same of the words
  pub both-sound : (b : Block) → Both b → sound_block s (encode_block s b) ≡ true
  both-sound b y = sound_block_encode s b y.0 y.1

  pub both_size : (b : Block) → Both b → length (encode_block s b) ≡ block_words s
  both_size b y = length-encode_block s b (sound_sized s b.even y.0) (sound_sized s b.odd y.1)

  -- ---- some level serves

  -- the last level of a sound half has evicted nothing
  pub last_whole : (h : Half) (y : HalfSound s h) → (y.level_at s.last).first ≡ 0
  last_whole h y =
      let small : 2 * 2 ^ s.m ≤ s.n * 2 ^ s.m = mul-le-mul_right (2 ^ s.m) proper.limits.low_n in
      let power : 2 ^ s.last ≡ 2 ^ s.m = ap (λ (z : ℕ). 2 ^ z) proper.last in
      let product : s.n * 2 ^ s.last ≡ s.n * 2 ^ s.m = ap (λ (z : ℕ). s.n * z) power in
      sound_serves proper.limits.low_n (half-level s h y s.last (omega arith)) (omega (arith, y.total, pow_pos s.m))

  -- so one of the levels serves each opening: its F is at most the opening, and no finer level's is
  pub half_serves : (h : Half) → HalfSound s h → (a : ℕ) → FinestIs a h.levels (serving_index a h.levels) (serving a h.levels)
  half_serves h y a = rw y.levels (serving_finest a y.level_at s.last (last_whole h y))
