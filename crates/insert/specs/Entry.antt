-- What a sound level with room for a delivery gives the code. Below F nothing changes. At level 0 the slot found has the bucket of the
-- offset, or a new bucket must stand before it. At the other levels its bucket spans the offset. Rests on soundness as facts.
use Rattle.std.specs.Prelude.{Bool, true, false, List, [], ◌∷◌, ◌++◌, ◌≡◌, ℕ, zero, suc, ◌+◌, ◌^◌, ◌≤◌, ◌<◌, length, get_or, set}
use Rattle.std.proofs.Common.{⊎_elim, sym, ◌∙◌, arith, pow_mono}
use Rattle.std.proofs.Math.Path.{ap, subst}
use Rattle.shape.specs.declared.Shape.{Shape}
use Rattle.shape.specs.Layout.{slot_start}
use Rattle.model.specs.Level.{Bucket, bucket_of, level_of, insert, insert_splits}
use Rattle.model.specs.Words.{slot, decode_level, encode_level}
use Rattle.model.specs.Sound.{weight_of}
use Rattle.laws.specs.Cond.{eq_or_ne}
use Rattle.laws.specs.Insert.{Under, Over, insert-below, insert-put, insert-new}
use Rattle.laws.specs.Splits.{splits_below, level_splits}
use Rattle.laws.specs.LevelWords.{length-slots, encode_decode_sound}
use Rattle.laws.specs.LevelWrites.{slot_encode, set_weight}
use Rattle.laws.specs.SlotOf.{slot_of, EndsRise, sound_rises}
use Rattle.laws.specs.Proper.{Insertable}
use Rattle.laws.specs.Put.{Rising}
use Rattle.laws.specs.SoundLevel.{Chained, SoundBuckets, SoundLevel, words_tests}
use Rattle.laws.specs.Evict.{Ends, PartedAt, slot_of_parts, count_parts, chained_covering, rising_passed, rising_at}
use Rattle.buckets.specs.Steps.{Takes, takes_at, Becomes}
use Rattle.insert.specs.Ready.{Upper, Covers, Ready, ready}

weight_part : (before : List Bucket) (b : Bucket) (after : List Bucket) → b.weight ≤ weight_of (before ++ b ∷ after)
weight_part [] b after = omega arith
weight_part (c ∷ before) b after = omega (arith, weight_part before b after)

module _ {s : Shape} {i x v : ℕ} {ws : List ℕ} (o : Insertable s i x v ws) where
  sound : SoundLevel s.k s.n i o.total (decode_level ws)
  sound = ((words_tests s i o.total ws).0 o.sound).1

  held : ws ≡ encode_level s.n (decode_level ws)
  held = sym (encode_decode_sound s i o.total ws o.sound o.size)

  few : get_or ws 0 0 ≤ s.n
  unfolding decode_level
  few = omega (arith, sound.few, length-slots ws 0 (get_or ws 0 0))

  -- what the search requires of a level
  pub searchable : (slot_start (get_or ws 0 0) ≤ length ws) × EndsRise 0 (decode_level ws).buckets
  searchable = (omega (arith, few, o.size), sound_rises s.k i (decode_level ws).first (decode_level ws).buckets sound.parts)

  -- x is below F
  pub below : x < get_or ws 1 0 → ws ≡ encode_level s.n (insert s.n i x v (decode_level ws))
  unfolding decode_level
  below h = held ∙ ap (encode_level s.n) (sym (insert-below s.n i x v (decode_level ws) h))

  pub below_splits : x < get_or ws 1 0 → insert_splits s.n i x v (decode_level ws) ≡ 0
  unfolding decode_level
  below_splits h = splits_below s.n i x v (decode_level ws) h

  pub splits_within : insert_splits s.n i x v (decode_level ws) ≤ s.k
  splits_within = level_splits s.k s.n i o.total x v (decode_level ws) o.inside sound

  pub small : x < 2 ^ 20
  small = omega (arith, o.inside, pow_mono {i = s.k} {j = 20} o.proper.limits.high_k)

  -- the total and v fit a word
  pub total_fits : o.total + v < 2 ^ 32
  total_fits = omega (arith, o.room, pow_mono {i = s.m} {j = 24} o.proper.limits.high_m)

-- the slot j that the search finds for x, if x is not below F
pub record Found (s : Shape) (i x v : ℕ) (ws : List ℕ) (j : ℕ) : Type 0 where
  pub insertable : Insertable s i x v ws
  pub kept : get_or ws 1 0 ≤ x
  pub parts : PartedAt x (decode_level ws).buckets j

pub found : {s : Shape} {i x v : ℕ} {ws : List ℕ} {j : ℕ} → Insertable s i x v ws → get_or ws 1 0 ≤ x → j ≡ slot_of x (decode_level ws).buckets → Found s i x v ws j
found {x} {ws} o kept e = record { insertable = o; kept = kept; parts = rw e (slot_of_parts x (decode_level ws).buckets) }

module _ {s : Shape} {i x v : ℕ} {ws : List ℕ} {j : ℕ} (e : Found s i x v ws j) where
  abbrev bs : List Bucket
  bs = (decode_level ws).buckets

  abbrev before : List Bucket
  before = e.parts.before

  module _ (after : List Bucket) (same : bs ≡ before ++ after) where
    decoded : decode_level ws ≡ level_of (get_or ws 1 0) (before ++ after)
    unfolding decode_level
    decoded = ap (level_of (get_or ws 1 0)) same

    parted : ws ≡ encode_level s.n (level_of (get_or ws 1 0) (before ++ after))
    parted = held e.insertable ∙ ap (encode_level s.n) decoded

    parted_few : length (before ++ after) ≤ s.n
    parted_few = rw same at (sound e.insertable).few

  -- the weight of a bucket and v fit a word
  fits : (b : Bucket) (after : List Bucket) → bs ≡ before ++ b ∷ after → b.weight + v < 2 ^ 32
  fits b after same =
      let o = e.insertable in
      omega (arith, ap weight_of same, weight_part before b after, (sound o).within, total_fits o)

-- ---- a level from 1

chained-of : (k i f : ℕ) (bs : List Bucket) → 0 < i → SoundBuckets k i f bs → Chained k i (length bs) f bs
chained-of k zero f bs h g = absurd (omega arith)
chained-of k (suc j) f bs h g = g.1

upper_limits : {s : Shape} {i x v : ℕ} {ws : List ℕ} → Insertable s i x v ws → 0 < i → Upper s.n i
upper_limits {i} o low =
    let top = o.proper.limits in
    let high : i ≤ 24 = omega (arith, o.index, o.proper.last, top.high_m) in
    record { some = omega (arith, top.low_n); most = top.high_n; low = low; high = high; small = omega (arith, pow_mono {i = suc i} {j = 25} (omega arith)) }

-- some bucket spans x, and it is that of slot j
pub found_ready : {s : Shape} {i x v : ℕ} {ws : List ℕ} {j : ℕ} → Found s i x v ws j → 0 < i → Ready s.n i x v j ws
unfolding decode_level
found_ready {s} {i} {x} {v} {ws} {j} e low =
    let o = e.insertable in
    let p = e.parts in
    let f = get_or ws 1 0 in
    let count = length (bs e) in
    let chained = subst (Chained s.k i count f) p.same (chained-of s.k i f (bs e) low (sound o).parts) in
    let c = chained_covering s.k i count x o.inside p.after p.ends f p.before e.kept p.passed chained in
    let same : bs e ≡ p.before ++ c.here ∷ c.rest = p.same ∙ ap (λ (z : List Bucket). p.before ++ z) c.same in
    let shape = c.sound.shape in
    let narrow : shape.size ≤ 20 = omega (arith, shape.deep, o.proper.limits.high_k) in
    let covers : Covers i x v c.here = record {
      size = shape.size;
      power = shape.power;
      low = c.low;
      high = c.high;
      end = omega (arith, small o, shape.power, pow_mono {i = shape.size} {j = 20} narrow, c.low);
      light = c.sound.light;
      fits = fits e c.here c.rest same;
    } in
    (ready s.n i x v ws f p.before c.here c.rest j p.size (parted e (c.here ∷ c.rest) same) (parted_few e (c.here ∷ c.rest) same)
    e.kept p.passed covers (upper_limits o low)).1

-- ---- level 0

-- whether slot j has the bucket of offset x
pub record At (j x : ℕ) (ws : List ℕ) (at : Bool) : Type 0 where
  pub yes : at ≡ true → (j < get_or ws 0 0) × ((slot ws j).offset ≡ x)
  pub no : at ≡ false → j < get_or ws 0 0 → (slot ws j).offset ≡ x → ⊥

module _ {s : Shape} {x v : ℕ} {ws : List ℕ} {j : ℕ} (e : Found s 0 x v ws j) where
  abbrev f : ℕ
  f = get_or ws 1 0

  abbrev p : PartedAt x (bs e) j
  p = e.parts

  rising : (after : List Bucket) → bs e ≡ p.before ++ after → Rising s.k f (p.before ++ after)
  unfolding decode_level
  rising after same = subst (Rising s.k f) same (sound e.insertable).parts.1

  under : Under x p.before
  under = rising_passed s.k x f p.before p.after p.passed (rising p.after p.same)

  pub found_takes : Takes s.n j ws
  found_takes =
      let top = e.insertable.proper.limits in
      takes_at s.n f x p.before p.after ws j p.size (parted e p.after p.same) (parted_few e p.after p.same) p.passed
      (omega (arith, small e.insertable)) (omega (arith, top.low_n)) top.high_n

  module _ (b : Bucket) (after : List Bucket) (same : bs e ≡ p.before ++ b ∷ after) where
    here : slot ws j ≡ b
    here = ap (λ (z : List ℕ). slot z j) (parted e (b ∷ after) same) ∙ slot_encode s.n f p.before after j p.size b

    there : j < get_or ws 0 0
    there = omega (arith, count_parts s.n f p.before (b ∷ after) ws (parted e (b ∷ after) same), p.size)

  -- slot j has the bucket of x, which gains v
  pub gains : j < get_or ws 0 0 → (slot ws j).offset ≡ x
      → ((slot ws j).weight + v < 2 ^ 32) × (set ws (slot_start j + 2) ((slot ws j).weight + v) ≡ encode_level s.n (insert s.n 0 x v (decode_level ws)))
  gains inside at = go p.after p.same
    where
      go : (after : List Bucket) → bs e ≡ p.before ++ after
          → ((slot ws j).weight + v < 2 ^ 32) × (set ws (slot_start j + 2) ((slot ws j).weight + v) ≡ encode_level s.n (insert s.n 0 x v (decode_level ws)))
      go [] same = absurd (omega (arith, count_parts s.n f p.before [] ws (parted e [] same), p.size))
      go (b ∷ after) same =
          let is : b.offset ≡ x = sym (ap (λ (z : Bucket). z.offset) (here b after same)) ∙ at in
          rw (ap (λ (z : Bucket). z.weight) (here b after same)) (
            fits e b after same,
            ap (λ (z : List ℕ). set z (slot_start j + 2) (b.weight + v)) (parted e (b ∷ after) same)
                ∙ set_weight s.n f p.before after j p.size b (b.weight + v)
                ∙ ap (encode_level s.n)
                (sym (ap (insert s.n 0 x v) (decoded e (b ∷ after) same)
                ∙ insert-put s.n x f e.kept p.before under b after is (parted_few e (b ∷ after) same) v)),
          )

  -- x has no bucket, and one is put into slot j
  pub makes : (j < get_or ws 0 0 → (slot ws j).offset ≡ x → ⊥) → {ws' : List ℕ} {up : ℕ} → Becomes s.n 0 j [] (bucket_of x 1 v ∷ []) ws ws' up
      → ws' ≡ encode_level s.n (insert s.n 0 x v (decode_level ws))
  makes none put =
      put.words f p.before p.after p.size (parted e p.after p.same)
      ∙ ap (encode_level s.n)
      (sym (ap (insert s.n 0 x v) (decoded e p.after p.same)
      ∙ insert-new s.n x f e.kept p.before under p.after (over p.after p.same p.ends) (parted_few e p.after p.same) v e.insertable.some))
    where
      over : (after : List Bucket) → bs e ≡ p.before ++ after → Ends x after → Over x after
      over [] same ends = tt
      over (b ∷ after) same ends =
          let one = rising_at s.k x b after f p.before (rising (b ∷ after) same) in
          ⊎_elim
          (λ (is : b.offset ≡ x). absurd (none (there b after same) (ap (λ (z : Bucket). z.offset) (here b after same) ∙ is)))
          (λ (other : b.offset ≡ x → ⊥). omega arith)
          (eq_or_ne b.offset x)
