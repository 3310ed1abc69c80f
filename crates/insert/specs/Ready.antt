-- A level from 1 whose bucket of slot j spans offset x and takes v, and what is left to do once that bucket is split: the rest goes into the
-- half that spans x, which is half as wide. Rests on the laws of one round.
use Rattle.std.specs.Prelude.{cond, List, [], ◌∷◌, ◌++◌, ◌≡◌, refl, ℕ, suc, ◌+◌, ◌-◌, ◌/◌, ◌^◌, ◌≤◌, ◌<◌, ltb, length, get_or, set}
use Rattle.std.proofs.Common.{⊎_elim, append_assoc, sym, ap, subst, ◌∙◌, arith, length-append, pow_pos, pow_mono}
use Rattle.shape.specs.Layout.{slot_start}
use Rattle.model.specs.Level.{Bucket, Level, bucket_of, level_of, evict, insert, insert_splits}
use Rattle.model.specs.Words.{slot, decode_level, encode_level}
use Rattle.laws.specs.Cond.{lt_or_ge}
use Rattle.laws.specs.Bucket.{halves}
use Rattle.laws.specs.Add.{Halved, halved}
use Rattle.laws.specs.Insert.{insert-below}
use Rattle.laws.specs.Splits.{Halvable, splits_below, held_splits, cut_splits, splits_most}
use Rattle.laws.specs.LevelWords.{decode_encode}
use Rattle.laws.specs.LevelWrites.{slot_encode, set_weight}
use Rattle.laws.specs.Evict.{count_parts, Passed, passed_snoc, Round, both, upper, upper_held, upper_split, one_round}
use Rattle.buckets.specs.Steps.{Takes, takes_at, Becomes}

-- 2^size is below 2^31 only if size is below 31
small_size : (size : ℕ) → 2 ^ size < 2 ^ 31 → size < 31
small_size size h = ⊎_elim (λ (e : size < 31). e) (λ (e : 31 ≤ size). absurd (omega (arith, pow_mono {i = 31} {j = size} e))) (lt_or_ge size 31)

-- the limits of a level from 1
pub record Upper (n i : ℕ) : Type 0 where
  pub some : 0 < n
  pub most : n ≤ 1024
  pub low : 0 < i
  pub high : i ≤ 24
  pub small : 2 ^ suc i < 2 ^ 32

-- the bucket spans x, is not full if it is wider than 1, and its weight and v fit a word
pub record Covers (i x v : ℕ) (b : Bucket) : Type 0 where
  pub size : ℕ
  pub power : b.width ≡ 2 ^ size
  pub low : b.offset ≤ x
  pub high : x < b.offset + b.width
  pub end : b.offset + b.width < 2 ^ 31
  pub light : 1 < b.width → b.weight < 2 ^ suc i
  pub fits : b.weight + v < 2 ^ 32

pub record Ready (n i x v j : ℕ) (ws : List ℕ) : Type 0 where
  pub first : ℕ
  pub before : List Bucket
  pub after : List Bucket
  pub held : ws ≡ encode_level n (level_of first (before ++ slot ws j ∷ after))
  pub place : length before ≡ j
  pub count : get_or ws 0 0 ≡ j + suc (length after)
  pub takes : Takes n j ws
  pub kept : first ≤ x
  pub passed : Passed x before
  pub covers : Covers i x v (slot ws j)
  pub limits : Upper n i

-- the record for the level of the words, and for the bucket that is read there
pub ready : (n i x v : ℕ) (ws : List ℕ) (f : ℕ) (before : List Bucket) (b : Bucket) (after : List Bucket) (j : ℕ) → length before ≡ j
    → ws ≡ encode_level n (level_of f (before ++ b ∷ after)) → length (before ++ b ∷ after) ≤ n → f ≤ x → Passed x before → Covers i x v b → Upper n i
    → (slot ws j ≡ b) × Ready n i x v j ws
ready n i x v ws f before b after j place held few kept passed covers limits =
    let here : slot ws j ≡ b = ap (λ (z : List ℕ). slot z j) held ∙ slot_encode n f before after j place b in
    let count = count_parts n f before (b ∷ after) ws held in (
      here,
      record {
        first = f;
        before = before;
        after = after;
        held = rw here held;
        place = place;
        count = omega arith;
        takes = takes_at n f x before (b ∷ after) ws j place held few passed (omega arith) limits.some limits.most;
        kept = kept;
        passed = passed;
        covers = rw here covers;
        limits = limits;
      },
    )

module _ {n i x v j : ℕ} {ws : List ℕ} (r : Ready n i x v j ws) where
  few : length r.before + suc (length r.after) ≤ n
  few = omega (arith, r.place, r.count, r.takes.few)

  -- slot j lies within the level
  pub inside : slot_start (j + 1) ≤ length ws
  inside = omega (arith, r.takes.size, r.count, r.takes.few)

  abbrev level : Level
  level = level_of r.first (r.before ++ slot ws j ∷ r.after)

  level-is : decode_level ws ≡ level
  level-is = ap decode_level r.held ∙ decode_encode n level

  -- the width of the bucket is 2^size, so it can be halved size times
  halvable : Halvable n i x r.first r.before (slot ws j) r.after r.covers.size
  halvable = record {
    kept = r.kept;
    passed = r.passed;
    low = r.covers.low;
    high = r.covers.high;
    few = few;
    power = r.covers.power;
    light = r.covers.light;
  }

  -- so the number of splits fits a word
  pub splits_few : insert_splits n i x v (decode_level ws) < 31
  splits_few =
      rw level-is
      (omega (arith, splits_most n i x r.limits.low r.covers.size v r.first r.before (slot ws j) r.after halvable, small_size r.covers.size (omega (arith, r.covers.power, r.covers.end))))

  -- the bucket takes all of v and is not split
  pub no_splits : (1 < (slot ws j).width → (slot ws j).weight + v < 2 ^ suc i) → insert_splits n i x v (decode_level ws) ≡ 0
  no_splits room = ap (insert_splits n i x v) level-is ∙ held_splits n i x r.limits.low halvable v room

  -- the bucket takes all of v
  pub filled : (1 < (slot ws j).width → (slot ws j).weight + v < 2 ^ suc i)
      → set ws (slot_start j + 2) ((slot ws j).weight + v) ≡ encode_level n (insert n i x v (decode_level ws))
  filled room =
      let b = slot ws j in
      let taken = upper_held n x r.first r.kept r.before r.passed b r.covers.low r.covers.high r.after few i r.limits.low v room in
      ap (λ (z : List ℕ). set z (slot_start j + 2) (b.weight + v)) r.held ∙ set_weight n r.first r.before r.after j r.place b (b.weight + v)
      ∙ ap (encode_level n) (sym (ap (insert n i x v) level-is ∙ taken))

-- ---- the bucket is split

-- the bucket of slot j was filled and split, and `rest` is what is left of v
pub record WasSplit (n i x v j rest : ℕ) (ws ws' : List ℕ) (up : ℕ) : Type 0 where
  pub ready_was : Ready n i x v j ws
  pub long : 1 < (slot ws j).width
  pub full : (slot ws j).weight + v ≡ 2 ^ suc i + rest
  pub split : Becomes n i j (slot ws j ∷ []) (halves i (slot ws j)) ws ws' up

module _ {n i x v j rest : ℕ} {ws ws' : List ℕ} {up : ℕ} (c : WasSplit n i x v j rest ws ws' up) where
  abbrev r : Ready n i x v j ws
  r = c.ready_was

  abbrev b : Bucket
  b = slot ws j

  abbrev half : ℕ
  half = b.width / 2

  parts : Halved b.width r.covers.size
  parts = halved b.width r.covers.size r.covers.power c.long

  abbrev lower : Bucket
  lower = bucket_of b.offset half (2 ^ i)

  abbrev higher : Bucket
  higher = bucket_of (b.offset + half) half (2 ^ i)

  abbrev left : Level
  left = evict n i r.first (r.before ++ lower ∷ higher ∷ r.after)

  words : ws' ≡ encode_level n left
  words = c.split.words r.first r.before r.after r.place r.held

  decoded : (l : Level) → left ≡ l → decode_level ws' ≡ l
  decoded l e = ap decode_level words ∙ decode_encode n left ∙ e

  cases : Round n x lower higher r.after up left
  cases =
      let count : get_or ws 0 0 ≡ length r.before + suc (length r.after) = omega (arith, r.place, r.count) in
      let there : up ≡ cond (ltb (length r.before + suc (length r.after)) n) (length r.before + 1) (length r.before) =
      rw (← count, r.place) c.split.slot-after in
      subst (λ (z : ℕ). Round n x lower higher r.after z left) (sym there)
      (one_round n x r.first r.kept r.before r.passed b r.covers.low r.covers.high r.after (few r) i r.limits.low lower higher r.covers.low)

  -- inserting the rest after the split is inserting v before it
  pub rest_same : insert n i x rest (decode_level ws') ≡ insert n i x v (decode_level ws)
  rest_same =
      let is : rest ≡ b.weight + v - 2 ^ suc i = omega (arith, c.full) in
      ap (insert n i x rest) (decoded left refl) ∙ ap (λ (z : ℕ). insert n i x z left) is
      ∙ sym (ap (insert n i x v) (level-is r)
      ∙ upper_split n x r.first r.kept r.before r.passed b r.covers.low r.covers.high r.after (few r) i r.limits.low v c.long (r.covers.light c.long) (omega (arith, c.full)))

  -- that was one split, and the others are those of the rest on what it left
  pub rest_splits : insert_splits n i x v (decode_level ws) ≡ suc (insert_splits n i x rest (decode_level ws'))
  rest_splits =
      let is : rest ≡ b.weight + v - 2 ^ suc i = omega (arith, c.full) in
      ap (insert_splits n i x v) (level-is r) ∙ cut_splits n i x r.limits.low (halvable r) v c.long (omega (arith, c.full))
      ∙ sym (ap suc (ap (insert_splits n i x rest) (decoded left refl) ∙ ap (λ (z : ℕ). insert_splits n i x z left) is))

  -- a half that spans x takes the rest, and is narrower
  half_ready : (f : ℕ) (before : List Bucket) (a : ℕ) (after : List Bucket) (to : ℕ) → left ≡ level_of f (before ++ bucket_of a half (2 ^ i) ∷ after)
      → length before ≡ to → length (before ++ bucket_of a half (2 ^ i) ∷ after) ≤ n → f ≤ x → Passed x before → a ≤ x → x < a + half → a + half ≤ b.offset + b.width
      → ((slot ws' to).width < b.width) × Ready n i x rest to ws'
  half_ready f before a after to same place fits kept passed low high end =
      let positive = pow_pos i in
      let covers : Covers i x rest (bucket_of a half (2 ^ i)) = record {
        size = parts.less;
        power = parts.half;
        low = low;
        high = high;
        end = omega (arith, r.covers.end);
        light = λ _. omega arith;
        fits = omega (arith, r.covers.fits, c.full);
      } in
      let next = ready n i x rest ws' f before (bucket_of a half (2 ^ i)) after to place (words ∙ ap (encode_level n) same) fits kept passed covers r.limits in
      (omega (arith, ap (λ (z : Bucket). z.width) next.0, parts.twice), next.1)

  pub next_upper : b.offset + half ≤ x → ((slot ws' up).width < b.width) × Ready n i x rest up ws'
  next_upper h = go cases
    where
      ends : higher.offset + half ≡ b.offset + b.width
      ends = omega (arith, parts.twice)

      go : Round n x lower higher r.after up left → ((slot ws' up).width < b.width) × Ready n i x rest up ws'
      go (both f before same place fits passed kept) =
          half_ready f (before ++ lower ∷ []) (b.offset + half) r.after up (same ∙ ap (level_of f) (sym (append_assoc before (lower ∷ []) (higher ∷ r.after))))
          (simp length-append (omega arith)) (simp length-append (omega arith)) kept (passed_snoc x before lower passed h) h (omega (arith, ends, r.covers.high)) (omega (arith, ends))
      go (upper same none fits) = half_ready (b.offset + half) [] (b.offset + half) r.after up same (sym none) fits h tt h (omega (arith, ends, r.covers.high)) (omega (arith, ends))

  pub next_lower : x < b.offset + half → 0 < up → ((slot ws' (up - 1)).width < b.width) × Ready n i x rest (up - 1) ws'
  next_lower h some = go cases
    where
      go : Round n x lower higher r.after up left → ((slot ws' (up - 1)).width < b.width) × Ready n i x rest (up - 1) ws'
      go (both f before same place fits passed kept) =
          half_ready f before b.offset (higher ∷ r.after) (up - 1) same (omega arith) (simp length-append (omega arith)) kept passed r.covers.low h
          (omega (arith, parts.twice))
      go (upper same none fits) = absurd (omega arith)

  -- the half that spans x was evicted, so the rest is ignored and splits nothing
  pub lower_evicted : x < b.offset + half → up ≡ 0
      → (ws' ≡ encode_level n (insert n i x v (decode_level ws))) × (insert_splits n i x rest (decode_level ws') ≡ 0)
  lower_evicted h zero_up = go cases
    where
      go : Round n x lower higher r.after up left → (ws' ≡ encode_level n (insert n i x v (decode_level ws))) × (insert_splits n i x rest (decode_level ws') ≡ 0)
      go (both f before same place fits passed kept) = absurd (omega arith)
      go (upper same _ fits) =
          let l = level_of (b.offset + half) (higher ∷ r.after) in (
            words ∙ ap (encode_level n) (same ∙ sym (insert-below n i x rest l h) ∙ sym (ap (insert n i x rest) (decoded l same)) ∙ rest_same),
            ap (insert_splits n i x rest) (decoded l same) ∙ splits_below n i x rest l h,
          )
