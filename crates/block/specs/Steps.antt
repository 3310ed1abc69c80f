-- One level of a block as the code reads it, and the loops over levels, one turn at a time. Assumes nothing.
use Rattle.std.specs.Prelude.{Bool, false, cond, ◌&&◌, ◌≡◌, length, get_or, eqb}
use mathlib.Core.List.{List}
use Rattle.std.proofs.Common.{ap, ◌∙◌, mul-le-mul_right, add-one, arith, pow_pos, pow_mono, le-leb}
use Prim.Native.Nat.{ℕ, suc, ◌+◌, ◌-◌, ◌*◌, ◌%◌, ◌^◌, ◌≤◌, ◌<◌}
use Rattle.std.proofs.Math.Nat.{sub-zero}
use Rattle.std.proofs.lemmas.Bool.{lt-leb}
use Rattle.shape.specs.declared.Shape.{Shape}
use Rattle.shape.specs.Layout.{total_start, level_words, level_start}
use Rattle.shape.specs.LayoutLaws.{block_words_bits}
use Rattle.model.specs.Block.{interval, offset_of, sum_from, serving, serving_index, answer}
use Rattle.model.proofs.BlockLaws.{window_sum-none, window_sum_some}
use Rattle.model.specs.Words.{level_part, decode_level, decode_half, decode_block}
use Rattle.model.specs.Sound.{all_from, sound_level, sound_half}
use Rattle.scan.specs.Steps.{sum_from-zero}
use Rattle.laws.specs.SumFrom.{sum_from-falls}
use Rattle.laws.specs.InsertSound.{sound_serves}
use Rattle.laws.specs.BlockSound.{serving-index}
use Rattle.laws.specs.LevelWords.{length-slots}
use Rattle.laws.specs.BlockWords.{level_start_fits, block_words-halves, length-level_part}
use Rattle.laws.specs.HalfWrites.{half_of_decode, total_decode, level_at, levels_from, levels_from_step, levels_from_all, whole_total, whole_level}
use Rattle.laws.specs.Proper.{Sized, Whole}

-- the words of a block have room for level i, in the half of a parity
pub record LevelIn (s : Shape) (parity i : ℕ) (ws : List ℕ) : Type 0 where
  pub sized : Sized s ws
  pub half : parity ≤ 1
  pub index : i ≤ s.last

-- the level ends within the words, and they are fewer than 2 ^ 29
pub level-within : {s : Shape} {parity i : ℕ} {ws : List ℕ} → LevelIn s parity i ws → (level_start s parity i + level_words s ≤ length ws) × (length ws < 2 ^ 29)
level-within {s} {parity} {i} w = omega (arith, level_start_fits s parity i w.half w.index, block_words_bits s (omega arith) (omega arith))

-- whether level i is sound
abbrev pub sound_at : Shape → ℕ → List ℕ → ℕ → Bool
sound_at s parity ws i = sound_level s i (get_or ws (total_start parity) 0) (level_part s parity i ws)

-- whether the levels from level i on are sound
abbrev pub sound_from : Shape → ℕ → List ℕ → ℕ → Bool
sound_from s parity ws i = all_from (sound_at s parity ws) i (suc s.last - i)

module _ (s : Shape) (parity : ℕ) (ws : List ℕ) (i : ℕ) where
  module _ (low : i ≤ s.last) where
    pub sound_from_step : sound_from s parity ws i ≡ (sound_at s parity ws i && sound_from s parity ws (i + 1))
    sound_from_step = ap (all_from (sound_at s parity ws) i) {x = suc s.last - i} {y = suc (suc s.last - (i + 1))} (omega arith) ∙ rw (← add-one i)

    -- a level serves offsets from its F on, and leaves those below to the next level
    pub index_here : (a : ℕ) → (level_at s parity ws i).first ≤ a → serving_index a (levels_from s parity ws i) ≡ 0
    index_here a h = rw (levels_from_step s parity ws i low, le-leb (level_at s parity ws i).first a h)

    pub index_next : (a : ℕ) → a < (level_at s parity ws i).first
        → serving_index a (levels_from s parity ws i) ≡ suc (serving_index a (levels_from s parity ws (i + 1)))
    index_next a h = rw (levels_from_step s parity ws i low, lt-leb (level_at s parity ws i).first a h, add-one i)

module _ (s : Shape) (parity : ℕ) (ws : List ℕ) where
  -- where the loop starts
  pub sound_from_all : get_or ws (total_start parity) 0 ≤ 2 ^ s.m → sound_from s parity ws 0 ≡ sound_half s parity ws
  unfolding sound_half
  sound_from_all h = rw (le-leb (get_or ws (total_start parity) 0) (2 ^ s.m) h, sub-zero)

  -- a half with too large a total is unsound
  pub sound_half_over : 2 ^ s.m < get_or ws (total_start parity) 0 → false ≡ sound_half s parity ws
  unfolding sound_half
  sound_half_over h = rw (lt-leb (get_or ws (total_start parity) 0) (2 ^ s.m) h)

module _ (s : Shape) (ws : List ℕ) (w : Whole s ws) (parity : ℕ) (p : parity ≤ 1) where
  -- the count of a level is at most n
  pub count_few : (i : ℕ) → i ≤ s.last → get_or (level_part s parity i ws) 0 0 ≤ s.n
  unfolding decode_level
  count_few i low =
      let part : List ℕ = level_part s parity i ws in
      omega (arith, (whole_level s ws w parity p i low).few, length-slots part 0 (get_or part 0 0))

  -- totals and sums are small
  pub total_small : get_or ws (total_start parity) 0 ≤ 2 ^ 24
  total_small = omega (arith, whole_total s ws w parity p, pow_mono {i = s.m} {j = 24} (omega arith))

  pub sum-small : (i : ℕ) → i ≤ s.last → (a : ℕ) → sum_from a (level_at s parity ws i).buckets ≤ 2 ^ 24
  sum-small i low a =
      let bs = (level_at s parity ws i).buckets in
      omega (arith, (whole_level s ws w parity p i low).within, total_small, sum_from-falls bs 0 a (omega arith), sum_from-zero bs)

  -- the last level has evicted nothing, so it serves every offset
  last_first : (level_at s parity ws s.last).first ≡ 0
  last_first =
      let same = ap (λ (z : ℕ). 2 ^ z) w.proper.last in
      let small : get_or ws (total_start parity) 0 < s.n * 2 ^ s.last =
      omega (arith, whole_total s ws w parity p, pow_pos s.last, mul-le-mul_right {m = 2} {n = s.n} (2 ^ s.last) w.proper.limits.low_n) in
      sound_serves w.proper.limits.low_n (whole_level s ws w parity p s.last (omega arith)) small

  pub last_index : (a : ℕ) → serving_index a (levels_from s parity ws s.last) ≡ 0
  last_index a = index_here s parity ws s.last (omega arith) a (omega (arith, last_first))

  -- the serving index is that of a level of the half, and this level serves
  pub index_serves : (a : ℕ) → let levels = (decode_half s parity ws).levels in
      (serving_index a levels ≤ s.last) × (level_at s parity ws (serving_index a levels) ≡ serving a levels)
  unfolding decode_half
  index_serves a =
      let r = serving-index a (level_at s parity ws) s.last last_first in
      (r.0.low, r.1)

-- the answer, read from the words
pub answer_decode : (s : Shape) (clock start : ℕ) (ws : List ℕ) → answer s clock start (decode_block s ws) ≡ (
    let a = offset_of s start in
    let sum = sum_from a (serving a (decode_half s (interval s start % 2) ws).levels).buckets in
    cond (eqb (interval s start) (interval s clock)) sum (sum + get_or ws (interval s clock % 2) 0))
unfolding answer
answer_decode s clock start ws = rw (half_of_decode s (interval s start) ws, total_decode s (interval s clock) ws)

-- ---- what the functions' `using` lists name: each holds the laws that a function's goals rest on

pub ruleset level_bounds = (level-within)

pub ruleset window_cases = (window_sum-none, window_sum_some)

pub ruleset totals = (block_words-halves, total_decode)

pub ruleset half_checks = (block_words-halves, length-level_part, sound_half_over, sound_from_all, sound_from_step)

pub ruleset level_search = (length-level_part, levels_from_all, index_here, index_next, last_index)

pub ruleset sums = (block_words-halves, length-level_part, count_few, total_small, sum-small, index_serves, answer_decode)
