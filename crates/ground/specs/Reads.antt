-- A ground as the code reads it from the words of a block, and as it writes its values. Rests on the laws of the serving level.
use Rattle.std.specs.Prelude.{List, [], ◌∷◌, ◌≡◌, refl, ℕ, suc, ◌+◌, ◌*◌, ◌%◌, ◌^◌, ◌≤◌, ◌<◌, length, get_or}
use Rattle.std.proofs.Common.{sym, ap, zero-add, mul-le-mul_left, mul-le-mul_right, arith, pow_mono, ne_eqb}
use Rattle.shape.specs.declared.Shape.{Shape}
use Rattle.model.specs.declared.Finer.{Finer}
use Rattle.model.specs.declared.Finer.TheVariants.{WindowZero, LevelZero, First}
use Rattle.model.specs.declared.Ground.{Ground}
use Rattle.model.specs.Level.{level_of}
use Rattle.model.specs.Block.{Half, interval, offset_of, opening, serving_index, window_sum}
use Rattle.model.specs.Words.{level_part, decode_level, decode_half, decode_block}
use Rattle.model.specs.Ground.{first_at, error_limit, finer_than, ground_of, finer_values}
use Rattle.laws.specs.Parts.{get_or_up_from}
use Rattle.laws.specs.BlockWords.{length-level_part}
use Rattle.laws.specs.HalfWrites.{half_of_decode, level_at}
use Rattle.block.specs.Steps.{LevelIn}

-- a limit fits
pub limit_fits : (k level : ℕ) → k ≤ 20 → level ≤ 24 → 2 ^ level * (k + 1) ≤ 2 ^ 24 * 21
limit_fits k level h g =
    let more : k + 1 ≤ 21 = omega arith in
    omega (arith, mul-le-mul_right (k + 1) (pow_mono g), mul-le-mul_left (2 ^ 24) more)

-- a level has a second word
pub second_there : {s : Shape} {parity i : ℕ} {ws : List ℕ} → LevelIn s parity i ws → 1 < length (level_part s parity i ws)
second_there {s} {parity} {i} {ws} w = omega (arith, length-level_part s parity i ws w.half w.index w.sized.size)

-- it is F
pub first_decode : (s : Shape) (parity : ℕ) (ws : List ℕ) (i : ℕ) → i ≤ s.last
    → first_at (decode_half s parity ws).levels i ≡ get_or (level_part s parity i ws) 1 0
unfolding decode_half decode_level
first_decode s parity ws i low =
    rw (get_or_up_from (level_at s parity ws) 0 (suc s.last) i (level_of 0 []) (omega arith), zero-add)

-- a ground of a window above 0, by the half in which it opens
abbrev ground_in : Shape → ℕ → ℕ → ℕ → Half → Ground
ground_in s clock window sum h =
    let level = serving_index (offset_of s (opening clock window)) h.levels in
    record { sum = sum; level = level; limit = error_limit s.k level; finer = finer_than h.levels level }

module _ (s : Shape) (clock window : ℕ) (ws : List ℕ) where
  pub ground-opened : (window ≡ 0 → ⊥)
      → ground_in s clock window (window_sum s clock window (decode_block s ws)) (decode_half s (interval s (opening clock window) % 2) ws)
      ≡ ground_of s clock window (decode_block s ws)
  unfolding ground_of
  ground-opened some =
      rw (ne_eqb window 0 some)
      (ap (ground_in s clock window (window_sum s clock window (decode_block s ws))) (sym (half_of_decode s (interval s (opening clock window)) ws)))

-- the two values of what stands for F of the next finer level
pub finer_two : (f : Finer) → get_or (finer_values f) 0 0 ∷ get_or (finer_values f) 1 0 ∷ [] ≡ finer_values f
finer_two WindowZero = refl
finer_two LevelZero = refl
finer_two (First first) = refl
