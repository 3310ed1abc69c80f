-- What replacing one level or one total does to the words of a block, whatever they are. Rests on lists in parts and on where levels start.
use Rattle.std.specs.Prelude.{◌≢◌, ◌⊎◌, ◌≡◌, List, ℕ, ◌+◌, ◌*◌, ◌≤◌, ◌<◌, length, get_or, take, set}
use Rattle.std.proofs.Common.{ap, drop-set-lt}
use native.Mathlib.Omega.{arith}
use Rattle.shape.specs.declared.Shape.{Shape}
use Rattle.shape.specs.Layout.{level_words, level_start, block_words}
use Rattle.model.specs.Words.{level_part}
use Rattle.laws.specs.Parts.{with_part, length-with_part, take-drop-with_part, get_or-with_part-below, part-with_part, places_apart}
use Rattle.laws.specs.BlockWords.{level_start_fits}

-- the words of a block with other words in place of a level's
abbrev pub with_level : Shape → ℕ → ℕ → List ℕ → List ℕ → List ℕ
with_level s parity i part ws = with_part (level_start s parity i) (level_words s) part ws

-- the number of the level among those of both halves
abbrev pub level_index : Shape → ℕ → ℕ → ℕ
level_index s parity i = parity * (s.last + 1) + i

module _ (s : Shape) where
  -- two levels do not overlap
  level_start_apart : (parity i other j : ℕ) → level_index s parity i ≢ level_index s other j
      → (level_start s parity i + level_words s ≤ level_start s other j) ⊎ (level_start s other j + level_words s ≤ level_start s parity i)
  unfolding level_start
  level_start_apart parity i other j = places_apart 2 (level_words s) (level_index s parity i) (level_index s other j)

  -- the totals stand before every level
  totals_before : (parity i : ℕ) → 2 ≤ level_start s parity i
  unfolding level_start
  totals_before parity i = omega arith

  -- storing a total changes no level
  pub level_part-set_total : (parity i total v : ℕ) (ws : List ℕ) → total < 2 → level_part s parity i (set ws total v) ≡ level_part s parity i ws
  level_part-set_total parity i total v ws h =
      ap (take (level_words s)) (drop-set-lt (level_start s parity i) ws total v (omega (arith, totals_before parity i)))

  module _ (parity i : ℕ) (p : parity ≤ 1) (h : i ≤ s.last) (part ws : List ℕ) (size : length ws ≡ block_words s) (part_size : length part ≡ level_words s) where
    fits : level_start s parity i + level_words s ≤ length ws
    fits = omega (arith, level_start_fits s parity i p h)

    -- the number of words stays
    pub length-with_level : length (with_level s parity i part ws) ≡ length ws
    length-with_level = length-with_part (level_start s parity i) (level_words s) part ws fits part_size

    -- the level is the new one
    pub level_part-with_level : level_part s parity i (with_level s parity i part ws) ≡ part
    level_part-with_level = take-drop-with_part (level_start s parity i) (level_words s) part ws fits part_size

    -- no other level changes
    pub level_part-with_level_other : (other j : ℕ) → level_index s other j ≢ level_index s parity i
        → level_part s other j (with_level s parity i part ws) ≡ level_part s other j ws
    level_part-with_level_other other j apart =
        part-with_part (level_start s parity i) (level_words s) part ws fits part_size (level_start s other j) (level_words s) (level_start_apart other j parity i apart)

    -- the totals do not change
    pub get_or-with_level_total : (total d : ℕ) → total < 2 → get_or (with_level s parity i part ws) total d ≡ get_or ws total d
    get_or-with_level_total total d low =
        get_or-with_part-below (level_start s parity i) (level_words s) part ws fits part_size total d (omega (arith, totals_before parity i))
