-- SPECIFICATION 3: every word of a head and of four books in its place, so that no other order of the words meets the definitions. Assumes
-- nothing.
use Rattle.std.specs.Prelude.{◌≡◌, refl, List, [], ◌∷◌, ◌++◌, ℕ, replicate}
use Rattle.shape.specs.Limits.{within, shaped}
use Rattle.shape.specs.Layout.{book_words, block_words, block_start, level_start}
use Rattle.model.specs.declared.Call.TheVariants.{Make, Clock, Delivery}
use Rattle.model.specs.Level.{unit, insert}
use Rattle.model.specs.Block.{empty_half, deliver_half, deliver, advance}
use Rattle.model.specs.Words.{shape_of, clock_of, decode_level, decode_half, decode_block, encode_level, encode_block, encode_head}
use Rattle.model.specs.Sound.{sound_head, sound_level, sound_half, sound_block}
use Rattle.model.specs.Calls.{refusals, book_view, made, clocked, delivered, perform}
use Rattle.model.specs.Replay.{left_by}
use Rattle.model.specs.Table.{example_words, start, p₃}

-- a head: k, n, M, g and the clock, all different, then three zeros
abbrev some_head : List ℕ
some_head = 5 ∷ 4 ∷ 3 ∷ 2 ∷ 6 ∷ 0 ∷ 0 ∷ 0 ∷ []

pub head_words_lem : (encode_head (shaped 5 4 3 2) 6 ≡ some_head) × (shape_of some_head ≡ shaped 5 4 3 2) × (clock_of some_head ≡ 6)
head_words_lem = (refl, refl, refl)

-- ---- P3

-- the head and the totals; the even half's level 0 with the buckets (1, 1, 1) and (3, 1, 1) and F = 1, its level 1 with (0, 2, 3) and (2, 2, 2), its
-- levels 2 to 4 with (0, 4, 5); the odd half's five levels, which are empty
abbrev p₃_words : List ℕ
p₃_words =
    2 ∷ 2 ∷ 4 ∷ 1 ∷ 3 ∷ 0 ∷ 0 ∷ 0 ∷ 5 ∷ 0
    ∷ 2 ∷ 1 ∷ 1 ∷ 1 ∷ 1 ∷ 3 ∷ 1 ∷ 1
    ∷ 2 ∷ 0 ∷ 0 ∷ 2 ∷ 3 ∷ 2 ∷ 2 ∷ 2
    ∷ 1 ∷ 0 ∷ 0 ∷ 4 ∷ 5 ∷ 0 ∷ 0 ∷ 0
    ∷ 1 ∷ 0 ∷ 0 ∷ 4 ∷ 5 ∷ 0 ∷ 0 ∷ 0
    ∷ 1 ∷ 0 ∷ 0 ∷ 4 ∷ 5 ∷ 0 ∷ 0 ∷ 0
    ∷ 0 ∷ 0 ∷ 0 ∷ 0 ∷ 0 ∷ 0 ∷ 0 ∷ 0
    ∷ 1 ∷ 0 ∷ 0 ∷ 4 ∷ 0 ∷ 0 ∷ 0 ∷ 0
    ∷ 1 ∷ 0 ∷ 0 ∷ 4 ∷ 0 ∷ 0 ∷ 0 ∷ 0
    ∷ 1 ∷ 0 ∷ 0 ∷ 4 ∷ 0 ∷ 0 ∷ 0 ∷ 0
    ∷ 1 ∷ 0 ∷ 0 ∷ 4 ∷ 0 ∷ 0 ∷ 0 ∷ 0
    ∷ []

pub p₃_words_lem : left_by (replicate example_words 0) (start ++ p₃) ≡ p₃_words
unfolding perform refusals book_view made clocked delivered sound_head sound_block sound_half sound_level within encode_block encode_level decode_block decode_half decode_level empty_half deliver deliver_half advance unit insert block_words book_words block_start level_start
p₃_words_lem = refl

-- ---- k = 2, n = 2, M = 1

-- a block of these totals and of these halves, each the words of its levels 0 and 1
abbrev pub block_of : ℕ → ℕ → List ℕ → List ℕ → List ℕ
block_of even odd even_levels odd_levels = even ∷ odd ∷ (even_levels ++ odd_levels)

abbrev pub empty_levels : List ℕ
empty_levels =
    0 ∷ 0 ∷ 0 ∷ 0 ∷ 0 ∷ 0 ∷ 0 ∷ 0
    ∷ 1 ∷ 0 ∷ 0 ∷ 4 ∷ 0 ∷ 0 ∷ 0 ∷ 0
    ∷ []

-- v decilitres at offset x, which no level has split
abbrev pub levels_with : ℕ → ℕ → List ℕ
levels_with x v =
    1 ∷ 0 ∷ x ∷ 1 ∷ v ∷ 0 ∷ 0 ∷ 0
    ∷ 1 ∷ 0 ∷ 0 ∷ 4 ∷ v ∷ 0 ∷ 0 ∷ 0
    ∷ []

-- a make, whatever the words before
pub made_words : left_by (replicate 42 7) (Make 2 2 1 1 ∷ []) ≡ 2 ∷ 2 ∷ 1 ∷ 1 ∷ 0 ∷ 0 ∷ 0 ∷ 0 ∷ block_of 0 0 empty_levels empty_levels
unfolding perform refusals book_view made within encode_block encode_level empty_half block_words book_words
made_words = refl

-- ---- two grades of the same k, n and M

-- the book of two blocks
abbrev two_blocks : ℕ → List ℕ → List ℕ → List ℕ
two_blocks clock block₀ block₁ = 2 ∷ 2 ∷ 1 ∷ 2 ∷ clock ∷ 0 ∷ 0 ∷ 0 ∷ (block₀ ++ block₁)

-- clock 6; grade 0 has 1 at stamp 3, in the even half, and grade 1 has 2 at stamp 6, in the odd half
abbrev pub two_grades : List ℕ
two_grades = two_blocks 6 (block_of 1 0 (levels_with 3 1) empty_levels) (block_of 0 2 empty_levels (levels_with 2 2))

pub two_grades_lem : left_by (replicate 76 0) (Make 2 2 1 2 ∷ Clock 6 ∷ Delivery 0 3 1 ∷ Delivery 1 6 2 ∷ []) ≡ two_grades
unfolding perform refusals book_view made clocked delivered sound_head sound_block sound_half sound_level within encode_block encode_level decode_block decode_half decode_level empty_half deliver deliver_half advance unit insert block_words book_words block_start level_start
two_grades_lem = refl

-- the next interval is even: the even half of every grade is emptied, and the odd halves stay
pub next_interval : left_by two_grades (Clock 8 ∷ []) ≡ two_blocks 8 (block_of 0 0 empty_levels empty_levels) (block_of 0 2 empty_levels (levels_with 2 2))
unfolding perform refusals book_view clocked sound_head sound_block sound_half sound_level within encode_block encode_level decode_block decode_half decode_level empty_half advance block_words book_words block_start level_start
next_interval = refl
