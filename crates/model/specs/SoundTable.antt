-- SPECIFICATION 7: heads, levels, blocks and books that are sound, and others that fail by one condition, as tables that the definitions meet.
-- Assumes nothing.
use Rattle.std.specs.Prelude.{Bool, true, false, ◌≡◌, refl, List, [], ◌∷◌, ◌++◌, ℕ, set, take}
use Rattle.shape.specs.declared.Shape.{Shape}
use Rattle.shape.specs.Limits.{within, shaped}
use Rattle.shape.specs.Layout.{book_words, block_words, block_start, level_start}
use Rattle.model.specs.Sound.{sound_head, sound_level, sound_half, sound_block, sound_book}
use Rattle.model.specs.Claim.{Each}
use Rattle.model.specs.WordsTable.{block_of, empty_levels, levels_with, two_grades}

-- words, and whether they are sound
pub record SoundRow : Type 0 where
  pub words : List ℕ
  pub sound : Bool

abbrev sound_words : List ℕ → SoundRow
sound_words words = record { words = words; sound = true }

abbrev unsound_words : List ℕ → SoundRow
unsound_words words = record { words = words; sound = false }

-- ---- heads (7.1)

abbrev pub head_table : List SoundRow
head_table =
    -- the least and the largest head
    sound_words (2 ∷ 2 ∷ 1 ∷ 1 ∷ 0 ∷ 0 ∷ 0 ∷ 0 ∷ [])
    ∷ sound_words (20 ∷ 1024 ∷ 24 ∷ 8 ∷ 2000000000 ∷ 0 ∷ 0 ∷ 0 ∷ [])
    -- one number below its limit
    ∷ unsound_words (1 ∷ 2 ∷ 1 ∷ 1 ∷ 0 ∷ 0 ∷ 0 ∷ 0 ∷ [])
    ∷ unsound_words (2 ∷ 1 ∷ 1 ∷ 1 ∷ 0 ∷ 0 ∷ 0 ∷ 0 ∷ [])
    ∷ unsound_words (2 ∷ 2 ∷ 0 ∷ 1 ∷ 0 ∷ 0 ∷ 0 ∷ 0 ∷ [])
    ∷ unsound_words (2 ∷ 2 ∷ 1 ∷ 0 ∷ 0 ∷ 0 ∷ 0 ∷ 0 ∷ [])
    -- one number above its limit
    ∷ unsound_words (21 ∷ 2 ∷ 1 ∷ 1 ∷ 0 ∷ 0 ∷ 0 ∷ 0 ∷ [])
    ∷ unsound_words (2 ∷ 1025 ∷ 1 ∷ 1 ∷ 0 ∷ 0 ∷ 0 ∷ 0 ∷ [])
    ∷ unsound_words (2 ∷ 2 ∷ 25 ∷ 1 ∷ 0 ∷ 0 ∷ 0 ∷ 0 ∷ [])
    ∷ unsound_words (2 ∷ 2 ∷ 1 ∷ 9 ∷ 0 ∷ 0 ∷ 0 ∷ 0 ∷ [])
    ∷ unsound_words (2 ∷ 2 ∷ 1 ∷ 1 ∷ 2000000001 ∷ 0 ∷ 0 ∷ 0 ∷ [])
    -- one of the last three words not zero
    ∷ unsound_words (2 ∷ 2 ∷ 1 ∷ 1 ∷ 0 ∷ 1 ∷ 0 ∷ 0 ∷ [])
    ∷ unsound_words (2 ∷ 2 ∷ 1 ∷ 1 ∷ 0 ∷ 0 ∷ 1 ∷ 0 ∷ [])
    ∷ unsound_words (2 ∷ 2 ∷ 1 ∷ 1 ∷ 0 ∷ 0 ∷ 0 ∷ 1 ∷ [])
    ∷ []

pub heads_hold : Each (λ r. sound_head r.words ≡ r.sound) head_table
unfolding sound_head within
heads_hold = (refl, (refl, (refl, (refl, (refl, (refl, (refl, (refl, (refl, (refl, (refl, (refl, (refl, (refl, tt))))))))))))))

-- ---- levels (7.3 to 7.5)

-- a level in a half of this total, and whether it is sound
pub record LevelRow : Type 0 where
  pub level : ℕ
  pub total : ℕ
  pub words : List ℕ
  pub sound : Bool

abbrev pub MeetsLevel : Shape → LevelRow → Type 0
MeetsLevel s r = sound_level s r.level r.total r.words ≡ r.sound

-- the words of a level with three slots: its count, F, and (offset, width, weight) three times
abbrev slots₃ : ℕ → ℕ → ℕ × ℕ × ℕ → ℕ × ℕ × ℕ → ℕ × ℕ × ℕ → List ℕ
slots₃ count first a b c = count ∷ first ∷ a.0 ∷ a.1 ∷ a.2 ∷ b.0 ∷ b.1 ∷ b.2 ∷ c.0 ∷ c.1 ∷ c.2 ∷ []

-- an unused slot
abbrev none : ℕ × ℕ × ℕ
none = (0, 0, 0)

abbrev sound : ℕ → ℕ → List ℕ → LevelRow
sound level total words = record { level = level; total = total; words = words; sound = true }

abbrev unsound : ℕ → ℕ → List ℕ → LevelRow
unsound level total words = record { level = level; total = total; words = words; sound = false }

-- k = 4, so an interval has 16 ticks; n = 3
abbrev pub level_table : List LevelRow
level_table =
    -- level 0, without and with buckets. F may be below the first offset, an offset may be 15, a weight may be 1
    sound 0 0 (slots₃ 0 0 none none none)
    ∷ sound 0 5 (slots₃ 2 0 (1, 1, 1) (15, 1, 4) none)
    ∷ sound 0 12 (slots₃ 3 5 (5, 1, 9) (6, 1, 2) (15, 1, 1))
    ∷ sound 0 12 (slots₃ 3 4 (5, 1, 9) (6, 1, 2) (15, 1, 1))
    -- the weights are the total where F = 0, and at most the total elsewhere
    ∷ unsound 0 1 (slots₃ 0 0 none none none)
    ∷ unsound 0 4 (slots₃ 2 0 (1, 1, 1) (15, 1, 4) none)
    ∷ unsound 0 6 (slots₃ 2 0 (1, 1, 1) (15, 1, 4) none)
    ∷ sound 0 13 (slots₃ 3 1 (5, 1, 9) (6, 1, 2) (15, 1, 1))
    ∷ unsound 0 11 (slots₃ 3 1 (5, 1, 9) (6, 1, 2) (15, 1, 1))
    -- the count is n where F is not 0, and may be n where F = 0; it is not above n
    ∷ unsound 0 12 (slots₃ 2 1 (5, 1, 9) (6, 1, 2) none)
    ∷ sound 0 12 (slots₃ 3 0 (5, 1, 9) (6, 1, 2) (15, 1, 1))
    ∷ unsound 0 13 (slots₃ 4 0 (5, 1, 9) (6, 1, 2) (14, 1, 1) ++ 15 ∷ 1 ∷ 1 ∷ [])
    ∷ unsound 0 13 (slots₃ 4 5 (5, 1, 9) (6, 1, 2) (14, 1, 1) ++ 15 ∷ 1 ∷ 1 ∷ [])
    -- a word of an unused slot is not zero
    ∷ unsound 0 0 (slots₃ 0 0 (1, 0, 0) none none)
    ∷ unsound 0 2 (slots₃ 1 0 (5, 1, 2) (1, 0, 0) none)
    ∷ unsound 0 2 (slots₃ 1 0 (5, 1, 2) (0, 1, 0) none)
    ∷ unsound 0 2 (slots₃ 1 0 (5, 1, 2) (0, 0, 1) none)
    ∷ unsound 0 2 (slots₃ 1 0 (5, 1, 2) none (0, 0, 1))
    -- an offset is below F, not above the one before, or past the interval
    ∷ unsound 0 12 (slots₃ 3 6 (5, 1, 9) (6, 1, 2) (15, 1, 1))
    ∷ unsound 0 5 (slots₃ 2 0 (2, 1, 1) (2, 1, 4) none)
    ∷ unsound 0 5 (slots₃ 2 0 (2, 1, 1) (1, 1, 4) none)
    ∷ unsound 0 5 (slots₃ 2 0 (1, 1, 1) (16, 1, 4) none)
    -- a width is not 1, a weight is 0
    ∷ unsound 0 5 (slots₃ 2 0 (1, 0, 1) (15, 1, 4) none)
    ∷ unsound 0 5 (slots₃ 2 0 (1, 2, 1) (15, 1, 4) none)
    ∷ unsound 0 4 (slots₃ 2 0 (1, 1, 0) (15, 1, 4) none)
    -- level 2, with one bucket of any weight below 8, with two and with three of weight 4 or more
    ∷ sound 2 0 (slots₃ 1 0 (0, 16, 0) none none)
    ∷ sound 2 7 (slots₃ 1 0 (0, 16, 7) none none)
    ∷ sound 2 9 (slots₃ 2 0 (0, 8, 4) (8, 8, 5) none)
    ∷ sound 2 12 (slots₃ 3 0 (0, 8, 4) (8, 4, 4) (12, 4, 4))
    ∷ sound 2 12 (slots₃ 3 8 (8, 4, 4) (12, 2, 4) (14, 2, 4))
    -- the weights and the total
    ∷ unsound 2 8 (slots₃ 2 0 (0, 8, 4) (8, 8, 5) none)
    ∷ unsound 2 10 (slots₃ 2 0 (0, 8, 4) (8, 8, 5) none)
    ∷ sound 2 13 (slots₃ 3 8 (8, 4, 4) (12, 2, 4) (14, 2, 4))
    ∷ unsound 2 11 (slots₃ 3 8 (8, 4, 4) (12, 2, 4) (14, 2, 4))
    -- the count and F; an unused slot
    ∷ unsound 2 8 (slots₃ 2 8 (8, 4, 4) (12, 4, 4) none)
    ∷ unsound 2 16 (slots₃ 4 0 (0, 4, 4) (4, 4, 4) (8, 4, 4) ++ 12 ∷ 4 ∷ 4 ∷ [])
    ∷ unsound 2 0 (slots₃ 1 0 (0, 16, 0) (0, 1, 0) none)
    -- no bucket
    ∷ unsound 2 0 (slots₃ 0 0 none none none)
    -- the first does not start at F
    ∷ unsound 2 12 (slots₃ 3 7 (8, 4, 4) (12, 2, 4) (14, 2, 4))
    ∷ unsound 2 12 (slots₃ 3 9 (8, 4, 4) (12, 2, 4) (14, 2, 4))
    ∷ unsound 2 4 (slots₃ 1 0 (8, 8, 4) none none)
    -- one starts after or before the end of the one before
    ∷ unsound 2 8 (slots₃ 2 0 (0, 4, 4) (8, 8, 4) none)
    ∷ unsound 2 8 (slots₃ 2 0 (0, 16, 4) (8, 8, 4) none)
    -- the last ends before or after the interval
    ∷ unsound 2 4 (slots₃ 1 0 (0, 8, 4) none none)
    ∷ unsound 2 8 (slots₃ 2 0 (0, 16, 4) (16, 16, 4) none)
    -- a width is no power of two, or does not divide its offset
    ∷ unsound 2 8 (slots₃ 2 0 (0, 12, 4) (12, 4, 4) none)
    ∷ unsound 2 8 (slots₃ 2 0 (0, 0, 4) (0, 16, 4) none)
    ∷ unsound 2 12 (slots₃ 3 0 (0, 4, 4) (4, 8, 4) (12, 4, 4))
    -- the weight reaches 8: on width 16 and on width 2 it may not, on width 1 it may
    ∷ unsound 2 8 (slots₃ 1 0 (0, 16, 8) none none)
    ∷ sound 2 15 (slots₃ 3 12 (12, 2, 7) (14, 1, 4) (15, 1, 4))
    ∷ unsound 2 16 (slots₃ 3 12 (12, 2, 8) (14, 1, 4) (15, 1, 4))
    ∷ sound 2 21 (slots₃ 3 13 (13, 1, 8) (14, 1, 9) (15, 1, 4))
    -- the weight is below 4: of a single bucket it may be, of one of two or more it may not, nor on width 1
    ∷ sound 2 3 (slots₃ 1 0 (0, 16, 3) none none)
    ∷ unsound 2 8 (slots₃ 2 0 (0, 8, 3) (8, 8, 5) none)
    ∷ unsound 2 8 (slots₃ 2 0 (0, 8, 5) (8, 8, 3) none)
    ∷ unsound 2 16 (slots₃ 3 13 (13, 1, 4) (14, 1, 9) (15, 1, 3))
    -- level 1 has 4 for 8 and 2 for 4
    ∷ sound 1 3 (slots₃ 1 0 (0, 16, 3) none none)
    ∷ unsound 1 4 (slots₃ 1 0 (0, 16, 4) none none)
    ∷ sound 1 4 (slots₃ 2 0 (0, 8, 2) (8, 8, 2) none)
    ∷ unsound 1 4 (slots₃ 2 0 (0, 8, 1) (8, 8, 3) none)
    ∷ []

pub levels_hold : Each (MeetsLevel (shaped 4 3 5 1)) level_table
unfolding sound_level
levels_hold = (refl, (refl, (refl, (refl, (refl, (refl, (refl, (refl, (refl, (refl, (refl, (refl, (refl, (refl, (refl, (refl, (refl, (refl, (refl, (refl, (refl, (refl, (refl, (refl, (refl, (refl, (refl, (refl, (refl, (refl, (refl, (refl, (refl, (refl, (refl, (refl, (refl, (refl, (refl, (refl, (refl, (refl, (refl, (refl, (refl, (refl, (refl, (refl, (refl, (refl, (refl, (refl, (refl, (refl, (refl, (refl, (refl, (refl, (refl, (refl, tt))))))))))))))))))))))))))))))))))))))))))))))))))))))))))))

-- two conditions that the others imply where there is a slot, so n = 0 here: F is below 2^k at level 0, and from level 1 on there is a bucket
abbrev pub slotless_table : List LevelRow
slotless_table = sound 0 0 (0 ∷ 15 ∷ []) ∷ unsound 0 0 (0 ∷ 16 ∷ []) ∷ unsound 1 0 (0 ∷ 16 ∷ []) ∷ []

pub slotless_hold : Each (MeetsLevel (shaped 4 0 5 1)) slotless_table
unfolding sound_level
slotless_hold = (refl, (refl, (refl, tt)))

-- ---- blocks (7.2)

-- k = 2, n = 2, M = 1
abbrev pub block_table : List SoundRow
block_table =
    -- a total may be 2, also both
    sound_words (block_of 0 0 empty_levels empty_levels)
    ∷ sound_words (block_of 2 2 (levels_with 0 2) (levels_with 3 2))
    -- a total is 3
    ∷ unsound_words (block_of 3 0 (levels_with 0 3) empty_levels)
    ∷ unsound_words (block_of 0 3 empty_levels (levels_with 0 3))
    -- the totals exchanged
    ∷ sound_words (block_of 2 1 (levels_with 0 2) (levels_with 0 1))
    ∷ unsound_words (block_of 1 2 (levels_with 0 2) (levels_with 0 1))
    -- of four levels, one with another weight than its half's total
    ∷ unsound_words (block_of 1 0 (set (levels_with 0 1) 4 2) empty_levels)
    ∷ unsound_words (block_of 1 0 (set (levels_with 0 1) 12 2) empty_levels)
    ∷ unsound_words (block_of 0 1 empty_levels (set (levels_with 0 1) 4 2))
    ∷ unsound_words (block_of 0 1 empty_levels (set (levels_with 0 1) 12 2))
    ∷ []

pub blocks_hold : Each (λ r. sound_block (shaped 2 2 1 1) r.words ≡ r.sound) block_table
unfolding sound_block sound_half sound_level level_start
blocks_hold = (refl, (refl, (refl, (refl, (refl, (refl, (refl, (refl, (refl, (refl, tt))))))))))

-- ---- books (7.7)

-- the book of two grades; with an unsound head, a word less, a word more, a block of either grade unsound
abbrev pub book_table : List SoundRow
book_table =
    sound_words two_grades
    ∷ unsound_words (set two_grades 5 1)
    ∷ unsound_words (take 75 two_grades)
    ∷ unsound_words (two_grades ++ 0 ∷ [])
    ∷ unsound_words (set two_grades 8 2)
    ∷ unsound_words (set two_grades 75 1)
    ∷ []

pub books_hold : Each (λ r. sound_book r.words ≡ r.sound) book_table
unfolding sound_book sound_head within sound_block sound_half sound_level book_words block_words block_start level_start
books_hold = (refl, (refl, (refl, (refl, (refl, (refl, tt))))))
