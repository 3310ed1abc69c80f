-- SPECIFICATION 20.4: the grounds of some books, as one table that the definitions meet. Assumes nothing.
use Rattle.std.specs.Prelude.{◌≡◌, refl, List, [], ◌∷◌, ◌++◌, ℕ, set, replicate}
use Rattle.shape.specs.Limits.{Reply, accepted, refused, within, shaped}
use Rattle.shape.specs.Layout.{book_words, block_words, block_start, level_start}
use Rattle.model.specs.declared.Call.{Call}
use Rattle.model.specs.declared.Call.TheVariants.{Make, Clock, Delivery}
use Rattle.model.specs.Level.{unit, insert}
use Rattle.model.specs.Block.{empty_half, deliver_half, deliver, advance, answer, window_sum}
use Rattle.model.specs.Words.{decode_level, decode_half, decode_block, encode_level, encode_block}
use Rattle.model.specs.Sound.{sound_head, sound_level, sound_half, sound_block}
use Rattle.model.specs.Calls.{refusals, book_view, made, clocked, delivered, perform}
use Rattle.model.specs.Replay.{left_by}
use Rattle.model.specs.Ground.{ground_of, ground}
use Rattle.model.specs.Claim.{Each}
use Rattle.model.specs.Table.{example_words, start, d, p₃, p₇}

-- what a ground of a grade and a window replies
pub record GroundRow : Type 0 where
  pub grade : ℕ
  pub window : ℕ
  pub reply : Reply

-- words, and the rows about them
pub record GroundRows : Type 0 where
  pub words : List ℕ
  pub rows : List GroundRow

abbrev pub MeetsGrounds : GroundRows → Type 0
MeetsGrounds t = Each (λ r. ground t.words r.grade r.window ≡ r.reply) t.rows

-- the five values: sum, level, limit, which case, F or 0
abbrev values : ℕ → ℕ → ℕ → ℕ → ℕ → Reply
values sum level limit which first = accepted (sum ∷ level ∷ limit ∷ which ∷ first ∷ [])

abbrev row : ℕ → ℕ → Reply → GroundRow
row grade window reply = record { grade = grade; window = window; reply = reply }

-- the words of the examples' shape after these calls
abbrev after : List Call → List ℕ
after calls = left_by (replicate example_words 0) (start ++ calls)

-- k = 2, n = 2, M = 3, units at 2, 2, 0, 0, 2 and 3: F of the levels is 1, 2, 0, 0
abbrev uneven : List ℕ
uneven = left_by (replicate (book_words (shaped 2 2 3 1)) 0) (Make 2 2 3 1 ∷ Clock 3 ∷ d 2 2 ∷ d 0 2 ∷ d 2 1 ∷ d 3 1 ∷ [])

-- the same shape, with nothing at 1: F of level 0 is 1, and its first bucket is at 2
abbrev gap : List ℕ
gap = left_by (replicate (book_words (shaped 2 2 3 1)) 0) (Make 2 2 3 1 ∷ Clock 3 ∷ d 0 2 ∷ d 2 1 ∷ d 3 1 ∷ [])

-- k = 3, n = 2, M = 4, two grades, interval 1: F of the levels of grade 1 is 1, 6, 4, 0, 0
abbrev steep : List ℕ
steep = left_by (replicate (book_words (shaped 3 2 4 2)) 0) (Make 3 2 4 2 ∷ Clock 15 ∷ Delivery 1 8 1 ∷ Delivery 1 12 5 ∷ Delivery 1 15 6 ∷ [])

abbrev pub ground_table : List GroundRows
ground_table =
    record {
      words = after p₇;
      rows =
          row 0 0 (values 0 0 0 0 0)
          ∷ row 0 2 (values 3 0 0 1 0)
          ∷ row 0 3 (values 4 2 12 2 2)
          ∷ row 0 4 (values 8 2 12 2 2)
          ∷ row 0 5 (refused 5)
          ∷ row 1 5 (refused 3)
          ∷ [];
    }
    -- level 1, whose next finer level is level 0
    ∷ record { words = after p₃; rows = row 0 4 (values 5 1 6 2 1) ∷ [] }
    -- a window that opens in the interval before is read there, and not in the current half, which is empty
    ∷ record { words = after (p₇ ++ Clock 4 ∷ []); rows = row 0 4 (values 4 2 12 2 2) ∷ row 0 1 (values 0 0 0 1 0) ∷ [] }
    -- window 0 reads no half. That of clock + 1 still holds P7, so its levels 0 and 1 have F = 2
    ∷ record { words = after (p₇ ++ Clock 7 ∷ []); rows = row 0 0 (values 0 0 0 0 0) ∷ [] }
    -- level 0 serves window 3, though F of level 1 is past its opening; level 2 serves window 4
    ∷ record { words = uneven; rows = row 0 3 (values 4 0 0 1 0) ∷ row 0 4 (values 6 2 12 2 2) ∷ [] }
    -- F is not where the first bucket starts
    ∷ record { words = gap; rows = row 0 4 (values 4 1 6 2 1) ∷ [] }
    -- here k and n differ, the level is 3, F of the next finer level is not the highest of the finer ones, and grade 0 is empty
    ∷ record { words = steep; rows = row 1 8 (values 12 3 32 2 4) ∷ row 0 8 (values 0 0 0 1 0) ∷ [] }
    -- a damaged book, no head, too few words
    ∷ record { words = set (after p₇) 8 9; rows = row 0 2 (refused 11) ∷ row 0 0 (refused 11) ∷ row 0 5 (refused 5) ∷ [] }
    ∷ record { words = replicate 8 0; rows = row 0 0 (refused 7) ∷ [] }
    ∷ record { words = replicate 7 0; rows = row 0 0 (refused 2) ∷ [] }
    ∷ []

pub ground_table-holds : Each MeetsGrounds ground_table
unfolding ground ground_of perform refusals book_view made clocked delivered sound_head sound_block sound_half sound_level within encode_block encode_level decode_block decode_half decode_level empty_half deliver deliver_half advance answer window_sum unit insert block_words book_words block_start level_start
ground_table-holds = (
  (refl, (refl, (refl, (refl, (refl, (refl, tt)))))),
  ((refl, tt), ((refl, (refl, tt)), ((refl, tt), ((refl, (refl, tt)), ((refl, tt), ((refl, (refl, tt)), ((refl, (refl, (refl, tt))), ((refl, tt), ((refl, tt), tt))))))))),
)
