-- SPECIFICATION 13: the examples P1 to P10, as one table that the definitions meet. Assumes nothing.
use Rattle.std.specs.Prelude.{Bool, true, ◌&&◌, ◌≡◌, refl, List, [], ◌∷◌, ◌++◌, ℕ, ltb, get_or, set, replicate, take}
use Rattle.shape.specs.declared.Shape.{Shape}
use Rattle.shape.specs.Limits.{Reply, accepted, splitting, refused, within, shaped}
use Rattle.model.specs.declared.Call.{Call}
use Rattle.model.specs.declared.Call.TheVariants.{Make, Clock, Delivery, Query}
use Rattle.shape.specs.Layout.{book_words, block_words, block_start, level_start}
use Rattle.model.specs.Level.{Level, level_of, bucket_of, unit, insert, insert_splits}
use Rattle.model.specs.Block.{opening, offset_of, interval, half_of, serving, empty_half, deliver_half, deliver, deliver_splits, advance, answer, window_sum}
use Rattle.model.specs.Words.{shape_of, clock_of, decode_level, decode_half, decode_block, encode_level, encode_block}
use Rattle.model.specs.Sound.{sound_head, sound_level, sound_half, sound_block}
use Rattle.model.specs.Calls.{block_at, refusals, book_view, made, clocked, delivered, perform}
use Rattle.model.specs.Replay.{left_by}
use Rattle.model.specs.Ledger.{Ledger, ledger_of, ledger_view, enter}
use Rattle.model.specs.Claim.{Each}

-- the shape of the examples, and how many words each call is lent
abbrev pub example_shape : Shape
example_shape = shaped 2 2 4 1

abbrev pub example_words : ℕ
example_words = book_words example_shape

-- what an example says of grade 0 after its calls
pub data Fact : Type 0 where
  -- level i of the even half
  level_is : ℕ → Level → Fact
  -- what the book and the ledger reply to the next call
  answers : Call → Reply → Fact
  exactly : Call → Reply → Fact
  -- what the book replies once word j is changed
  spoilt : ℕ → ℕ → Call → Reply → Fact
  -- the level that serves a window
  served_from : ℕ → ℕ → Fact

-- each of these levels has F above a
abbrev pub past : ℕ → List Level → Bool
past a [] = true
past a (l ∷ ls) = ltb a l.first && past a ls

abbrev pub Holds : List ℕ → Ledger → Fact → Type 0
Holds ws l (level_is i it) = get_or (block_at ws 0).even.levels i (level_of 0 []) ≡ it
Holds ws l (answers call reply) = (perform ws call).reply ≡ reply
Holds ws l (exactly call reply) = (enter example_words l call).reply ≡ reply
Holds ws l (spoilt j word call reply) = (perform (set ws j word) call).reply ≡ reply
Holds ws l (served_from window i) =
    let s = shape_of ws in
    let start = opening (clock_of ws) window in
    let levels = (half_of (interval s start) (block_at ws 0)).levels in
    let a = offset_of s start in
    (past a (take i levels) ≡ true) × (serving a levels ≡ get_or levels i (level_of 0 []))

-- a ledger after calls that are each lent so many words
abbrev pub entered : ℕ → Ledger → List Call → Ledger
entered lent l [] = l
entered lent l (call ∷ calls) = entered lent (enter lent l call).left calls

-- calls on as many words as the shape needs, all zero at first; and what holds after them
pub record Example : Type 0 where
  pub start : List Call
  pub calls : List Call
  pub facts : List Fact

abbrev pub Meets : Example → Type 0
Meets e =
    let calls = e.start ++ e.calls in
    Each (Holds (left_by (replicate example_words 0) calls) (entered example_words (ledger_of example_shape 0 []) calls)) e.facts

-- a book of that shape, with the clock at 3
abbrev pub start : List Call
start = Make example_shape.k example_shape.n example_shape.m example_shape.g ∷ Clock 3 ∷ []

-- a delivery of grade 0
abbrev pub d : ℕ → ℕ → Call
d stamp volume = Delivery 0 stamp volume

-- a question of grade 0
abbrev pub q : ℕ → Call
q window = Query 0 window

-- the calls up to each example
abbrev pub p₁ : List Call
p₁ = d 0 3 ∷ []

abbrev pub p₂ : List Call
p₂ = p₁ ++ d 3 1 ∷ []

abbrev pub p₃ : List Call
p₃ = p₂ ++ d 1 1 ∷ []

abbrev pub p₆ : List Call
p₆ = p₃ ++ d 1 1 ∷ []

abbrev pub p₇ : List Call
p₇ = p₆ ++ d 2 2 ∷ []

abbrev pub example : List Call → List Fact → Example
example calls facts = record { start = start; calls = calls; facts = facts }

abbrev pub table : List Example
table =
    -- P1
    example p₁ (level_is 1 (level_of 0 (bucket_of 0 4 3 ∷ [])) ∷ [])
    -- P2
    ∷ example p₂ (level_is 1 (level_of 0 (bucket_of 0 2 2 ∷ bucket_of 2 2 2 ∷ [])) ∷ [])
    -- P3, P4 and P5
    ∷ example p₃
    (level_is 0 (level_of 1 (bucket_of 1 1 1 ∷ bucket_of 3 1 1 ∷ []))
    ∷ level_is 1 (level_of 0 (bucket_of 0 2 3 ∷ bucket_of 2 2 2 ∷ []))
    ∷ answers (q 2) (accepted (1 ∷ []))
    ∷ exactly (q 2) (accepted (1 ∷ []))
    ∷ served_from 2 0
    ∷ answers (q 3) (accepted (2 ∷ []))
    ∷ exactly (q 3) (accepted (2 ∷ []))
    ∷ served_from 3 0
    -- window 4 exceeds the clock and opens at 0
    ∷ answers (q 4) (accepted (5 ∷ []))
    ∷ exactly (q 4) (accepted (5 ∷ []))
    ∷ served_from 4 1
    ∷ answers (q 5) (refused 5)
    -- window 0, also of a grade that is not there, with a total that is not its levels', and with a seventh head word that is not zero
    ∷ answers (q 0) (accepted (0 ∷ []))
    ∷ exactly (q 0) (accepted (0 ∷ []))
    ∷ answers (Query 1 0) (refused 3)
    ∷ spoilt 8 6 (q 0) (refused 11)
    ∷ spoilt 6 1 (q 0) (refused 7)
    ∷ [])
    -- P6
    ∷ example p₆
    (level_is 1 (level_of 1 (bucket_of 1 1 2 ∷ bucket_of 2 2 2 ∷ []))
    ∷ answers (q 3) (accepted (3 ∷ []))
    ∷ exactly (q 3) (accepted (3 ∷ []))
    ∷ served_from 3 0
    ∷ answers (q 4) (accepted (6 ∷ []))
    ∷ exactly (q 4) (accepted (6 ∷ []))
    ∷ served_from 4 2
    ∷ answers (q 5) (refused 5)
    ∷ answers (q 0) (accepted (0 ∷ []))
    ∷ exactly (q 0) (accepted (0 ∷ []))
    ∷ [])
    -- P7, with the ledger's sum, and P9 at each stamp
    ∷ example p₇
    (level_is 2 (level_of 0 (bucket_of 0 2 4 ∷ bucket_of 2 2 4 ∷ []))
    ∷ answers (q 2) (accepted (3 ∷ []))
    ∷ exactly (q 2) (accepted (3 ∷ []))
    ∷ served_from 2 0
    -- the bucket that the opening cuts
    ∷ answers (q 3) (accepted (4 ∷ []))
    ∷ exactly (q 3) (accepted (5 ∷ []))
    ∷ served_from 3 2
    ∷ answers (q 4) (accepted (8 ∷ []))
    ∷ exactly (q 4) (accepted (8 ∷ []))
    ∷ served_from 4 2
    ∷ answers (q 5) (refused 5)
    ∷ answers (q 0) (accepted (0 ∷ []))
    ∷ exactly (q 0) (accepted (0 ∷ []))
    ∷ answers (d 0 8) (splitting 2)
    ∷ answers (d 1 8) (splitting 2)
    ∷ answers (d 2 8) (splitting 2)
    ∷ answers (d 3 8) (splitting 2)
    ∷ answers (d 0 9) (refused 12)
    ∷ answers (d 1 9) (refused 12)
    ∷ answers (d 2 9) (refused 12)
    ∷ answers (d 3 9) (refused 12)
    ∷ [])
    -- P8: of the five, the last three change nothing at level 1
    ∷ example (p₂ ++ d 0 2 ∷ []) (level_is 1 (level_of 1 (bucket_of 1 1 2 ∷ bucket_of 2 2 2 ∷ [])) ∷ [])
    ∷ example (p₂ ++ d 0 5 ∷ []) (level_is 1 (level_of 1 (bucket_of 1 1 2 ∷ bucket_of 2 2 2 ∷ [])) ∷ [])
    -- a bucket of width 1 gains and does not split
    ∷ example (p₇ ++ d 2 2 ∷ []) (level_is 1 (level_of 2 (bucket_of 2 1 4 ∷ bucket_of 3 1 2 ∷ [])) ∷ [])
    -- P10
    ∷ example (p₇ ++ Clock 8 ∷ [])
    (answers (d 5 1) (splitting 0)
    ∷ answers (d 4 1) (refused 9)
    ∷ answers (d 3 1) (refused 9)
    ∷ answers (d 9 1) (refused 8)
    -- what another interval holds does not count for 12
    ∷ answers (d 8 9) (splitting 3)
    ∷ exactly (d 8 9) (accepted [])
    ∷ [])
    -- at the first tick of an interval window 4 opens in the one before
    ∷ example (p₇ ++ Clock 4 ∷ [])
    (answers (q 4) (accepted (4 ∷ []))
    ∷ exactly (q 4) (accepted (5 ∷ []))
    ∷ served_from 4 2
    ∷ [])
    -- at the last tick it opens at the interval's first
    ∷ example (p₇ ++ Clock 7 ∷ [])
    (answers (q 4) (accepted (0 ∷ []))
    ∷ exactly (q 4) (accepted (0 ∷ []))
    ∷ served_from 4 0
    ∷ [])
    -- a refused delivery leaves the level, and the ledger's sum, as they were
    ∷ example (p₇ ++ d 0 9 ∷ [])
    (level_is 2 (level_of 0 (bucket_of 0 2 4 ∷ bucket_of 2 2 4 ∷ []))
    ∷ exactly (q 4) (accepted (8 ∷ []))
    ∷ [])
    ∷ []

pub table-holds : Each Meets table
unfolding perform refusals book_view made clocked delivered sound_head sound_block sound_half sound_level within encode_block encode_level decode_block decode_half decode_level empty_half deliver deliver_half deliver_splits advance answer window_sum unit insert insert_splits block_words book_words block_start level_start enter ledger_view
table-holds = (
  (refl, tt),
  (
    (refl, tt),
    (
      (refl, (refl, (refl, (refl, ((refl, refl), (refl, (refl, ((refl, refl), (refl, (refl, ((refl, refl), (refl, (refl, (refl, (refl, (refl, (refl, tt))))))))))))))))),
      (
        (refl, (refl, (refl, ((refl, refl), (refl, (refl, ((refl, refl), (refl, (refl, (refl, tt)))))))))),
        (
          (refl, (refl, (refl, ((refl, refl), (refl, (refl, ((refl, refl), (refl, (refl, ((refl, refl), (refl, (refl, (refl, (refl, (refl, (refl, (refl, (refl, (refl, (refl, (refl, tt))))))))))))))))))))),
          (
            (refl, tt),
            (
              (refl, tt),
              (
                (refl, tt),
                (
                  (refl, (refl, (refl, (refl, (refl, (refl, tt)))))),
                  (
                    (refl, (refl, ((refl, refl), tt))),
                    (
                      (refl, (refl, ((refl, refl), tt))),
                      (
                        (refl, (refl, tt)),
                        tt,
                      ),
                    ),
                  ),
                ),
              ),
            ),
          ),
        ),
      ),
    ),
  ),
)
