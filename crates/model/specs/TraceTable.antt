-- SPECIFICATION 18: examples of traces, found days and replays, as one table that the definitions meet. Assumes nothing.
use Rattle.std.specs.Prelude.{◌≡◌, refl, List, [], ◌∷◌, ◌++◌, ℕ, ◌+◌, ◌*◌, length, replicate}
use Rattle.shape.specs.Limits.{Reply, accepted, refused, within}
use Rattle.model.specs.declared.Call.{Call}
use Rattle.model.specs.declared.Call.TheVariants.{Make, Clock}
use Rattle.shape.specs.Layout.{book_words, block_words, block_start, level_start}
use Rattle.model.specs.Level.{unit, insert}
use Rattle.model.specs.Block.{empty_half, deliver_half, deliver, advance, answer, window_sum}
use Rattle.model.specs.Words.{decode_level, decode_half, decode_block, encode_level, encode_block, join}
use Rattle.model.specs.Sound.{sound_head, sound_level, sound_half, sound_block}
use Rattle.model.specs.Calls.{refusals, book_view, made, clocked, delivered, perform}
use Rattle.model.specs.Trace.{sound_record, call_of, sound_day, sound_trace, day_reply, found_day}
use Rattle.model.specs.Replay.{left_by, replay_calls, replay}
use Rattle.model.specs.Claim.{Each}
use Rattle.model.specs.Table.{example_words, p₃}

-- what a day of a trace gives, found, and replayed with some words for the answers
pub record DayGives : Type 0 where
  pub place : Reply  -- where it is found
  pub part : List ℕ  -- the part found
  pub reply : Reply  -- the reply to the replay
  pub after : List ℕ  -- the answers' words afterwards

pub record TraceExample : Type 0 where
  pub book : List ℕ
  pub trace : List ℕ
  pub day : ℕ
  pub answers : List ℕ
  pub gives : DayGives
  pub calls : List Call  -- which leave the same book

abbrev pub MeetsTrace : TraceExample → Type 0
MeetsTrace e =
    let done = replay e.book e.trace e.day e.answers in
    (record { place = day_reply e.trace e.day; part = found_day e.trace e.day; reply = done.reply; after = done.answers } ≡ e.gives)
    × (done.book ≡ left_by e.book e.calls)

abbrev pub made₀ : List ℕ  -- a book of the shape of P1 to P10, just made
made₀ = left_by (replicate example_words 0) (Make 2 2 4 1 ∷ [])

abbrev pub clock_only : ℕ → List ℕ  -- a clock's record
clock_only clock = 1 ∷ clock ∷ 0 ∷ 0 ∷ []

abbrev p₃_day : List ℕ  -- the calls up to P3 and the question of P4, as records
p₃_day = clock_only 3 ++ 2 ∷ 0 ∷ 0 ∷ 3 ∷ 2 ∷ 0 ∷ 3 ∷ 1 ∷ 2 ∷ 0 ∷ 1 ∷ 1 ∷ 3 ∷ 0 ∷ 2 ∷ 0 ∷ []

abbrev week : List ℕ  -- an empty day, then `p₃_day`
week = 2 ∷ 5 ∷ 0 ∷ 5 ∷ 20 ∷ p₃_day

-- on a book just made, a replay that is refused: nothing is written
abbrev declining : List ℕ → ℕ → List ℕ → Reply → List ℕ → ℕ → TraceExample
declining trace day answers place part number = record {
  book = made₀;
  trace = trace;
  day = day;
  answers = answers;
  gives = record { place = place; part = part; reply = refused number; after = answers };
  calls = [];
}

-- one that 13 or 14 refuses: nothing is found either
abbrev refusing : List ℕ → ℕ → List ℕ → ℕ → TraceExample
refusing trace day answers number = declining trace day answers (refused number) [] number

-- an accepted replay, of a day that starts at a word of the trace
abbrev accepting : List ℕ → List ℕ → ℕ → List ℕ → ℕ → List ℕ → List ℕ → List Call → TraceExample
accepting book trace day answers start part after calls = record {
  book = book;
  trace = trace;
  day = day;
  answers = answers;
  gives = record { place = accepted (start ∷ length part ∷ []); part = part; reply = accepted []; after = after };
  calls = calls;
}

abbrev days : ℕ → List ℕ  -- a trace of so many empty days
days count = count ∷ join (replicate count ((1 + 2 * count) ∷ 0 ∷ []))

abbrev one : List ℕ → List ℕ  -- a trace whose only day has one record
one words = 1 ∷ 3 ∷ 4 ∷ words

abbrev pub traces : List TraceExample
traces =
    -- P4's question is answered 1; the words past the last record stay
    accepting made₀ week 1 (replicate 11 7) 5 p₃_day (replicate 9 0 ++ 1 ∷ 7 ∷ []) (Clock 3 ∷ p₃)
    -- ten answer words are enough, nine are not, though the day is found
    ∷ accepting made₀ week 1 (replicate 10 7) 5 p₃_day (replicate 9 0 ++ 1 ∷ []) (Clock 3 ∷ p₃)
    ∷ declining week 1 (replicate 9 7) (accepted (5 ∷ 20 ∷ [])) p₃_day 15
    -- an empty day needs no answer word
    ∷ accepting made₀ week 0 [] 5 [] [] []
    ∷ accepting made₀ week 0 (7 ∷ []) 5 [] (7 ∷ []) []
    -- days are numbered from 0
    ∷ refusing week 2 [] 14
    ∷ refusing (0 ∷ []) 0 [] 14
    -- a refused record does not stop the replay: grade 9, then a clock
    ∷ accepting made₀ (1 ∷ 3 ∷ 8 ∷ 2 ∷ 9 ∷ 0 ∷ 1 ∷ clock_only 3) 0 (replicate 4 7) 3 (2 ∷ 9 ∷ 0 ∷ 1 ∷ clock_only 3) (3 ∷ 0 ∷ 0 ∷ 0 ∷ []) (Clock 3 ∷ [])
    -- a short book, and one with no sound head, refuse each record and not the replay
    ∷ accepting (replicate 7 0) week 1 (replicate 10 7) 5 p₃_day (2 ∷ 0 ∷ 2 ∷ 0 ∷ 2 ∷ 0 ∷ 2 ∷ 0 ∷ 2 ∷ 0 ∷ []) []
    ∷ accepting (replicate 8 0) (one (clock_only 3)) 0 (replicate 2 7) 3 (clock_only 3) (7 ∷ 0 ∷ []) []
    -- 64 days, and no more
    ∷ accepting made₀ (days 64) 63 [] 129 [] [] []
    ∷ refusing (days 65) 0 [] 13
    -- 13 comes before 14 and before 15, 14 before 15: the last trace has 1 and 4 where the pair of a second day would stand, so 15 would hold
    -- as well
    ∷ refusing (one (4 ∷ 0 ∷ 0 ∷ 0 ∷ [])) 1 [] 13
    ∷ refusing (one (4 ∷ 0 ∷ 0 ∷ 0 ∷ [])) 0 [] 13
    ∷ refusing (one (clock_only 4)) 1 [] 14
    -- no words; a word follows; a word is missing; a gap before the first day and between two; a pair is missing
    ∷ refusing [] 0 [] 13
    ∷ refusing (0 ∷ 0 ∷ []) 0 [] 13
    ∷ refusing (1 ∷ 3 ∷ 4 ∷ 1 ∷ 3 ∷ 0 ∷ []) 0 (replicate 2 7) 13
    ∷ refusing (1 ∷ 4 ∷ 4 ∷ 0 ∷ clock_only 3) 0 (replicate 2 7) 13
    ∷ refusing (2 ∷ 5 ∷ 4 ∷ 10 ∷ 4 ∷ (clock_only 1 ++ 0 ∷ clock_only 2)) 0 (replicate 2 7) 13
    ∷ refusing (2 ∷ 5 ∷ 0 ∷ []) 0 [] 13
    -- days that are not sorted, days that overlap, a day of three words
    ∷ refusing (2 ∷ 9 ∷ 4 ∷ 5 ∷ 4 ∷ (clock_only 1 ++ clock_only 2)) 0 (replicate 2 7) 13
    ∷ refusing (2 ∷ 5 ∷ 4 ∷ 5 ∷ 4 ∷ clock_only 1) 0 (replicate 2 7) 13
    ∷ refusing (1 ∷ 3 ∷ 3 ∷ 1 ∷ 3 ∷ 0 ∷ []) 0 (replicate 2 7) 13
    -- another kind, and each rest word that is not zero
    ∷ refusing (one (0 ∷ 0 ∷ 0 ∷ 0 ∷ [])) 0 (replicate 2 7) 13
    ∷ refusing (one (4 ∷ 0 ∷ 0 ∷ 0 ∷ [])) 0 (replicate 2 7) 13
    ∷ refusing (one (1 ∷ 3 ∷ 1 ∷ 0 ∷ [])) 0 (replicate 2 7) 13
    ∷ refusing (one (1 ∷ 3 ∷ 0 ∷ 1 ∷ [])) 0 (replicate 2 7) 13
    ∷ refusing (one (3 ∷ 0 ∷ 2 ∷ 1 ∷ [])) 0 (replicate 2 7) 13
    -- the same in a day that is not asked for
    ∷ refusing (2 ∷ 5 ∷ 4 ∷ 9 ∷ 4 ∷ (clock_only 3 ++ 3 ∷ 0 ∷ 2 ∷ 1 ∷ [])) 0 (replicate 2 7) 13
    ∷ []

pub traces_hold : Each MeetsTrace traces
unfolding sound_record call_of sound_day sound_trace day_reply found_day replay_calls replay perform refusals book_view made clocked delivered sound_head sound_block sound_half sound_level within encode_block encode_level decode_block decode_half decode_level empty_half deliver deliver_half advance answer window_sum unit insert block_words book_words block_start level_start
traces_hold = ((refl, refl), ((refl, refl), ((refl, refl), ((refl, refl), ((refl, refl), ((refl, refl), ((refl, refl), ((refl, refl), ((refl, refl), ((refl, refl), ((refl, refl), ((refl, refl), ((refl, refl), ((refl, refl), ((refl, refl), ((refl, refl), ((refl, refl), ((refl, refl), ((refl, refl), ((refl, refl), ((refl, refl), ((refl, refl), ((refl, refl), ((refl, refl), ((refl, refl), ((refl, refl), ((refl, refl), ((refl, refl), ((refl, refl), ((refl, refl), tt))))))))))))))))))))))))))))))
