-- The example of SPECIFICATION 11.5, and a last line without its newline, by computation. Assumes nothing.
use Rattle.std.specs.Prelude.{List, [], ◌∷◌, ◌++◌, ◌≡◌, refl, ℕ}
use Rattle.shape.specs.Limits.{within}
use Rattle.shape.specs.Layout.{block_words, book_words, block_start, level_start}
use Rattle.model.specs.Level.{unit, insert}
use Rattle.model.specs.Block.{empty_half, deliver, deliver_half, advance, answer, window_sum}
use Rattle.model.specs.Words.{join, encode_block, encode_level, decode_block, decode_half, decode_level}
use Rattle.model.specs.Sound.{sound_head, sound_block, sound_half, sound_level}
use Rattle.model.specs.Calls.{perform, refusals, book_view, made, clocked, delivered}
use Rattle.grammar.specs.Grammar.{grammar}
use Rattle.text.specs.Text.{decimal, text_of, unread_text}
use Rattle.lent.specs.Lent.{perform_on, after_line}
use Rattle.session.specs.Protocol.{zero_buffer, parsed_of, output}

abbrev pub example_input : List ℕ
example_input =
    join
    -- m 2 2 4 1
    ((109 ∷ 32 ∷ 50 ∷ 32 ∷ 50 ∷ 32 ∷ 52 ∷ 32 ∷ 49 ∷ 10 ∷ [])
    -- c 3
    ∷ (99 ∷ 32 ∷ 51 ∷ 10 ∷ [])
    -- d 0 0 3
    ∷ (100 ∷ 32 ∷ 48 ∷ 32 ∷ 48 ∷ 32 ∷ 51 ∷ 10 ∷ [])
    -- d 0 3 1
    ∷ (100 ∷ 32 ∷ 48 ∷ 32 ∷ 51 ∷ 32 ∷ 49 ∷ 10 ∷ [])
    -- d 0 1 1
    ∷ (100 ∷ 32 ∷ 48 ∷ 32 ∷ 49 ∷ 32 ∷ 49 ∷ 10 ∷ [])
    -- q 0 2
    ∷ (113 ∷ 32 ∷ 48 ∷ 32 ∷ 50 ∷ 10 ∷ [])
    -- d 0 4 1
    ∷ (100 ∷ 32 ∷ 48 ∷ 32 ∷ 52 ∷ 32 ∷ 49 ∷ 10 ∷ [])
    -- q 0 4
    ∷ (113 ∷ 32 ∷ 48 ∷ 32 ∷ 52 ∷ 10 ∷ [])
    -- q 0 5
    ∷ (113 ∷ 32 ∷ 48 ∷ 32 ∷ 53 ∷ 10 ∷ [])
    ∷ [])

abbrev pub ok : List ℕ
ok = 111 ∷ 107 ∷ 10 ∷ []

abbrev pub example_output : List ℕ
example_output =
    join
    (ok ∷ ok ∷ ok ∷ ok ∷ ok
    -- = 1
    ∷ (61 ∷ 32 ∷ 49 ∷ 10 ∷ [])
    -- refused 8
    ∷ (114 ∷ 101 ∷ 102 ∷ 117 ∷ 115 ∷ 101 ∷ 100 ∷ 32 ∷ 56 ∷ 10 ∷ [])
    -- = 5
    ∷ (61 ∷ 32 ∷ 53 ∷ 10 ∷ [])
    -- refused 5
    ∷ (114 ∷ 101 ∷ 102 ∷ 117 ∷ 115 ∷ 101 ∷ 100 ∷ 32 ∷ 53 ∷ 10 ∷ [])
    ∷ [])

pub example-holds : output example_input ≡ example_output
unfolding output zero_buffer parsed_of after_line perform_on grammar decimal text_of perform refusals book_view made clocked delivered sound_head sound_block sound_half sound_level within encode_block encode_level decode_block decode_half decode_level empty_half deliver deliver_half advance answer window_sum unit insert block_words book_words block_start level_start
example-holds = refl

-- an empty line, and `x` at the end
pub last_line_holds : output (10 ∷ 120 ∷ []) ≡ unread_text ++ unread_text
unfolding output parsed_of after_line grammar unread_text
last_line_holds = refl
