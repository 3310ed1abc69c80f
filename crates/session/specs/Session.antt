-- The bench program, byte by byte. Assumes nothing.
use Rattle.std.specs.Prelude.{unwrap_or, is_some, Bool, true, false, cond, ℕ, eqb, take}
use mathlib.Core.List.{List, [], ◌∷◌, ◌++◌, foldl}
use Rattle.lines.specs.declared.Line.{Line}
use Rattle.lines.specs.Bytes.{started, stepped, finished}
use Rattle.lent.specs.Lent.{after_line}
use Rattle.session.specs.declared.Session.{Session}
use Rattle.session.specs.Protocol.{newline, buffer_words, zero_buffer, parsed_of}

pub record Bench : Type 0 where  -- the program between two bytes of its input
  pub line : Line  -- the line as far as it has been read
  pub begun : Bool  -- whether it has a byte
  pub words : List ℕ  -- the buffer
  pub lent : ℕ  -- how much of it a call is lent
  pub out : List ℕ  -- the bytes that wait to be written

unfoldable pub initial : Bench  -- before the first byte
initial = record { line = started; begun = false; words = zero_buffer; lent = buffer_words; out = [] }

unfoldable pub end_line : Bench → Bench  -- the line ends, and its answer waits
end_line b =
    let after = after_line b.words b.lent (parsed_of (finished b.line)) in
    record { line = started; begun = false; words = after.words; lent = after.lent; out = b.out ++ after.text }

unfoldable pub add_byte : Bench → ℕ → Bench  -- a byte of the line that is not its newline
add_byte b byte = record { line = stepped b.line byte; begun = true; words = b.words; lent = b.lent; out = b.out }

abbrev pub feed_byte : Bench → ℕ → Bench  -- one byte of the input
feed_byte b byte = cond (eqb byte newline) (end_line b) (add_byte b byte)

abbrev pub end_input : Bench → Bench  -- the last line may lack its newline
end_input b = cond b.begun (end_line b) b

unfoldable pub written_out : Bench → Bench  -- the waiting bytes were written out
written_out b = record { line = b.line; begun = b.begun; words = b.words; lent = b.lent; out = [] }

-- what is written if the input comes in parts and the waiting bytes are written out after each part and at the end
abbrev pub in_parts : Bench → List (List ℕ) → List ℕ
in_parts b [] = (end_input b).out
in_parts b (part ∷ parts) = let after = foldl feed_byte b part in after.out ++ in_parts (written_out after) parts

-- the code's state, with the buffer and with the bytes of the output, of which the first `used` wait; no line stands for one without a byte
abbrev pub bench_of : Session → List ℕ → List ℕ → Bench
bench_of s words out = record { line = unwrap_or s.line started; begun = is_some s.line; words = words; lent = s.lent; out = take s.used out }
