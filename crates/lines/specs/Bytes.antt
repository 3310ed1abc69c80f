-- A line that is read one byte after the other gives what the grammar says of it. Assumes nothing.
use mathlib.Core.List.{List, [], ◌∷◌, foldl}
use Rattle.std.specs.Prelude.{◌≡◌, ℕ}
use Rattle.std.proofs.Common.{sym, ◌∙◌}
use Rattle.shape.specs.Limits.{Reply}
use Rattle.grammar.specs.declared.State.TheVariants.{Start}
use Rattle.grammar.specs.Grammar.{grammar}
use Rattle.grammar.specs.Machine.{moved, ended}
use Rattle.grammar.proofs.Reading.{left, at_start, at_end, one_byte}
use Rattle.lines.specs.declared.Line.{Line}

-- a line before its first byte
unfoldable pub started : Line
started = record { state = Start }

-- a line with one more byte
unfoldable pub stepped : Line → ℕ → Line
stepped line byte = record { state = moved line.state byte }

-- a line that ends
unfoldable pub finished : Line → Reply
finished line = ended line.state

read_on : (line : Line) (bs : List ℕ) → finished (foldl stepped line bs) ≡ left line.state bs
unfolding finished stepped
read_on line [] = sym (at_end line.state)
read_on line (b ∷ bs) = read_on (stepped line b) bs ∙ sym (one_byte line.state b bs)

-- a line of any bytes and any length: started, stepped by each byte and finished, it gives what the grammar says
pub read_line : (bytes : List ℕ) → finished (foldl stepped started bytes) ≡ grammar bytes
unfolding started
read_line bytes = read_on started bytes ∙ at_start bytes
