-- The whole input and the whole output of the bench program: SPECIFICATION 11. Assumes nothing.
use Rattle.std.specs.Prelude.{Option, Some, None, cond, List, [], ◌∷◌, ◌++◌, ℕ, eqb, replicate}
use Rattle.shape.specs.Limits.{Reply}
use Rattle.model.specs.declared.Call.{Call}
use Rattle.model.specs.declared.Call.TheVariants.{Make, Clock, Delivery, Query}
use Rattle.grammar.specs.Grammar.{grammar}
use Rattle.lent.specs.Lent.{after_line}

abbrev pub newline : ℕ  -- SPECIFICATION 11.3
newline = 10

abbrev pub buffer_words : ℕ  -- SPECIFICATION 11.2
buffer_words = 14836

unfoldable pub zero_buffer : List ℕ  -- SPECIFICATION 11.2: the buffer at the start
zero_buffer = replicate buffer_words 0

-- a byte before the first line; if there is no line, it is one of its own, without a newline
abbrev pub with_byte : ℕ → List (List ℕ) → List (List ℕ)
with_byte byte [] = (byte ∷ []) ∷ []
with_byte byte (line ∷ lines) = (byte ∷ line) ∷ lines

-- SPECIFICATION 11.3: the lines of an input, without their newlines; an empty line counts, and so does a last one that has a byte and no
-- newline
abbrev pub lines_of : List ℕ → List (List ℕ)
lines_of [] = []
lines_of (byte ∷ bytes) = cond (eqb byte newline) ([] ∷ lines_of bytes) (with_byte byte (lines_of bytes))

abbrev pub asked : ℕ → ℕ → Call → Option Call  -- the letter that is wanted, and its call
asked wanted letter call = cond (eqb letter wanted) (Some call) None

-- the call of a letter and its numbers, as the grammar gives them
abbrev pub parsed_values : List ℕ → Option Call
parsed_values [] = None
parsed_values (letter ∷ []) = None
parsed_values (letter ∷ clock ∷ []) = asked 99 letter (Clock clock)
parsed_values (letter ∷ grade ∷ window ∷ []) = asked 113 letter (Query grade window)
parsed_values (letter ∷ grade ∷ stamp ∷ volume ∷ []) = asked 100 letter (Delivery grade stamp volume)
parsed_values (letter ∷ k ∷ n ∷ m ∷ g ∷ []) = asked 109 letter (Make k n m g)
parsed_values (letter ∷ a ∷ b ∷ c ∷ d ∷ e ∷ more) = None

unfoldable pub parsed_of : Reply → Option Call  -- what a line asks for, by the grammar's reply
parsed_of reply = parsed_values reply.values

-- SPECIFICATION 11.1: what is printed for lines, one after another; each finds the buffer and what is lent as the one before left them
abbrev pub printed : List ℕ → ℕ → List (List ℕ) → List ℕ
printed words lent [] = []
printed words lent (line ∷ lines) = let after = after_line words lent (parsed_of (grammar line)) in after.text ++ printed after.words after.lent lines

unfoldable pub output : List ℕ → List ℕ  -- SPECIFICATION 11.1 and 11.2: the output for an input; at the start the whole buffer is lent
output input = printed zero_buffer buffer_words (lines_of input)
