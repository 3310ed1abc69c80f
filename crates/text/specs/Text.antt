-- What the bench program prints, each answer as one line: SPECIFICATION 11.4. Assumes nothing.
use Rattle.std.specs.Prelude.{cond, List, [], ◌∷◌, ◌++◌, ℕ, zero, suc, ◌+◌, ◌/◌, ◌%◌, ltb, eqb, length, drop}
use Rattle.shape.specs.Limits.{Reply}

-- the decimal digits of x, if it has at most `most`
abbrev pub digits_of : ℕ → ℕ → List ℕ
digits_of zero x = []
digits_of (suc most) x = cond (ltb x 10) ((48 + x) ∷ []) (digits_of most (x / 10) ++ (48 + x % 10) ∷ [])

unfoldable pub decimal : ℕ → List ℕ  -- a number of 64 bits has at most 20 digits
decimal x = digits_of 20 x

abbrev pub numbered : List ℕ → ℕ → List ℕ  -- a word, a number and a newline
numbered word x = word ++ (decimal x ++ 10 ∷ [])

abbrev pub sum_word : List ℕ  -- `= `
sum_word = 61 ∷ 32 ∷ []

abbrev pub refused_word : List ℕ  -- `refused `
refused_word = 114 ∷ 101 ∷ 102 ∷ 117 ∷ 115 ∷ 101 ∷ 100 ∷ 32 ∷ []

abbrev pub accepted_text : List ℕ → List ℕ  -- SPECIFICATION 11.4: `ok`, or `= sum`
accepted_text [] = 111 ∷ 107 ∷ 10 ∷ []
accepted_text (sum ∷ more) = numbered sum_word sum

unfoldable pub text_of : Reply → List ℕ  -- SPECIFICATION 11.4: the line of a reply
text_of reply = cond (eqb reply.number 0) (accepted_text reply.values) (numbered refused_word reply.number)

unfoldable pub unread_text : List ℕ  -- SPECIFICATION 11.4: `unread`
unread_text = 117 ∷ 110 ∷ 114 ∷ 101 ∷ 97 ∷ 100 ∷ 10 ∷ []

-- how many bytes of a text are written to a buffer: all, or none if the buffer is shorter than 32 bytes
unfoldable pub written : List ℕ → List ℕ → ℕ
written text buffer = cond (ltb (length buffer) 32) 0 (length text)

-- the buffer afterwards: the text at its front, and the rest as it was
unfoldable pub stored : List ℕ → List ℕ → List ℕ
stored text buffer = cond (ltb (length buffer) 32) buffer (text ++ drop (length text) buffer)
