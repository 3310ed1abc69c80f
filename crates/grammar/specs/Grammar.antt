-- What one line asks for: SPECIFICATION 11.3. A line, without its newline, is cut at every space: its first field is the call's letter, and
-- each other field is one of its numbers. Assumes nothing.
use Rattle.std.specs.Prelude.{Option, Some, None, Bool, true, false, cond, not, ◌&&◌, List, [], ◌∷◌, map, ℕ, ◌+◌, ◌*◌, ◌-◌, leb, eqb}
use Rattle.shape.specs.Limits.{Reply, accepted, between}
use Rattle.model.specs.declared.Call.{Call}
use Rattle.model.specs.declared.Call.TheVariants.{Make, Clock, Delivery, Query}

abbrev pub first_field : List ℕ → List ℕ  -- the bytes before the first space
first_field [] = []
first_field (b ∷ bs) = cond (eqb b 32) [] (b ∷ first_field bs)

abbrev pub later_fields : List ℕ → List (List ℕ)  -- the bytes after each space, up to the next space
later_fields [] = []
later_fields (b ∷ bs) = cond (eqb b 32) (first_field bs ∷ later_fields bs) (later_fields bs)

abbrev pub every : {A : Type 0} → (A → Bool) → List A → Bool
every p [] = true
every p (x ∷ xs) = p x && every p xs

abbrev pub is_digit : ℕ → Bool
is_digit b = between 48 b 57

abbrev pub value_from : ℕ → List ℕ → ℕ  -- the value of decimal digits that continue a number of value v
value_from v [] = v
value_from v (d ∷ ds) = value_from (10 * v + (d - 48)) ds

abbrev pub value_of : List ℕ → ℕ
value_of ds = value_from 0 ds

-- SPECIFICATION 11.3: decimal digits, of which the first is 0 only in the number 0
abbrev pub is_decimal : List ℕ → Bool
is_decimal [] = false
is_decimal (d ∷ []) = is_digit d
is_decimal (d ∷ e ∷ ds) = not (eqb d 48) && every is_digit (d ∷ e ∷ ds)

abbrev pub largest : ℕ  -- SPECIFICATION 11.3: the largest number
largest = 4294967295

abbrev pub is_number : List ℕ → Bool
is_number ds = is_decimal ds && leb (value_of ds) largest

abbrev pub unread : Reply  -- the reply to a line that is unread has no refusal and no values
unread = accepted []

abbrev pub asks : ℕ → ℕ → List ℕ → Reply  -- the letter and its numbers, if the letter is the wanted one
asks wanted letter numbers = cond (eqb letter wanted) (accepted (letter ∷ numbers)) unread

-- SPECIFICATION 11.3: `c clock`, `q grade window`, `d grade stamp volume`, `m k n M g`, and no other
abbrev pub called : ℕ → List ℕ → Reply
called letter [] = unread
called letter (clock ∷ []) = asks 99 letter (clock ∷ [])
called letter (grade ∷ window ∷ []) = asks 113 letter (grade ∷ window ∷ [])
called letter (grade ∷ stamp ∷ volume ∷ []) = asks 100 letter (grade ∷ stamp ∷ volume ∷ [])
called letter (k ∷ n ∷ m ∷ g ∷ []) = asks 109 letter (k ∷ n ∷ m ∷ g ∷ [])
called letter (a ∷ b ∷ c ∷ d ∷ e ∷ more) = unread

abbrev pub ordered : List ℕ → List (List ℕ) → Reply  -- the fields of a line: one letter, then numbers
ordered [] fields = unread
ordered (letter ∷ []) fields = cond (every is_number fields) (called letter (map value_of fields)) unread
ordered (letter ∷ b ∷ bs) fields = unread

unfoldable pub grammar : List ℕ → Reply  -- SPECIFICATION 11.3: what a line, given as its bytes, asks for
grammar line = ordered (first_field line) (later_fields line)

-- the values of the reader's answer: of a call its letter and its numbers, in the order of the line; none for a line that is unread
unfoldable pub reading_of : Option Call → Reply
reading_of (Some (Make k n m g)) = accepted (109 ∷ k ∷ n ∷ m ∷ g ∷ [])
reading_of (Some (Clock clock)) = accepted (99 ∷ clock ∷ [])
reading_of (Some (Delivery grade stamp volume)) = accepted (100 ∷ grade ∷ stamp ∷ volume ∷ [])
reading_of (Some (Query grade window)) = accepted (113 ∷ grade ∷ window ∷ [])
reading_of None = unread
