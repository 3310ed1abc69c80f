-- How a line is read, one byte at a time. Assumes nothing.
use Rattle.std.specs.Prelude.{Bool, cond, not, ◌&&◌, List, [], ◌∷◌, ◌++◌, ℕ, ◌+◌, ◌*◌, ◌-◌, leb, eqb}
use Rattle.shape.specs.Limits.{Reply}
use Rattle.grammar.specs.declared.Numbers.{Numbers}
use Rattle.grammar.specs.declared.Numbers.TheVariants.{None, One, Two, Three}
use Rattle.grammar.specs.declared.State.{State}
use Rattle.grammar.specs.declared.State.TheVariants.{Start, Letter, Space, Number, Broken}
use Rattle.grammar.specs.Grammar.{is_digit, largest, unread, called}

abbrev pub numbers_of : Numbers → List ℕ
numbers_of None = []
numbers_of (One a) = a ∷ []
numbers_of (Two a b) = a ∷ b ∷ []
numbers_of (Three a b c) = a ∷ b ∷ c ∷ []

-- the state after a number and a space; no call has five numbers
abbrev pub spaced : ℕ → Numbers → ℕ → State
spaced letter None value = Space letter (One value)
spaced letter (One a) value = Space letter (Two a value)
spaced letter (Two a b) value = Space letter (Three a b value)
spaced letter (Three a b c) value = Broken

-- a digit continues a number if the number is not 0 and stays within the limit
abbrev pub grows : ℕ → ℕ → Bool
grows value byte = is_digit byte && (not (eqb value 0) && leb (10 * value + (byte - 48)) largest)

abbrev pub grown : ℕ → Numbers → ℕ → ℕ → State
grown letter kept value byte = cond (grows value byte) (Number letter kept (10 * value + (byte - 48))) Broken

abbrev pub moved : State → ℕ → State
moved Start byte = cond (eqb byte 32) Broken (Letter byte)
moved (Letter letter) byte = cond (eqb byte 32) (Space letter None) Broken
moved (Space letter kept) byte = cond (is_digit byte) (Number letter kept (byte - 48)) Broken
moved (Number letter kept value) byte = cond (eqb byte 32) (spaced letter kept value) (grown letter kept value byte)
moved Broken byte = Broken

abbrev pub ended : State → Reply
ended Start = unread
ended (Letter letter) = unread
ended (Space letter kept) = unread
ended (Number letter kept value) = called letter (numbers_of kept ++ value ∷ [])
ended Broken = unread
