-- The limits of a shape (SPECIFICATION 2.2), what the constructor of a shape answers, and replies (SPECIFICATION 5.1). Assumes nothing.
use Rattle.std.specs.Prelude.{Option, Some, None, Bool, cond, ◌&&◌, List, [], ◌∷◌, ℕ, leb, eqb}
use Rattle.shape.specs.declared.Shape.{Shape}

-- SPECIFICATION 5.1, a reply: the number of the refusal, 0 where accepted, the values that come with it, and how many buckets were split
pub record Reply : Type 0 where
  pub number : ℕ
  pub values : List ℕ
  pub splits : ℕ

-- refused under a number
abbrev pub refused : ℕ → Reply
refused number = record { number = number; values = []; splits = 0 }

-- accepted, with these values and no split
abbrev pub accepted : List ℕ → Reply
accepted values = record { number = 0; values = values; splits = 0 }

-- accepted, with no values and so many splits
abbrev pub splitting : ℕ → Reply
splitting splits = record { number = 0; values = []; splits = splits }

-- a reply that is only a number: accepted under 0, refused under any other
abbrev pub number_only : ℕ → Reply
number_only number = cond (eqb number 0) (accepted []) (refused number)

-- x lies between two limits, both included
abbrev pub between : ℕ → ℕ → ℕ → Bool
between low x high = leb low x && leb x high

-- SPECIFICATION 2.2: k, n, M and g are within their limits
unfoldable pub within : ℕ → ℕ → ℕ → ℕ → Bool
within k n m g = between 2 k 20 && (between 2 n 1024 && (between 1 m 24 && between 1 g 8))

-- SPECIFICATION 2.2: the coarsest level that a book of this n and M keeps
abbrev pub last_level : ℕ → ℕ → ℕ
last_level n m = m

-- the shape made of these numbers, whatever they are
abbrev pub shaped : ℕ → ℕ → ℕ → ℕ → Shape
shaped k n m g = record { k = k; n = n; m = m; g = g; last = last_level n m }

-- a shape as values
abbrev pub values_of : Shape → List ℕ
values_of s = s.k ∷ s.n ∷ s.m ∷ s.g ∷ s.last ∷ []

-- SPECIFICATION 2.2: what the constructor must answer, the shape or refusal 1
unfoldable pub checked : ℕ → ℕ → ℕ → ℕ → Reply
checked k n m g = cond (within k n m g) (accepted (values_of (shaped k n m g))) (refused 1)

-- SPECIFICATION 5.1: the number and the values of each case of the constructor's answer
unfoldable pub reply_of : Option Shape → Reply
reply_of (Some s) = accepted (values_of s)
reply_of None = refused 1
