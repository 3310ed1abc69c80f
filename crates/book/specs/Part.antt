-- What the part of a book for a grade requires. Rests on the laws of the layout.
use Rattle.std.specs.Prelude.{◌≡◌, List, ℕ, ◌+◌, ◌≤◌, ◌<◌, length}
use Rattle.std.proofs.Common.{arith}
use Rattle.shape.specs.declared.Shape.{Shape}
use Rattle.shape.specs.Layout.{book_words, block_words, block_start}
use Rattle.laws.specs.Proper.{Proper}
use Rattle.laws.specs.BookWords.{block_start_fits, length-block_part}

-- the grade is one of a book of this shape
pub record InBook (s : Shape) (grade : ℕ) (ws : List ℕ) : Type 0 where
  pub proper : Proper s
  pub size : length ws ≡ book_words s
  pub inside : grade < s.g

-- the block of a grade lies within its book
pub block_within : {s : Shape} {grade : ℕ} {ws : List ℕ} → InBook s grade ws → block_start s grade + block_words s ≤ length ws
block_within {s} {grade} b = omega (arith, b.size, block_start_fits s grade b.inside)

-- for a `using` list, which takes no name with a dash
pub ruleset part_length = (length-block_part)
