-- How large the products of the layout can become. Assumes nothing.
use Rattle.std.specs.Prelude.{ℕ, ◌+◌, ◌*◌, ◌^◌, ◌<◌}
use Rattle.std.proofs.Common.{le_of_lt, lt_of_le_of_lt, mul-le-mul_left, mul-lt-mul_of_pos_right, arith, pow_pos, pow-add}
use Rattle.shape.specs.declared.Shape.{Shape}
use Rattle.shape.specs.Layout.{level_words, block_words, block_start}

-- a number of i bits times a number of j bits has at most i + j bits
pub mul_bits : (i j : ℕ) {a b : ℕ} → a < 2 ^ i → b < 2 ^ j → a * b < 2 ^ (i + j)
mul_bits i j {a} ha hb =
    rw (pow-add 2 i j) (lt_of_le_of_lt (mul-le-mul_left a (le_of_lt hb)) (mul-lt-mul_of_pos_right ha (pow_pos j)))

-- a shape whose fields fit their types
module _ (s : Shape) (last : s.last < 2 ^ 8) (n : s.n < 2 ^ 16) where
  -- the length of a block has at most 29 bits
  pub block_words_bits : block_words s < 2 ^ 29
  unfolding block_words
  block_words_bits = omega (arith, mul_bits 10 18 {a = 2 * (s.last + 1)} {b = level_words s} (omega arith) (omega arith))

  -- where the block of a grade starts has at most 62 bits, if the grade has 32
  pub block_start_bits : (grade : ℕ) → grade < 2 ^ 32 → block_start s grade < 2 ^ 62
  unfolding block_start
  block_start_bits grade g = omega (arith, mul_bits 32 29 g block_words_bits)
