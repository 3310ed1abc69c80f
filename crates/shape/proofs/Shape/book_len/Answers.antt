-- The code computes the definition's own sum, which is where the block of grade g would start and so is below 2 ^ 62.
use Rattle.std.proofs.Common.{◌≡◌, ◌+◌, ◌*◌, ◌<◌, ◌^◌, arith}
use Rattle.shape.specs.Layout.{book_words, block_start}
use Rattle.shape.specs.LayoutLaws.{block_start_bits}
use Rattle.shape.proofs.Shape.book_len.Goals as goal
use Rattle.shape.proofs.Shape.book_len.Goals.{After-block_len}

sum_is : (c : After-block_len) → 8 + c.args.self.g * c.block_len.result ≡ book_words c.args.self
unfolding book_words
sum_is c = rw c.block_len.ensures

small : (c : After-block_len) → 8 + c.args.self.g * c.block_len.result < 2 ^ 62
unfolding book_words block_start
small c =
    let s = c.args.self in
    omega (arith, sum_is c, block_start_bits s (omega arith) (omega arith) s.g (omega arith))

pub returns : goal.returns
returns c = sum_is (goal.at.returns c).After-block_len

pub overflow_add-result : goal.overflow_add-result
overflow_add-result c = omega (arith, small (goal.at.overflow_add-result c).After-block_len)

pub overflow_mul-result : goal.overflow_mul-result
overflow_mul-result c = omega (arith, small (goal.at.overflow_mul-result c).After-block_len)
