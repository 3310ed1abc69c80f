-- The code computes the definition's own sum, which is below 2 ^ 62 for every grade.
use Rattle.std.proofs.Common.{◌≡◌, ◌+◌, ◌*◌, arith}
use Rattle.shape.specs.Layout.{block_start}
use Rattle.shape.specs.LayoutLaws.{block_start_bits}
use Rattle.shape.proofs.Shape.block_start.Goals as goal
use Rattle.shape.proofs.Shape.block_start.Goals.{After-block_len}

sum_is : (c : After-block_len) → 8 + c.args.grade * c.block_len.result ≡ block_start c.args.self c.args.grade
unfolding block_start
sum_is c = rw c.block_len.ensures

pub returns : goal.returns
returns c = sum_is (goal.at.returns c).After-block_len

pub overflow_add-result : goal.overflow_add-result
overflow_add-result c =
    let a = c.args in
    omega (arith, sum_is (goal.at.overflow_add-result c).After-block_len, block_start_bits a.self (omega arith) (omega arith) a.grade (omega arith))

pub overflow_mul-result : goal.overflow_mul-result
overflow_mul-result c =
    let a = c.args in
    omega (arith, sum_is (goal.at.overflow_mul-result c).After-block_len, block_start_bits a.self (omega arith) (omega arith) a.grade (omega arith))
