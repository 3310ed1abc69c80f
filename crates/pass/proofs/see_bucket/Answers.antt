-- The code computes the definition field by field; the upper 16 bits of a weight are below 2 ^ 16.
use Rattle.std.proofs.Common.{◌+◌, ◌%◌, ◌^◌, ◌<◌, arith}
use Rattle.pass_laws.proofs.PassLaws.{less-is}
use Rattle.pass_laws.specs.Pass.{see_bucket}
use Rattle.pass.proofs.see_bucket.Goals as goal

pub overflow_add-result-2 : goal.overflow_add-result-2
overflow_add-result-2 c = omega (arith, c.requires.1)

pub returns : goal.returns
unfolding see_bucket
returns c =
    let w = c.args.b.width in
    let word : w < 2 ^ 32 = omega arith in (
      rw (c.below.ensures.0, c.spread.ensures, less-is ((w + 4294967295) % 4294967296) w (omega arith) (omega arith)),
      omega (arith, c.below.ensures.1),
      omega arith,
    )
