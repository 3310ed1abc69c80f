-- The code computes the definition field by field.
use Rattle.std.proofs.Common.{◌+◌, ◌-◌, ◌%◌, ◌^◌, ◌<◌, arith}
use Rattle.quick_laws.specs.Quick.{quick_bucket}
use Rattle.pass_laws.proofs.PassLaws.{less-is}
use Rattle.quick_laws.proofs.QuickLaws.{above-is}
use Rattle.row.proofs.quick_bucket.Goals as goal

pub returns : goal.returns
unfolding quick_bucket
returns c =
    let w = c.args.b.width in
    let x = c.args.b.weight in
    let y = c.args.least in
    let width : w < 2 ^ 32 = omega arith in
    let weight : x < 2 ^ 32 = omega arith in
    let word : y < 2 ^ 32 = omega arith in
    rw (
      c.mask.ensures,
      above-is ((x + (4294967296 - y)) % 4294967296) x y (omega arith) word (omega arith),
      less-is ((w + 4294967295) % 4294967296) w (omega arith) (omega arith),
    )
