-- The word before the width is that of the definition.
use Rattle.std.proofs.Common.{◌+◌, ◌%◌, ◌^◌, ◌<◌, arith}
use Rattle.pass_laws.proofs.PassLaws.{less-is}
use Rattle.turns.proofs.fresh.Goals as goal

pub returns : goal.returns
returns c =
    let w = c.args.width in
    let word : w < 2 ^ 32 = omega arith in
    rw (less-is ((w + 4294967295) % 4294967296) w (omega arith) (omega arith))
