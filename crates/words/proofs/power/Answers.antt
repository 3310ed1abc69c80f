-- The shift loses no bit, since k is below 32.
use Rattle.std.proofs.Common.{arith}
use lib.Pow.{shl_exact}
use Rattle.words.proofs.power.Goals as goal

pub returns : goal.returns
returns c = omega (arith, shl_exact {a = 1} 1 c.args.k 32 (omega arith) (omega arith))
