-- The code makes each test of the definition once.
use Rattle.std.proofs.Common.{◌≡◌, suc, ◌*◌, ◌^◌, arith, pow_mono}
use Rattle.std.proofs.Math.Bool.{and_assoc}
use Rattle.pass_laws.specs.Pass.{sound_seen}
use Rattle.pass.proofs.sound_seen.Goals as goal

pub overflow_mul-high : goal.overflow_mul-high
overflow_mul-high c = omega (arith, pow_mono {i = c.args.i} {j = 30} (omega arith))

pub returns : goal.returns
unfolding sound_seen
returns c =
    let double : 2 * c.power-high.result ≡ 2 ^ suc c.args.i = omega (arith, c.power-high.ensures) in
    simp (c.implied-ended.ensures, double, c.power-top.ensures, and_assoc)
