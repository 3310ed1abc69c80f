-- The definition too treats level 0 in one way and the other levels in another.
use Rattle.std.proofs.Common.{◌<◌, arith}
use Rattle.pass_laws.proofs.PassLaws.{one_upper}
use Rattle.pass.proofs.see_one.Goals as goal

pub returns-then-i-eq0 : goal.returns-then-i-eq0
returns-then-i-eq0 c = rw c.if-i-eq0.true c.see_single.ensures

pub returns : goal.returns
returns c =
    let a = c.args in
    let e = c.see_bucket.ensures in
    let upper : 0 < a.i = omega arith in
    rw (one_upper a.i a.least upper) (e.0, omega (arith, e.1), e.2)
