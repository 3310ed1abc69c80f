use mathlib.Core.Path.{◌≡◌, refl, ◌∙◌}
use Prim.Native.Nat.{◌≤◌}
use native.Mathlib.Omega.{arith}
use lib.ListN.{length, drop_of_length-le}
use Rattle.sound.specs.Zeros.{zeros-four}
use Rattle.sound.proofs.joined.Goals as goal

pub loop-at-init : goal.loop-at-init
loop-at-init c = refl

pub loop-at-preserved : goal.loop-at-preserved
loop-at-preserved c =
    let a = c.args in
    zeros-four a.a.now a.b.now a.c.now a.d.now c.loop-at.all c.loop-at.at (omega arith) (omega arith) (omega arith) (omega arith) ∙ c.loop-at.invariant

pub returns : goal.returns
returns c =
    let g = c.args in
    let same : c.loop-at.at ≡ length g.a.now = omega arith in
    let none : length g.a.now ≤ length g.a.now = omega arith in
    let none-two : length g.b.now ≤ length g.a.now = omega arith in
    let none-three : length g.c.now ≤ length g.a.now = omega arith in
    rw (drop_of_length-le g.a.now none, drop_of_length-le g.b.now none-two, drop_of_length-le g.c.now none-three) at (rw same at c.loop-at.invariant)
