-- Words written and records left make up the whole merge.
use native.Mathlib.Omega.{arith}
use mathlib.Core.Path.{refl}
use Rattle.merge_laws.specs.Merging.{merging_start, merging_end}
use Rattle.two_way.proofs.merge_records.Goals as goal

pub loop-to-init : goal.loop-to-init
loop-to-init c =
    (merging_start c.args.a.now c.args.b.now c.args.out.now c.requires.0 c.requires.1 c.requires.2, refl)

pub loop-to-preserved : goal.loop-to-preserved
loop-to-preserved c =
    let step = c.take_next-p.ensures.1 in
    (c.take_next-p.ensures.0, omega (arith, step, c.loop-to.invariant.1))

pub returns : goal.returns
returns c =
    let a = c.args in
    let p = c.loop-to.p in
    merging_end a.a.now a.b.now p.first.count p.first.clock p.second.count p.second.clock c.loop-to.out c.loop-to.invariant.0
    (omega (arith, c.loop-to-test.false, c.loop-to.invariant.1))
