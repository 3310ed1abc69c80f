-- Each test is one conjunct of `sound_level`.
use mathlib.Core.Bool.{Bool, true, false, ◌&&◌}
use Rattle.std.proofs.Math.Bool.{and_assoc}
use mathlib.Core.Path.{◌≡◌, refl, ap}
use lib.Dec.{leb, ltb, eqb}
use lib.ListN.{get_or, drop}
use borrow.Author.Tests.{le-leb, lt-leb}
use Rattle.model.specs.Words.{slots}
use Rattle.shape.specs.Layout.{slot_start}
use Rattle.model.specs.Sound.{zeros, implies, weight_of, sound_buckets, sound_level}
use Rattle.sound.proofs.sound_level.Goals as goal

-- the same tests in another order
regroup : (s a b c : Bool) → ((s && (a && b)) && c) ≡ (a && (b && (c && s)))
regroup true true true true = refl
regroup true true true false = refl
regroup true true false c = refl
regroup true false b c = refl
regroup false true true true = refl
regroup false true true false = refl
regroup false true false c = refl
regroup false false b c = refl

pub returns-then-n-count : goal.returns-then-n-count
unfolding sound_level
returns-then-n-count c = simp (lt-leb _ _ c.if-n-count.true)

pub returns : goal.returns
unfolding sound_level
returns c =
    let a = c.args in
    let ws = a.level.now in
    let count = get_or ws 0 0 in
    let first = get_or ws 1 0 in
    let bs = slots ws 0 count in
    let weight = weight_of bs in
    rw (
      and_assoc,
      c.implied.ensures,
      c.sound_buckets-right.ensures,
      c.is_zero-unused.ensures,
      le-leb count a.s.n c.if-n-count.false,
    )
    (ap (λ (t : Bool). zeros (drop (slot_start count) ws) && t)
    (regroup (sound_buckets a.s.k a.i first bs) (leb weight a.total) (implies (eqb first 0) (eqb weight a.total))
    (implies (ltb 0 first) (eqb count a.s.n))))
