-- The slot found has the bucket of x, which gains v, or a bucket for x is put in before it.
use mathlib.Core.Path.{◌∙◌}
use native.Mathlib.Omega.{arith}
use Rattle.insert.specs.Entry.{searchable, small, found, found_takes, gains, makes}
use Rattle.insert.proofs.insert_single.Goals as goal

pub find-j-requires : goal.find-j-requires
find-j-requires c = searchable c.requires.0

pub is_at-requires : goal.is_at-requires
is_at-requires c =
    let takes = found_takes (found c.requires.0 c.requires.1 c.find-j.ensures) in
    omega arith

pub gain-requires : goal.gain-requires
gain-requires c =
    let e = found c.requires.0 c.requires.1 c.find-j.ensures in
    let takes = found_takes e in
    let at = c.is_at.ensures.yes c.if-is_at.true in
    (omega arith, (gains e at.0 at.1).0)

pub returns-then-is_at : goal.returns-then-is_at
returns-then-is_at c =
    let at = c.is_at.ensures.yes c.if-is_at.true in
    c.gain.ensures ∙ (gains (found c.requires.0 c.requires.1 c.find-j.ensures) at.0 at.1).1

pub put_at-requires : goal.put_at-requires
put_at-requires c =
    (found_takes (found c.requires.0 c.requires.1 c.find-j.ensures), omega (arith, small c.requires.0), λ h. absurd (omega arith))

pub returns : goal.returns
returns c =
    makes (found c.requires.0 c.requires.1 c.find-j.ensures) (c.is_at.ensures.no c.if-is_at.false) c.put_at.ensures
