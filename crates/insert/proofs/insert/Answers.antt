-- Below F nothing changes. Otherwise the slot found is what level 0, or the loop, requires.
use mathlib.Core.Path.{sym}
use native.Mathlib.Omega.{arith}
use Rattle.model.specs.Words.{decode_level}
use Rattle.laws.specs.Splits.{single_splits}
use Rattle.insert.specs.Entry.{searchable, below, below_splits, splits_within, found, found_ready}
use Rattle.insert.proofs.insert.Goals as goal

pub returns-then-x-level : goal.returns-then-x-level
returns-then-x-level c =
    let o = c.requires in
    record { words = below o c.if-x-level.true; count = sym (below_splits o c.if-x-level.true); most = omega arith }

pub returns-then-i-eq0 : goal.returns-then-i-eq0
returns-then-i-eq0 c =
    let a = c.args in
    rw c.if-i-eq0.true (record { words = c.insert_single.ensures; count = sym (single_splits a.s.n a.x a.v (decode_level a.level.now)); most = omega arith })

pub find-j-requires : goal.find-j-requires
find-j-requires c = searchable c.requires

pub insert_splitting-requires : goal.insert_splitting-requires
insert_splitting-requires c =
    found_ready (found c.requires c.if-x-level.false c.find-j.ensures) (omega (arith, c.if-i-eq0.false))

pub returns : goal.returns
returns c =
    let done = c.insert_splitting.ensures in
    record { words = done.words; count = done.count; most = omega (arith, done.count, splits_within c.requires) }
