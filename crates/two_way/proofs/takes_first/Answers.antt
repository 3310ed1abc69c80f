-- Each way out of the tests is one case of the definition.
use borrow.Author.Tests.{le-leb, lt-leb}
use Rattle.merge_laws.specs.Merging.{first_next}
use Rattle.two_way.proofs.takes_first.Goals as goal

pub returns-then-a-i : goal.returns-then-a-i
unfolding first_next
returns-then-a-i c = rw (le-leb _ _ c.if-a-i.true)

pub returns-then-b-j : goal.returns-then-b-j
unfolding first_next
returns-then-b-j c = rw (lt-leb _ _ c.if-a-i.false, le-leb _ _ c.if-b-j.true)

pub returns : goal.returns
unfolding first_next
returns c =
    rw (lt-leb _ _ c.if-a-i.false, lt-leb _ _ c.if-b-j.false, c.clock_after.ensures, c.clock_after-2.ensures, c.record_at.ensures, c.record_at-2.ensures)
