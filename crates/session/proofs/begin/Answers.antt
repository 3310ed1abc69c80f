-- The buffer is all zero, and all of it is lent.
use Rattle.session.specs.SessionLaws.{start-initial}
use Rattle.session.proofs.begin.Goals as goal

pub returns-clause-bench : goal.returns-clause-bench
returns-clause-bench c = λ out. start-initial c.args.book.now out c.requires
