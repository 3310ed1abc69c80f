-- Each arm is one case of the definition.
use Rattle.std.proofs.Common.{arith}
use borrow.Author.Tests.{ne_eqb}
use Rattle.days.specs.Kind.{kind_of}
use Rattle.days.proofs.kind_of.Goals as goal

pub returns-in-1 : goal.returns-in-1
unfolding kind_of
returns-in-1 c = rw c.in-1.is

pub returns-in-2 : goal.returns-in-2
unfolding kind_of
returns-in-2 c = rw c.in-2.is

pub returns-in-3 : goal.returns-in-3
unfolding kind_of
returns-in-3 c = rw c.in-3.is

pub returns-in_default : goal.returns-in_default
unfolding kind_of
returns-in_default c =
    let word = c.args.word in
    rw (ne_eqb word 1 (λ e. omega arith), ne_eqb word 2 (λ e. omega arith), ne_eqb word 3 (λ e. omega arith))
