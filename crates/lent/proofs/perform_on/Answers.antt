-- The words that are lent come back in front of the others.
use mathlib.Core.Path.{sym, ap}
use mathlib.Core.List.{List, ◌++◌}
use Prim.Native.Nat.{ℕ}
use lib.ListN.{drop}
use lib.Seq.{length-take-le}
use Rattle.model.specs.Calls.{Outcome, outcome_of}
use Rattle.lent.specs.Lent.{perform_on}
use Rattle.lent.proofs.perform_on.Goals as goal

pub slice_bounds-perform-end-2 : goal.slice_bounds-perform-end-2
slice_bounds-perform-end-2 c =
    sym (length-take-le c.args.lent c.args.book.now c.requires)

pub returns : goal.returns
unfolding perform_on
returns c =
    ap (λ (o : Outcome (List ℕ)). outcome_of o.reply (o.left ++ drop c.args.lent c.args.book.now)) c.perform.ensures
