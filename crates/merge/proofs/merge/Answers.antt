-- The merge that takes the first-named trace first is one that the caller is promised.
use Rattle.merge_laws.specs.FirstNamed.{first_merges}
use Rattle.merge.proofs.merge.Goals as goal

pub returns : goal.returns
returns c =
    let a = c.args in
    first_merges a.first.now a.i a.second.now a.j a.out.now _ _ c.merge_first.ensures c.merge_first.auto.out
