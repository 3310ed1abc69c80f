-- The number is that of the reply, which has nothing else.
use Rattle.merge_laws.specs.AcceptedMerge.{merge_told}
use Rattle.capi.proofs.litres_merge.Goals as goal

pub returns : goal.returns
returns c =
    let a = c.args in
    merge_told a.first.now a.i a.second.now a.j a.out.now _ _ c.merge.ensures _ c.answer_number.ensures
