-- The copied part stands where `sets` puts it.
use Rattle.std.proofs.Common.{arith, ◌≡◌, ◌+◌, ◌-◌, length, append_assoc}
use Rattle.std.proofs.Math.Seq.{drop-drop}
use Rattle.std.proofs.lemmas.List.Edits.{sets-eq}
use Rattle.text.proofs.copy.Goals as goal

pub returns-clause-out_after : goal.returns-clause-out_after
returns-clause-out_after c =
    let a = c.args in
    let n : a.at + length a.text.now - a.at ≡ length a.text.now = omega arith in
    rw (n, c.copy_from_slice.ensures.after, sets-eq a.text.now a.out.now a.at (omega arith), append_assoc, drop-drop)
