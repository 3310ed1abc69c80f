-- The match says whether the ground is given.
use mathlib.Core.List.{List}
use mathlib.Core.Path.{ap, ◌∙◌}
use Prim.Native.Nat.{ℕ}
use Rattle.capi.specs.ToldLaws.{told_given, told_refused}
use Rattle.capi.proofs.litres_ground.Goals as goal

pub returns-in-Ok : goal.returns-in-Ok
returns-in-Ok c =
    ap (λ (z : List ℕ). (0, z)) c.store.ensures ∙ told_given c.args.values.now c.ground.ensures c.in-Ok.g c.in-Ok.is

pub returns-in-Err : goal.returns-in-Err
returns-in-Err c =
    let held = c.args.values.now in
    ap (λ (n : ℕ). (n, held)) c.number.ensures ∙ told_refused held c.ground.ensures c.in-Err.why c.in-Err.is
