-- The slot is below `high`, so it exists.
use mathlib.Core.Path.{◌≡◌, ap, ◌∙◌}
use Prim.Native.Nat.{◌-◌}
use borrow.Author.Tests.{le-leb, lt-leb}
use Rattle.laws.specs.SlotOf.{end_of}
use Rattle.model.specs.Words.{slot}
use Rattle.scan.proofs.is_past.Goals as goal

pub returns-then-high-step : goal.returns-then-high-step
returns-then-high-step c = let a = c.args in rw (lt-leb a.step a.high c.if-high-step.true)

pub returns : goal.returns
returns c =
    let a = c.args in
    let here : c.end.result ≡ end_of (slot a.level.now (a.high - a.step)) = c.end.ensures ∙ ap end_of c.slot_at.ensures in
    rw (le-leb a.step a.high c.if-high-step.false, c.from.ensures, here)
