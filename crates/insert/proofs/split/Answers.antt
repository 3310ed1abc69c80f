-- What is read before the split gives the rest and the middle. Then the bucket is split, and the rest goes into the half that spans the
-- offset, if this half is still there.
use mathlib.Core.Path.{◌≡◌, ap, ◌∙◌}
use Prim.Native.Nat.{ℕ, suc, ◌+◌, ◌-◌, ◌*◌, ◌/◌, ◌<◌}
use native.Mathlib.Omega.{arith}
use Rattle.std.specs.Prelude.{Some}
use Rattle.model.specs.Level.{Bucket}
use Rattle.model.specs.Words.{slot}
use Rattle.insert.specs.Ready.{Ready, WasSplit, rest_same, rest_splits, next_upper, next_lower, lower_evicted}
use Rattle.insert.specs.Loop.{full, Continues}
use Rattle.insert.proofs.split.Goals as goal
use Rattle.insert.proofs.split.Goals.{After-split_at-up}

-- what is known after the split
was-split : (d : After-split_at-up)
    → let a = d.args in
    WasSplit a.n a.i a.x a.v a.j (d.from.result + a.v - 2 * d.from-2.result) a.level.now d.split_at-up.new.level d.split_at-up.result
was-split d =
    let fills = full d.args.i d.args.v (slot d.args.level.now d.args.j) d.requires.1 in
    record {
      ready_was = d.requires.0;
      long = fills.0;
      full = omega (arith, fills.1, ap (λ (b : Bucket). b.weight) d.slot_at-b.ensures);
      split = d.split_at-up.ensures;
    }

-- the half that spans x is in slot `to`, and takes the rest
goes : (d : After-split_at-up) (to : ℕ)
    → let a = d.args in
    let rest = d.from.result + a.v - 2 * d.from-2.result in
    let ws' = d.split_at-up.new.level in
    ((slot ws' to).width < (slot a.level.now a.j).width) × Ready a.n a.i a.x rest to ws'
    → Continues a.n a.i a.x a.v a.j a.level.now ws' (Some (record { rest = rest; slot = to }))
goes d to h =
    let a = was-split d in
    record {
      words = a.split.words;
      onward = record { part = a.full; same = rest_same a; count = rest_splits a; narrower = h.0; ready_next = h.1 };
    }

-- where the two halves meet
middle : (d : After-split_at-up) → (let s = slot d.args.level.now d.args.j in d.slot_at-b.result.offset + d.slot_at-b.result.width / 2 ≡ s.offset + s.width / 2)
middle d = ap (λ (b : Bucket). b.offset + b.width / 2) d.slot_at-b.ensures

pub returns-then-b-half : goal.returns-then-b-half
returns-then-b-half c =
    let d = (goal.at.returns-then-b-half c).After-split_at-up in
    goes d _ (next_upper (was-split d) (omega (arith, middle d, c.if-b-half.true)))

pub returns-then-up-eq0 : goal.returns-then-up-eq0
returns-then-up-eq0 c =
    let d = (goal.at.returns-then-up-eq0 c).After-split_at-up in
    let a = was-split d in
    let end = lower_evicted a (omega (arith, middle d, c.if-b-half.false)) c.if-up-eq0.true in
    record { words = a.split.words; onward = (end.0, rest_splits a ∙ ap suc end.1) }

pub returns : goal.returns
returns c =
    let d = (goal.at.returns c).After-split_at-up in
    goes d _ (next_lower (was-split d) (omega (arith, middle d, c.if-b-half.false)) (omega arith))
