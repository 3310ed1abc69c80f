-- Storing the upper half and putting the lower half in before it leaves the two halves.
use mathlib.Core.Path.{ap}
use native.Mathlib.Omega.{arith}
use Rattle.model.specs.Level.{Bucket}
use Rattle.buckets.specs.Steps.{stored_takes, stored_count, split_becomes}
use Rattle.buckets.proofs.split_at.Goals as goal

pub put_at-requires : goal.put_at-requires
put_at-requires c =
    let a = c.args in
    let stored = c.put_slot.ensures in (
      stored_takes a.j a.level.now _ stored c.requires.0,
      omega (arith, ap (λ (b : Bucket). b.offset) c.slot_at.ensures),
      λ _. omega (arith, stored_count a.j a.level.now _ stored),
    )

pub returns : goal.returns
returns c =
    let at = ap (λ (b : Bucket). b.offset) c.slot_at.ensures in
    split_becomes c.requires.2 (rw at at c.put_slot.ensures) (rw at at c.put_at.ensures) cc
