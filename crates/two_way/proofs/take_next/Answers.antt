-- The record that is written is the next of the merge.
use native.Mathlib.Omega.{arith}
use mathlib.Core.Path.{sym, ap, ◌∙◌}
use mathlib.Core.List.{◌++◌}
use Prim.Native.Nat.{◌+◌, ◌*◌}
use lib.ListN.{take}
use Rattle.model.specs.Trace.{record_words}
use Rattle.model.specs.declared.Record.{Record}
use Rattle.model.specs.Merge.{clock_after}
use Rattle.merge_laws.specs.FirstNamed.{record_part}
use Rattle.merge_laws.specs.Merging.{first-written, second_written, first_there, second_there, counts-add}
use Rattle.two_way.specs.declared.Taken.{Taken}
use Rattle.two_way.proofs.take_next.Goals as goal

-- how far a day is merged once a record is taken too
abbrev taken_past : Taken → Record → Taken
taken_past t r = record { count = t.count + 1; clock = clock_after t.clock r }

pub record_at-it-requires : goal.record_at-it-requires
record_at-it-requires c =
    let a = c.args in
    omega (arith, first_there a.a.now a.b.now a.p.first.count a.p.first.clock a.p.second.count a.p.second.clock (sym c.takes_first.ensures ∙ c.if-takes_first.true))

pub returns-then-takes_first : goal.returns-then-takes_first
returns-then-takes_first c =
    let a = c.args in
    let p = a.p in
    let is = c.record_at-it.ensures in (
      rw (c.past.ensures ∙ ap (taken_past p.first) is)
          (first-written a.a.now a.b.now p.first.count p.first.clock p.second.count p.second.clock a.out.now _ c.requires.0 c.put_record.auto.out
          (sym c.takes_first.ensures ∙ c.if-takes_first.true) (c.put_record.ensures ∙ ap (λ z. take (record_words * (p.first.count + p.second.count)) a.out.now ++ record_part z) is)),
      omega (arith, ap (λ (t : Taken). t.count) c.past.ensures),
    )

pub record_at-it-requires-2 : goal.record_at-it-requires-2
record_at-it-requires-2 c =
    let a = c.args in
    let m = c.requires.0 in
    omega (
      arith,
      second_there a.a.now a.b.now a.p.first.count a.p.first.clock a.p.second.count a.p.second.clock (sym c.takes_first.ensures ∙ c.if-takes_first.false)
          (omega (arith, c.requires.1, counts-add a.a.now a.b.now a.out.now m.first m.second m.size)) m.low,
    )

pub returns : goal.returns
returns c =
    let a = c.args in
    let p = a.p in
    let m = c.requires.0 in
    let is = c.record_at-it-2.ensures in (
      rw (c.past-2.ensures ∙ ap (taken_past p.second) is)
          (second_written a.a.now a.b.now p.first.count p.first.clock p.second.count p.second.clock a.out.now _ m c.put_record-2.auto.out
          (sym c.takes_first.ensures ∙ c.if-takes_first.false) (omega (arith, c.requires.1, counts-add a.a.now a.b.now a.out.now m.first m.second m.size))
          (c.put_record-2.ensures ∙ ap (λ z. take (record_words * (p.first.count + p.second.count)) a.out.now ++ record_part z) is)),
      omega (arith, ap (λ (t : Taken). t.count) c.past-2.ensures),
    )
