use mathlib.Core.Path.{◌≡◌}
use Prim.Native.Nat.{◌+◌}
use Rattle.merge_laws.specs.Merging.{Merging}
use Rattle.two_way.proofs.merge_records.Given as goal

abbrev pub invariant-loop-to : goal.invariant-loop-to
invariant-loop-to l =
    Merging l.a l.b l.p.first.count l.p.first.clock l.p.second.count l.p.second.clock l.out × (l.p.first.count + l.p.second.count ≡ l.to)
