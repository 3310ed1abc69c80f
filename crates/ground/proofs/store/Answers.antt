-- Each of the five values stands in its place.
use mathlib.Core.List.{List, ◌∷◌}
use mathlib.Core.Path.{ap}
use Prim.Native.Nat.{ℕ}
use Rattle.ground.specs.Reads.{finer_two}
use Rattle.ground.proofs.store.Goals as goal

pub returns : goal.returns
returns c =
    rw (c.from.ensures, c.finer_values.ensures)
    (ap (λ (z : List ℕ). c.args.g.sum ∷ c.args.g.level ∷ c.args.g.limit ∷ z) (finer_two c.args.g.finer))
