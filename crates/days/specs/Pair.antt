-- The pair of a day, as the code reads it. Assumes nothing.
use Rattle.std.specs.Prelude.{List, ℕ}
use Rattle.model.specs.Trace.{day_start, day_length}
use Rattle.days.specs.declared.Pair.{Pair}

abbrev pub pair_at : List ℕ → ℕ → Pair  -- SPECIFICATION 16.1: the pair of day j
pair_at trace j = record { start = day_start trace j; length = day_length trace j }
