-- SPECIFICATION 16.3: the number and the values of each case of what finding a day answers. Assumes nothing.
use Rattle.std.specs.Prelude.{Result, [], ◌∷◌}
use Rattle.shape.specs.Limits.{Reply, accepted}
use Rattle.model.specs.declared.Refusal.{Refusal}
use Rattle.model.specs.Reply.{reply_by}
use Rattle.days.specs.declared.Pair.{Pair}

abbrev pub found_of : Result Pair Refusal → Reply  -- the number, 0 where there is such a day, then its start and length
found_of = reply_by (λ pair. accepted (pair.start ∷ pair.length ∷ []))
