-- What a C caller gets of an outcome: SPECIFICATION 12. Assumes nothing.
use Rattle.std.specs.Prelude.{cond, List, ℕ, eqb, get_or}
use Rattle.shape.specs.Limits.{Reply}
use Rattle.model.specs.Calls.{Outcome}
use Rattle.model.specs.Replay.{Replayed}

abbrev pub code_of : Outcome (List ℕ) → ℕ × List ℕ  -- SPECIFICATION 12: the number of the reply, 0 where accepted, and the words afterwards
code_of o = (o.reply.number, o.left)

abbrev pub delivery_of : Outcome (List ℕ) → ℕ × List ℕ × ℕ  -- SPECIFICATION 12: the same, and the splits
delivery_of o = (o.reply.number, o.left, o.reply.splits)

abbrev pub sum_of : Reply → ℕ → ℕ × ℕ  -- SPECIFICATION 12: the number, and what the variable for the sum holds afterwards: the sum, or what it held before
sum_of r held = (r.number, get_or r.values 0 held)

abbrev pub ground_told : Reply → List ℕ → ℕ × List ℕ  -- SPECIFICATION 12: the number, and what the five places for a ground hold afterwards: its values, or what they held before
ground_told r held = (r.number, cond (eqb r.number 0) r.values held)

abbrev pub place_of : Reply → ℕ × ℕ × ℕ  -- SPECIFICATION 12: the number, and where a day starts and its length, both 0 where it is refused
place_of r = (r.number, get_or r.values 0 0, get_or r.values 1 0)

abbrev pub replay_of : Replayed → ℕ × List ℕ × List ℕ  -- SPECIFICATION 12: the number, and the words of the book and of the answers afterwards
replay_of r = (r.reply.number, r.book, r.answers)
