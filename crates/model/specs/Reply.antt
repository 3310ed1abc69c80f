-- SPECIFICATION 5.1: the number, the values and the splits of each case of the code's answer. Assumes nothing.
use Rattle.std.specs.Prelude.{Result, Ok, Err, [], ◌∷◌, ℕ}
use Rattle.shape.specs.Limits.{Reply, refused, accepted, splitting}
use Rattle.model.specs.declared.Refusal.{Refusal}
use Rattle.model.specs.declared.Refusal.TheVariants.{Shape, Length, Grade, Volume, Window, Limit, Head, Ahead, Late, Back, Block, Full, Trace, Day, Room, Order, Output}
use Rattle.model.specs.declared.Answer.{Answer}
use Rattle.model.specs.declared.Answer.TheVariants.{Done, Splits, Sum}

abbrev pub number_of : Refusal → ℕ  -- SPECIFICATION 6.2: the number of a refusal
number_of Shape = 1
number_of Length = 2
number_of Grade = 3
number_of Volume = 4
number_of Window = 5
number_of Limit = 6
number_of Head = 7
number_of Ahead = 8
number_of Late = 9
number_of Back = 10
number_of Block = 11
number_of Full = 12
number_of Trace = 13
number_of Day = 14
number_of Room = 15
number_of Order = 16
number_of Output = 17

-- the reply of a result: what an accepted call says, or the number of the refusal
unfoldable pub reply_by : {A : Type 0} → (A → Reply) → Result A Refusal → Reply
reply_by says (Ok a) = says a
reply_by says (Err why) = refused (number_of why)

-- what an accepted call says: nothing, the splits of a delivery, the sum of a question
abbrev pub answer_says : Answer → Reply
answer_says Done = accepted []
answer_says (Splits splits) = splitting splits
answer_says (Sum sum) = accepted (sum ∷ [])

-- the number, 0 where accepted; the sum of an answered question; the splits of an accepted delivery
abbrev pub reply_of : Result Answer Refusal → Reply
reply_of = reply_by answer_says

-- the same of one kind of call: a make, a clock, a replay or a merge; a delivery; a question
abbrev pub done_reply : Result (Unit {0}) Refusal → Reply
done_reply = reply_by (λ _. accepted [])

abbrev pub splits_reply : Result ℕ Refusal → Reply
splits_reply = reply_by splitting

abbrev pub sum_reply : Result ℕ Refusal → Reply
sum_reply = reply_by (λ sum. accepted (sum ∷ []))
