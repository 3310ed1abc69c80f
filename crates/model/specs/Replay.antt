-- A day replayed on a book: its records as calls, one after another, and the words of their answers. SPECIFICATION 17. Assumes nothing.
use Rattle.std.specs.Prelude.{Bool, cond, List, [], ◌∷◌, ◌++◌, map, ℕ, ◌*◌, ltb, eqb, length, get_or, drop}
use Rattle.shape.specs.Limits.{Reply, number_only}
use Rattle.model.specs.declared.Call.{Call}
use Rattle.model.specs.Words.{join}
use Rattle.model.specs.Calls.{first_of, perform}
use Rattle.model.specs.Trace.{day_part, records_of, call_of, day_refusals}

abbrev pub left_by : List ℕ → List Call → List ℕ  -- SPECIFICATION 17.1: the words that calls leave, one after another
left_by ws [] = ws
left_by ws (call ∷ calls) = left_by (perform ws call).left calls

abbrev pub replies_to : List ℕ → List Call → List Reply  -- SPECIFICATION 17.1: the replies to them
replies_to ws [] = []
replies_to ws (call ∷ calls) = (perform ws call).reply ∷ replies_to (perform ws call).left calls

abbrev pub answer_words : ℕ  -- SPECIFICATION 17.1: the words of an answer
answer_words = 2

abbrev pub answer_part : Reply → List ℕ  -- SPECIFICATION 17.1: the number of the refusal or 0, the sum or 0
answer_part r = r.number ∷ get_or r.values 0 0 ∷ []

abbrev pub with_answers : List Reply → List ℕ → List ℕ  -- SPECIFICATION 17.1: the answers to these replies, and after them the words that were there
with_answers replies before = let answers = join (map answer_part replies) in answers ++ drop (length answers) before

abbrev pub replay_refusals : List ℕ → ℕ → ℕ → List (Bool × ℕ)  -- SPECIFICATION 17.2: those of finding the day, then room for fewer answers than records
replay_refusals trace day room = day_refusals trace day ++ (ltb room (answer_words * length (records_of (day_part trace day))), 15) ∷ []

unfoldable pub replay_calls : List ℕ → ℕ → ℕ → List Call  -- SPECIFICATION 17.1: the calls of the day's records; none where the replay is refused
replay_calls trace day room = cond (eqb (first_of (replay_refusals trace day room)) 0) (map call_of (records_of (day_part trace day))) []

pub record Replayed : Type 0 where  -- SPECIFICATION 17.1: the reply to a replay, and the words of the book and of the answers afterwards
  pub reply : Reply
  pub book : List ℕ
  pub answers : List ℕ

unfoldable pub replay : List ℕ → List ℕ → ℕ → List ℕ → Replayed  -- SPECIFICATION 17: a day of a trace on a book, with these words for the answers
replay ws trace day answers =
    let number = first_of (replay_refusals trace day (length answers)) in
    let calls = replay_calls trace day (length answers) in
    record {
      reply = number_only number;
      book = left_by ws calls;
      answers = with_answers (replies_to ws calls) answers;
    }
