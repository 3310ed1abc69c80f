-- How the loop over a day's records goes: what is done and what is left give the whole replay. Assumes nothing.
use Rattle.std.specs.Prelude.{◌≡◌, refl, List, [], ◌∷◌, ◌++◌, map, ℕ, ◌+◌, ◌*◌, ◌≤◌, ◌<◌, length, get_or, take, drop, set}
use Rattle.std.proofs.Common.{sym, ap, ◌∙◌, append_assoc, append-nil, arith, take-append-drop, drop-set-lt, length-take-le, drop-drop}
use Rattle.model.specs.declared.Call.{Call}
use Rattle.model.specs.Words.{join}
use Rattle.model.specs.Calls.{perform}
use Rattle.model.specs.Trace.{record_at, call_of}
use Rattle.model.specs.Replay.{left_by, replies_to, answer_words, answer_part, with_answers}
use Rattle.days.specs.Records.{record_count, records_from, records_from-start, records_from_step, records_from_end, take-two}
use Rattle.replay.specs.Part.{day_calls}

-- two words written leave those after them
drop-answer : (ws : List ℕ) (to x y : ℕ) → drop (to + 2) (set (set ws to x) (to + 1) y) ≡ drop (to + 2) ws
drop-answer ws to x y = drop-set-lt (to + 2) (set ws to x) (to + 1) y (omega arith) ∙ drop-set-lt (to + 2) ws to x (omega arith)

-- the calls of the records from record i on
abbrev pub calls_from : List ℕ → ℕ → List Call
calls_from day i = map call_of (records_from day i)

-- the words of the answers to calls
abbrev answers_to : List ℕ → List Call → List ℕ
answers_to ws calls = join (map answer_part (replies_to ws calls))

calls_from-start : (day : List ℕ) → calls_from day 0 ≡ day_calls day
calls_from-start day = ap (map call_of) (records_from-start day)

module _ (day : List ℕ) (i : ℕ) where
  calls_from_step : i < record_count day → calls_from day i ≡ call_of (record_at day i) ∷ calls_from day (i + 1)
  calls_from_step h = ap (map call_of) (records_from_step day i h)

  calls_from_end : record_count day ≤ i → calls_from day i ≡ []
  calls_from_end h = ap (map call_of) (records_from_end day i h)

-- book and answers at record i, and what is left to play, give the whole replay; the words past the answers are as they were
pub record Played (book₀ day answers₀ : List ℕ) (i : ℕ) (book answers : List ℕ) : Type 0 where
  pub leaves : left_by book (calls_from day i) ≡ left_by book₀ (day_calls day)
  pub told : take (answer_words * i) answers ++ answers_to book (calls_from day i) ≡ answers_to book₀ (day_calls day)
  pub kept : drop (answer_words * i) answers ≡ drop (answer_words * i) answers₀

pub played_start : (book day answers : List ℕ) → Played book day answers 0 book answers
played_start book day answers = record {
  leaves = ap (left_by book) (calls_from-start day);
  told = ap (answers_to book) (calls_from-start day);
  kept = refl;
}

module _ (book₀ day answers₀ : List ℕ) (i : ℕ) (book answers : List ℕ) (p : Played book₀ day answers₀ i book answers) where
  abbrev call : Call
  call = call_of (record_at day i)

  abbrev to : ℕ
  to = answer_words * i

  abbrev number : ℕ
  number = (perform book call).reply.number

  abbrev sum : ℕ
  sum = get_or (perform book call).reply.values 0 0

  pub played_step : i < record_count day → to + answer_words ≤ length answers
      → Played book₀ day answers₀ (i + 1) (perform book call).left (set (set answers to number) (to + 1) sum)
  played_step more room =
      let here = calls_from_step day i more in
      let next : answer_words * (i + 1) ≡ to + 2 = omega arith in
      record {
        leaves = rw here at p.leaves;
        told = rw (next, take-two answers to number sum room, append_assoc (take to answers) (number ∷ sum ∷ [])) (rw here at p.told);
        kept = rw next (drop-answer answers to number sum ∙ sym (drop-drop 2 to answers) ∙ ap (drop 2) p.kept ∙ drop-drop 2 to answers₀);
      }

  pub played_end : record_count day ≤ i → to ≤ length answers
      → (book ≡ left_by book₀ (day_calls day)) × (answers ≡ with_answers (replies_to book₀ (day_calls day)) answers₀)
  played_end none room =
      let over : calls_from day i ≡ [] = calls_from_end day i none in
      let words : take to answers ≡ answers_to book₀ (day_calls day) = sym (append-nil (take to answers)) ∙ rw over at p.told in
      let size : length (answers_to book₀ (day_calls day)) ≡ to = sym (ap length words) ∙ length-take-le to answers room in
      (rw over at p.leaves, sym (take-append-drop to answers) ∙ rw (words, size, p.kept))
