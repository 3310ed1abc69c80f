-- A replay of a day that was found: the part of a replay that follows the refusals of finding it. Assumes nothing.
use Rattle.std.specs.Prelude.{Bool, not, ltb, eqb}
use Rattle.std.proofs.Math.Bool.{true, false, cond}
use Rattle.std.proofs.Math.Path.{◌≡◌, refl}
use mathlib.Core.List.{List, [], ◌∷◌, ◌++◌, map}
use Prim.Native.Nat.{ℕ, ◌*◌, ◌≤◌, ◌<◌}
use Rattle.std.proofs.Common.{arith}
use Rattle.std.proofs.Math.ListN.{length}
use borrow.Author.Tests.{ne_eqb, lt-ltb, le-ltb}
use Rattle.shape.specs.Limits.{refused, accepted}
use Rattle.model.specs.declared.Call.{Call}
use Rattle.model.specs.Calls.{first_of}
use Rattle.model.specs.Trace.{records_of, call_of, day_count, day_part, sound_trace, day_refusals}
use Rattle.trace.specs.TraceLaws.{day_refusal}
use Rattle.model.specs.Replay.{left_by, replies_to, answer_words, with_answers, replay_refusals, replay_calls, Replayed, replay}

-- the calls of a day's words
abbrev pub day_calls : List ℕ → List Call
day_calls day = map call_of (records_of day)

unfoldable pub replay_part : List ℕ → List ℕ → List ℕ → Replayed
replay_part ws day answers =
    cond (ltb (length answers) (answer_words * length (records_of day)))
    (record { reply = refused 15; book = ws; answers = answers })
    (record { reply = accepted []; book = left_by ws (day_calls day); answers = with_answers (replies_to ws (day_calls day)) answers })

-- the two cases of a day that was found
module _ (ws day answers : List ℕ) where
  pub part_cramped : length answers < answer_words * length (records_of day) → record { reply = refused 15; book = ws; answers = answers } ≡ replay_part ws day answers
  unfolding replay_part
  part_cramped h = rw (lt-ltb (length answers) (answer_words * length (records_of day)) h)

  pub part_played : answer_words * length (records_of day) ≤ length answers
      → record { reply = accepted []; book = left_by ws (day_calls day); answers = with_answers (replies_to ws (day_calls day)) answers } ≡ replay_part ws day answers
  unfolding replay_part
  part_played h = rw (le-ltb (length answers) (answer_words * length (records_of day)) h)

-- a list of refusals that starts with one that holds
first_append : (rs more : List (Bool × ℕ)) → (first_of rs ≡ 0 → ⊥) → first_of (rs ++ more) ≡ first_of rs
first_append [] more h = absurd (h refl)
first_append ((true, n) ∷ rs) more h = refl
first_append ((false, n) ∷ rs) more h = first_append rs more h

module _ (ws trace : List ℕ) (day : ℕ) (answers : List ℕ) where
  abbrev small : Bool
  small = ltb (length answers) (answer_words * length (records_of (day_part trace day)))

  -- where the day is found, only the room for the answers is left to test
  found_first : day_refusal trace day ≡ 0 → first_of (replay_refusals trace day (length answers)) ≡ cond small 15 0
  found_first h = go (sound_trace trace) (ltb day (day_count trace)) h
    where
      go : (s t : Bool) → ◌≡◌ {A = ℕ} (cond (not s) 13 (cond (not t) 14 0)) 0 → ◌≡◌ {A = ℕ} (cond (not s) 13 (cond (not t) 14 (cond small 15 0))) (cond small 15 0)
      go true true e = refl
      go true false e = absurd (omega arith)
      go false t e = absurd (omega arith)

  pub replay_found : day_refusal trace day ≡ 0 → replay ws trace day answers ≡ replay_part ws (day_part trace day) answers
  unfolding replay replay_calls replay_part
  replay_found h = rw (found_first h) (go small)
    where
      go : (t : Bool) → ◌≡◌ {A = Replayed} (
          let n : ℕ = cond t 15 0 in
          let calls : List Call = cond (eqb n 0) (day_calls (day_part trace day)) [] in
          record { reply = cond (eqb n 0) (accepted []) (refused n); book = left_by ws calls; answers = with_answers (replies_to ws calls) answers })
          (cond t (record { reply = refused 15; book = ws; answers = answers })
          (record { reply = accepted []; book = left_by ws (day_calls (day_part trace day)); answers = with_answers (replies_to ws (day_calls (day_part trace day))) answers }))
      go true = refl
      go false = refl

  pub replay-refused : (day_refusal trace day ≡ 0 → ⊥) → replay ws trace day answers ≡ record { reply = refused (day_refusal trace day); book = ws; answers = answers }
  unfolding replay replay_calls
  replay-refused h = rw (first_append (day_refusals trace day) ((small, 15) ∷ []) h, ne_eqb (day_refusal trace day) 0 h)
