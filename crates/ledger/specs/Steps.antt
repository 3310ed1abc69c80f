-- A list of calls and replays as the list of the calls that it counts as. Rests on the definitions alone.
use Rattle.std.specs.Prelude.{Bool, true, false, cond, not, ◌≡◌, refl, List, [], ◌∷◌, ◌++◌, map, ℕ, ◌*◌, ltb, eqb, length}
use Rattle.std.proofs.Common.{sym, ap, ◌∙◌}
use Rattle.shape.specs.Limits.{Reply, accepted, refused}
use Rattle.model.specs.declared.Call.{Call}
use Rattle.model.specs.Calls.{perform}
use Rattle.model.specs.Trace.{records_of, call_of, day_count, day_part, sound_trace, found_day}
use Rattle.model.specs.Replay.{left_by, replies_to, answer_words, with_answers, replay_calls, replay}
use Rattle.model.specs.Ledger.{Ledger, enter}
use Rattle.model.specs.Claim.{run_calls, ledger_by, Step, once, replayed, calls_of, leaves, run, AsTurns, EachAsTurns}

-- the calls of a list of steps
abbrev pub expand : List Step → List Call
expand [] = []
expand (step ∷ steps) = calls_of step ++ expand steps

-- calls as a list of steps
pub expand_once : (calls : List Call) → expand (map once calls) ≡ calls
expand_once [] = refl
expand_once (call ∷ calls) = ap (λ (z : List Call). call ∷ z) (expand_once calls)

-- a step leaves the words that its calls leave
leaves_calls : (ws : List ℕ) (step : Step) → leaves ws step ≡ left_by ws (calls_of step)
unfolding replay
leaves_calls ws (once call) = refl
leaves_calls ws (replayed trace day answers) = refl

run_calls_append : (ws : List ℕ) (l : Ledger) (cs ds : List Call) → run_calls ws l (cs ++ ds) ≡ run_calls ws l cs ++ run_calls (left_by ws cs) (ledger_by ws l cs) ds
unfolding run_calls
run_calls_append ws l [] ds = refl
run_calls_append ws l (c ∷ cs) ds = rw (run_calls_append (perform ws c).left (enter (length ws) l c).left cs ds)

-- a run is the run of the calls that its steps count as
pub run-expand : (ws : List ℕ) (l : Ledger) (steps : List Step) → run ws l steps ≡ run_calls ws l (expand steps)
unfolding run run_calls
run-expand ws l [] = refl
run-expand ws l (step ∷ steps) =
    rw (leaves_calls ws step, run-expand (left_by ws (calls_of step)) (ledger_by ws l (calls_of step)) steps, run_calls_append ws l (calls_of step) (expand steps))

-- the book's replies in a run of calls are those to the calls alone
run_calls-replies : (ws : List ℕ) (l : Ledger) (calls : List Call) → map (λ t. t.book) (run_calls ws l calls) ≡ replies_to ws calls
unfolding run_calls
run_calls-replies ws l [] = refl
run_calls-replies ws l (call ∷ calls) =
    ap (λ (z : List Reply). (perform ws call).reply ∷ z) (run_calls-replies (perform ws call).left (enter (length ws) l call).left calls)

-- and its calls are those
run_calls_calls : (ws : List ℕ) (l : Ledger) (calls : List Call) → map (λ t. t.call) (run_calls ws l calls) ≡ calls
unfolding run_calls
run_calls_calls ws l [] = refl
run_calls_calls ws l (call ∷ calls) = ap (λ (z : List Call). call ∷ z) (run_calls_calls (perform ws call).left (enter (length ws) l call).left calls)

-- an accepted replay runs the calls of the found day's records, a refused one none
replay_calls_lem : (ws trace : List ℕ) (day : ℕ) (answers : List ℕ)
    → replay_calls trace day (length answers) ≡ cond (eqb (replay ws trace day answers).reply.number 0) (map call_of (records_of (found_day trace day))) []
unfolding replay replay_calls found_day
replay_calls_lem ws trace day answers =
    go (sound_trace trace) (ltb day (day_count trace)) (ltb (length answers) (answer_words * length (records_of part)))
  where
    part : List ℕ
    part = day_part trace day

    first : Bool → Bool → ℕ → ℕ
    first sound there last = cond (not sound) 13 (cond (not there) 14 last)

    go : (sound there small : Bool)
        → cond (eqb (first sound there (cond small 15 0)) 0) (map call_of (records_of part)) []
        ≡ cond (eqb (cond (eqb (first sound there (cond small 15 0)) 0) (accepted []) (refused (first sound there (cond small 15 0)))).number 0)
        (map call_of (records_of (cond (eqb (first sound there 0) 0) part []))) []
    go true true true = refl
    go true true false = refl
    go true false small = refl
    go false there small = refl

as_turns : (ws : List ℕ) (l : Ledger) (step : Step) → AsTurns ws (run_calls ws l (calls_of step)) step
unfolding replay
as_turns ws l (once call) = tt
as_turns ws l (replayed trace day answers) =
    let calls : List Call = replay_calls trace day (length answers) in
    record {
      calls = run_calls_calls ws l calls ∙ replay_calls_lem ws trace day answers;
      writes = ap (λ (z : List Reply). with_answers z answers) (sym (run_calls-replies ws l calls));
    }

-- each replay is its turns
pub each_as_turns : (ws : List ℕ) (l : Ledger) (steps : List Step) → EachAsTurns ws l steps
each_as_turns ws l [] = tt
each_as_turns ws l (step ∷ steps) = (as_turns ws l step, each_as_turns (leaves ws step) (ledger_by ws l (calls_of step)) steps)
