-- What a merged day is worth: replayed, each of its records meets the clock that it had at home. SPECIFICATION 19.5. Assumes nothing.
use Rattle.std.specs.Prelude.{true, ◌≡◌, List, [], ◌∷◌, map, ℕ, ◌*◌, ◌≤◌, length}
use Rattle.shape.specs.Limits.{Reply, accepted}
use Rattle.model.specs.declared.Call.{Call}
use Rattle.model.specs.declared.Record.{Record}
use Rattle.model.specs.Words.{clock_of}
use Rattle.model.specs.Sound.{sound_book}
use Rattle.model.specs.Calls.{perform}
use Rattle.model.specs.Trace.{records_of, call_of, sound_trace}
use Rattle.model.specs.Replay.{answer_words, replay_calls, replay}
use Rattle.model.specs.Claim.{ByCall}
use Rattle.model.specs.Merge.{clock_after, unmarked, Merges}

abbrev pub only_day : List ℕ → List ℕ  -- SPECIFICATION 19.5: the trace whose only day has these words; 2^32 words or more are no trace of 32-bit words, since no word holds their number
only_day day = 1 ∷ 3 ∷ length day ∷ day

abbrev pub NotPast : ℕ → List Record → Type 0  -- SPECIFICATION 19.5: a clock is at most the first one of a day, if it has a record
NotPast clock [] = Unit {0}
NotPast clock (r ∷ rs) = clock ≤ clock_after 0 r

abbrev pub clocks_met : List ℕ → List Call → List ℕ  -- SPECIFICATION 19.5: the clock that each call meets: the book's just after it, accepted or refused
clocks_met ws [] = []
clocks_met ws (call ∷ calls) = clock_of (perform ws call).left ∷ clocks_met (perform ws call).left calls

abbrev pub OwnClock : List ℕ → Call → Type 0  -- SPECIFICATION 19.5: a clock is accepted; a delivery and a question are judged at the clock that they meet
OwnClock ws call =
    let judged : Type 0 = clock_of ws ≡ clock_of (perform ws call).left in
    ByCall (Unit {0}) ((perform ws call).reply.number ≡ 0) (λ stamp. judged) (λ grade window. judged) call

abbrev pub ByOwnClocks : List ℕ → List Call → Type 0  -- SPECIFICATION 19.5: the same of each call, and each finds a sound book
ByOwnClocks ws [] = Unit {0}
ByOwnClocks ws (call ∷ calls) = (sound_book ws ≡ true) × OwnClock ws call × ByOwnClocks (perform ws call).left calls

pub record MeetsHome (ws day answers : List ℕ) (home : List ℕ) : Type 0 where  -- SPECIFICATION 19.5, a day replayed as a trace's only one, with these words for the answers; `home` has the clocks of its records
  pub sound : sound_trace (only_day day) ≡ true
  pub played : (replay ws (only_day day) 0 answers).reply ≡ accepted []
  pub calls : replay_calls (only_day day) 0 (length answers) ≡ map call_of (records_of day)
  pub met : clocks_met ws (map call_of (records_of day)) ≡ home
  pub own : ByOwnClocks ws (map call_of (records_of day))

unfoldable pub HomeClocks : Type 0  -- SPECIFICATION 19.5: of every output that an accepted merge may leave, on every sound book not past its first clock
HomeClocks = (a : List ℕ) (i : ℕ) (b : List ℕ) (j : ℕ) (before : List ℕ) (reply : Reply) (after : List ℕ) (merge : Merges a i b j before reply after) (done : reply.number ≡ 0)
    (ws : List ℕ) → sound_book ws ≡ true → NotPast (clock_of ws) (records_of after) → (answers : List ℕ) → answer_words * length (records_of after) ≤ length answers
    → MeetsHome ws after answers (map (λ t. t.clock) (unmarked (merge.merged done).marked))
