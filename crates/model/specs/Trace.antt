-- A trace, in words of any length and content: its layout, its records as calls, and a day found. SPECIFICATION 16. Assumes nothing.
use Rattle.std.specs.Prelude.{Bool, true, cond, not, ◌&&◌, List, [], ◌∷◌, ℕ, zero, suc, ◌+◌, ◌*◌, ◌/◌, ◌%◌, leb, ltb, eqb, length, get_or, take, drop}
use Rattle.shape.specs.Limits.{Reply, accepted}
use Rattle.model.specs.declared.Call.{Call}
use Rattle.model.specs.declared.Call.TheVariants.{Clock, Delivery, Query}
use Rattle.model.specs.declared.Record.{Record}
use Rattle.model.specs.Block.{up_from}
use Rattle.model.specs.Sound.{all_from}
use Rattle.model.specs.Calls.{first_of, answered}

abbrev pub max_days : ℕ  -- SPECIFICATION 16.1: the most days of a trace
max_days = 64

abbrev pub record_words : ℕ  -- SPECIFICATION 16.2: the words of a record
record_words = 4

abbrev pub clock_kind : ℕ  -- SPECIFICATION 16.2: the kinds of record, of a clock, a delivery and a question
clock_kind = 1

abbrev pub delivery_kind : ℕ  -- SPECIFICATION 16.2
delivery_kind = 2

abbrev pub query_kind : ℕ  -- SPECIFICATION 16.2
query_kind = 3

-- ---- records

abbrev pub record_at : List ℕ → ℕ → Record  -- SPECIFICATION 16.2: record i of a day's words
record_at day i =
    let at = record_words * i in
    record { kind = get_or day at 0; first = get_or day (at + 1) 0; second = get_or day (at + 2) 0; third = get_or day (at + 3) 0 }

abbrev pub records_of : List ℕ → List Record  -- SPECIFICATION 16.2: the records of a day's words
records_of day = up_from (record_at day) 0 (length day / record_words)

unfoldable pub sound_record : Record → Bool  -- SPECIFICATION 16.2: one of the kinds, and zero where its call has no number
sound_record r =
    cond (eqb r.kind clock_kind) (eqb r.second 0 && eqb r.third 0)
    (cond (eqb r.kind delivery_kind) true
    (eqb r.kind query_kind && eqb r.third 0))

unfoldable pub call_of : Record → Call  -- SPECIFICATION 16.2: the call of a sound record
call_of r =
    cond (eqb r.kind clock_kind) (Clock r.first)
    (cond (eqb r.kind delivery_kind) (Delivery r.first r.second r.third)
    (Query r.first r.second))

unfoldable pub sound_day : List ℕ → Bool  -- SPECIFICATION 16.2: a day is whole records, each sound
sound_day day = eqb (length day % record_words) 0 && all_from (λ i. sound_record (record_at day i)) 0 (length day / record_words)

-- ---- layout

abbrev pub day_count : List ℕ → ℕ  -- SPECIFICATION 16.1: the count of days stands first
day_count trace = get_or trace 0 0

abbrev pub pair_start : ℕ → ℕ  -- SPECIFICATION 16.1: where the pair of day j stands; after the last pair the days begin
pair_start j = 1 + 2 * j

abbrev pub day_start : List ℕ → ℕ → ℕ  -- SPECIFICATION 16.1: the offset of day j: the word of the trace at which it starts
day_start trace j = get_or trace (pair_start j) 0

abbrev pub day_length : List ℕ → ℕ → ℕ  -- SPECIFICATION 16.1: the length of day j, in words
day_length trace j = get_or trace (pair_start j + 1) 0

abbrev pub day_part : List ℕ → ℕ → List ℕ  -- SPECIFICATION 16.1: the words of day j
day_part trace j = take (day_length trace j) (drop (day_start trace j) trace)

abbrev pub laid : List ℕ → ℕ → ℕ → ℕ → Bool  -- SPECIFICATION 16.1: the c days from day j on lie end to end, from word `at` to the end of the trace
laid trace at j zero = eqb at (length trace)
laid trace at j (suc c) = eqb (day_start trace j) at && laid trace (at + day_length trace j) (suc j) c

unfoldable pub sound_trace : List ℕ → Bool  -- SPECIFICATION 16.1: some words, at most 64 days, laid end to end after the pairs, each of them sound
sound_trace trace =
    let days = day_count trace in
    ltb 0 (length trace) && (leb days max_days && (laid trace (pair_start days) 0 days && all_from (λ j. sound_day (day_part trace j)) 0 days))

-- ---- finding a day

abbrev pub day_refusals : List ℕ → ℕ → List (Bool × ℕ)  -- SPECIFICATION 16.3: an unsound trace, then no such day
day_refusals trace day = (not (sound_trace trace), 13) ∷ (not (ltb day (day_count trace)), 14) ∷ []

unfoldable pub day_reply : List ℕ → ℕ → Reply  -- SPECIFICATION 16.3: where the day starts and its length, or the refusal
day_reply trace day = answered (day_refusals trace day) (accepted (day_start trace day ∷ day_length trace day ∷ []))

unfoldable pub found_day : List ℕ → ℕ → List ℕ  -- SPECIFICATION 16.3: that part of the trace, an empty one where it is refused
found_day trace day = cond (eqb (first_of (day_refusals trace day)) 0) (day_part trace day) []
