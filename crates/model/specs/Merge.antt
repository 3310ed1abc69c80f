-- One day from two: the clock of a record, what a merged day is, what a merge answers. SPECIFICATION 19. Assumes nothing.
use Rattle.std.specs.Prelude.{Bool, true, cond, not, ◌&&◌, ◌≡◌, List, [], ◌∷◌, map, ℕ, ◌+◌, leb, ltb, eqb, length}
use Rattle.shape.specs.Limits.{Reply, number_only}
use Rattle.model.specs.declared.Record.{Record}
use Rattle.model.specs.Sound.{max_clock}
use Rattle.model.specs.Calls.{first_of}
use Rattle.model.specs.Trace.{clock_kind, records_of, sound_trace, day_count, day_part}

-- ---- the clocks of records

abbrev pub is_clock : Record → Bool  -- SPECIFICATION 19.1: a clock record
is_clock r = eqb r.kind clock_kind

abbrev pub clock_after : ℕ → Record → ℕ  -- SPECIFICATION 19.1: the clock of a record: that of the last clock record up to it; `before` is the clock of the record before
clock_after before r = cond (is_clock r) r.first before

pub record AtClock : Type 0 where  -- SPECIFICATION 19.1: a record with its clock
  pub clock : ℕ
  pub held : Record

abbrev pub timed : ℕ → List Record → List AtClock  -- SPECIFICATION 19.1: the records of a day with their clocks
timed before [] = []
timed before (r ∷ rs) = record { clock = clock_after before r; held = r } ∷ timed (clock_after before r) rs

-- ---- a merged day

abbrev pub firsts : List (Bool × AtClock) → List AtClock  -- SPECIFICATION 19.2: of marked records those of the first day, which are marked true
firsts [] = []
firsts (m ∷ ms) = cond m.0 (m.1 ∷ firsts ms) (firsts ms)

abbrev pub seconds : List (Bool × AtClock) → List AtClock  -- SPECIFICATION 19.2: those of the second day, which are marked false
seconds [] = []
seconds (m ∷ ms) = cond m.0 (seconds ms) (m.1 ∷ seconds ms)

abbrev pub climbs : ℕ → List AtClock → Bool  -- SPECIFICATION 19.2: clocks never fall, and none is below the given one
climbs before [] = true
climbs before (t ∷ ts) = leb before t.clock && climbs t.clock ts

abbrev pub unmarked : List (Bool × AtClock) → List AtClock  -- SPECIFICATION 19.2: the records without their marks
unmarked = map (λ m. m.1)

abbrev pub held_of : List AtClock → List Record  -- SPECIFICATION 19.2: the records without their clocks
held_of = map (λ t. t.held)

pub record Merged (xs ys out : List Record) : Type 0 where  -- SPECIFICATION 19.2: `out` is a merged day of two days; the order at equal clock is undecided
  pub marked : List (Bool × AtClock)  -- its records, each with its day and its clock at home
  pub first : firsts marked ≡ timed 0 xs  -- every record of the first day, in its order
  pub second : seconds marked ≡ timed 0 ys  -- and of the second
  pub rises : climbs 0 (unmarked marked) ≡ true
  pub all : out ≡ held_of (unmarked marked)  -- and nothing else

-- ---- a merge

abbrev pub opens_with_clock : List Record → Bool  -- SPECIFICATION 19.3: no records, or a clock record first
opens_with_clock [] = true
opens_with_clock (r ∷ rs) = is_clock r

abbrev pub orderly : ℕ → List Record → Bool  -- SPECIFICATION 19.3: no clock falls or passes the largest
orderly before [] = true
orderly before (r ∷ rs) = leb before (clock_after before r) && (leb (clock_after before r) max_clock && orderly (clock_after before r) rs)

unfoldable pub mergeable : List Record → Bool  -- SPECIFICATION 19.3: a day that may be merged
mergeable rs = opens_with_clock rs && orderly 0 rs

abbrev pub order_refusals : List ℕ → List ℕ → ℕ → List (Bool × ℕ)  -- SPECIFICATION 19.3: of the words of two days, with so many words for the output
order_refusals xs ys room =
    (not (mergeable (records_of xs)), 16) ∷ (not (mergeable (records_of ys)), 16) ∷ (not (eqb room (length xs + length ys)), 17) ∷ []

abbrev pub merge_refusals : List ℕ → ℕ → List ℕ → ℕ → ℕ → List (Bool × ℕ)  -- SPECIFICATION 19.3: of day i of trace a and day j of trace b, with so many words for the output
merge_refusals a i b j room =
    (not (sound_trace a), 13) ∷ (not (sound_trace b), 13) ∷ (not (ltb i (day_count a)), 14) ∷ (not (ltb j (day_count b)), 14)
    ∷ order_refusals (day_part a i) (day_part b j) room

abbrev pub merge_reply : List ℕ → ℕ → List ℕ → ℕ → ℕ → Reply  -- SPECIFICATION 19.4
merge_reply a i b j room = number_only (first_of (merge_refusals a i b j room))

pub record Merges (a : List ℕ) (i : ℕ) (b : List ℕ) (j : ℕ) (before : List ℕ) (reply : Reply) (after : List ℕ) : Type 0 where  -- SPECIFICATION 19.4: a merge answers this, and leaves these words of the output
  pub answer : reply ≡ merge_reply a i b j (length before)
  pub size : length after ≡ length before
  pub refused : (reply.number ≡ 0 → ⊥) → after ≡ before
  pub merged : reply.number ≡ 0 → Merged (records_of (day_part a i)) (records_of (day_part b j)) (records_of after)
