-- SPECIFICATION 19.6: examples of merges, as tables that the definitions meet. Assumes nothing.
use Rattle.std.specs.Prelude.{Bool, true, false, ◌≡◌, refl, List, [], ◌∷◌, ◌++◌, map, ℕ, leb, length, get_or}
use Rattle.std.proofs.Common.{ap, arith, leb-true}
use Rattle.shape.specs.Limits.{Reply, accepted, refused, within}
use Rattle.shape.specs.LimitsLaws.{both}
use Rattle.shape.specs.Layout.{book_words, block_words, block_start, level_start}
use Rattle.model.specs.declared.Call.{Call}
use Rattle.model.specs.declared.Record.{Record}
use Rattle.model.specs.Level.{unit, insert}
use Rattle.model.specs.Block.{empty_half, deliver_half, deliver, advance, answer, window_sum}
use Rattle.model.specs.Words.{decode_level, decode_half, decode_block, encode_level, encode_block}
use Rattle.model.specs.Sound.{sound_head, sound_level, sound_half, sound_block, sound_book}
use Rattle.model.specs.Calls.{refusals, book_view, made, clocked, delivered, perform}
use Rattle.model.specs.Trace.{records_of, sound_record, call_of, sound_day, sound_trace}
use Rattle.model.specs.Replay.{replies_to}
use Rattle.model.specs.Claim.{Each}
use Rattle.model.specs.Merge.{AtClock, timed, firsts, seconds, climbs, unmarked, held_of, Merged, mergeable, merge_reply}
use Rattle.model.specs.Home.{only_day, clocks_met}
use Rattle.model.specs.TraceTable.{clock_only, made₀}

abbrev delivery_only : ℕ → ℕ → List ℕ  -- a delivery's record
delivery_only stamp volume = 2 ∷ 0 ∷ stamp ∷ volume ∷ []

abbrev query_only : ℕ → List ℕ  -- a question's record
query_only window = 3 ∷ 0 ∷ window ∷ 0 ∷ []

abbrev day_a : List ℕ  -- clocks 5, 5, 7, 7
day_a = clock_only 5 ++ query_only 1 ++ clock_only 7 ++ query_only 2

abbrev day_b : List ℕ  -- clocks 7, 7
day_b = clock_only 7 ++ delivery_only 6 9

-- ---- merged days

abbrev deal : List Bool → List AtClock → List AtClock → List (Bool × AtClock)  -- the records of two days, taken as the marks say
deal [] xs ys = []
deal (true ∷ marks) [] ys = []
deal (true ∷ marks) (x ∷ xs) ys = (true, x) ∷ deal marks xs ys
deal (false ∷ marks) xs [] = []
deal (false ∷ marks) xs (y ∷ ys) = (false, y) ∷ deal marks xs ys

abbrev dealt : List Bool → List (Bool × AtClock)
dealt marks = deal marks (timed 0 (records_of day_a)) (timed 0 (records_of day_b))

pub record Interleaving : Type 0 where  -- an order of the records of `day_a` and `day_b`, and whether its clocks never fall
  pub marks : List Bool
  pub clocks : List ℕ
  pub rises : Bool

abbrev pub MeetsOrder : Interleaving → Type 0
MeetsOrder e =
    (firsts (dealt e.marks) ≡ timed 0 (records_of day_a)) × (seconds (dealt e.marks) ≡ timed 0 (records_of day_b))
    × (map (λ t. t.clock) (unmarked (dealt e.marks)) ≡ e.clocks) × (climbs 0 (unmarked (dealt e.marks)) ≡ e.rises)

abbrev order : Bool → Bool → Bool → Bool → Bool → Bool → List ℕ → Bool → Interleaving
order u v w x y z clocks rises = record { marks = u ∷ v ∷ w ∷ x ∷ y ∷ z ∷ []; clocks = clocks; rises = rises }

abbrev fives_then_sevens : List ℕ
fives_then_sevens = 5 ∷ 5 ∷ 7 ∷ 7 ∷ 7 ∷ 7 ∷ []

abbrev pub orders : List Interleaving
orders =
    -- at clock 7 each order will do
    order true true true true false false fives_then_sevens true
    ∷ order true true true false true false fives_then_sevens true
    ∷ order true true true false false true fives_then_sevens true
    ∷ order true true false true true false fives_then_sevens true
    ∷ order true true false true false true fives_then_sevens true
    ∷ order true true false false true true fives_then_sevens true
    -- no merged day: B's clock of 7 before the question at clock 5; all of B before A
    ∷ order true false true true true false (5 ∷ 7 ∷ 5 ∷ 7 ∷ 7 ∷ 7 ∷ []) false
    ∷ order false false true true true true (7 ∷ 7 ∷ 5 ∷ 5 ∷ 7 ∷ 7 ∷ []) false
    ∷ []

pub orders_hold : Each MeetsOrder orders
orders_hold = ((refl, refl, refl, refl), ((refl, refl, refl, refl), ((refl, refl, refl, refl), ((refl, refl, refl, refl), ((refl, refl, refl, refl), ((refl, refl, refl, refl), ((refl, refl, refl, refl), ((refl, refl, refl, refl), tt))))))))

-- as words: the first day, then the second; and the second between the two halves of the first
pub first_then_second : Merged (records_of day_a) (records_of day_b) (records_of (day_a ++ day_b))
first_then_second = record { marked = dealt (true ∷ true ∷ true ∷ true ∷ false ∷ false ∷ []); first = refl; second = refl; rises = refl; all = refl }

pub second_between : Merged (records_of day_a) (records_of day_b) (records_of (clock_only 5 ++ query_only 1 ++ day_b ++ clock_only 7 ++ query_only 2))
second_between = record { marked = dealt (true ∷ true ∷ false ∷ false ∷ true ∷ true ∷ []); first = refl; second = refl; rises = refl; all = refl }

-- a question at clock 5 after the other day's clock of 7 is in no merged day, though the clock records do not fall
abbrev at_five : List Record
at_five = records_of (clock_only 5 ++ query_only 1)

abbrev at_seven : List Record
at_seven = records_of (clock_only 7)

abbrev exchanged : List Record
exchanged = records_of (clock_only 5 ++ clock_only 7 ++ query_only 1)

abbrev nth_clock : ℕ → List AtClock → ℕ
nth_clock i ts = get_or (map (λ t. t.clock) ts) i 0

abbrev nth_kind : ℕ → List Record → ℕ
nth_kind i rs = get_or (map (λ r. r.kind) rs) i 0

abbrev nth_first : ℕ → List Record → ℕ
nth_first i rs = get_or (map (λ r. r.first) rs) i 0

pub exchanged-is-none : Merged at_five at_seven exchanged → ⊥
exchanged-is-none m = go m.marked m.first m.second m.rises m.all
  where
    go : (ms : List (Bool × AtClock)) → firsts ms ≡ timed 0 at_five → seconds ms ≡ timed 0 at_seven → climbs 0 (unmarked ms) ≡ true → exchanged ≡ held_of (unmarked ms) → ⊥
    go [] f s r a = omega (arith, ap length a)
    go (x ∷ []) f s r a = omega (arith, ap length a)
    go (x ∷ y ∷ []) f s r a = omega (arith, ap length a)
    go (x ∷ y ∷ z ∷ w ∷ ms) f s r a = omega (arith, ap length a)
    go ((true, x) ∷ (true, y) ∷ (true, z) ∷ []) f s r a = omega (arith, ap length f)
    go ((true, x) ∷ (true, y) ∷ (false, z) ∷ []) f s r a = omega (arith, ap (λ ts. nth_kind 1 (held_of ts)) f, ap (nth_kind 1) a)
    go ((true, x) ∷ (false, y) ∷ (true, z) ∷ []) f s r a =
        let p = both {a = leb 0 x.clock} r in
        let q = both {a = leb x.clock y.clock} p.1 in
        omega (arith, leb-true y.clock z.clock (both {a = leb y.clock z.clock} q.1).0, ap (nth_clock 1) f, ap (nth_clock 0) s)
    go ((true, x) ∷ (false, y) ∷ (false, z) ∷ []) f s r a = omega (arith, ap length f)
    go ((false, x) ∷ (true, y) ∷ (true, z) ∷ []) f s r a = omega (arith, ap (λ ts. nth_first 0 (held_of ts)) s, ap (nth_first 0) a)
    go ((false, x) ∷ (true, y) ∷ (false, z) ∷ []) f s r a = omega (arith, ap length f)
    go ((false, x) ∷ (false, y) ∷ (true, z) ∷ []) f s r a = omega (arith, ap length f)
    go ((false, x) ∷ (false, y) ∷ (false, z) ∷ []) f s r a = omega (arith, ap length f)

-- ---- the clocks that records meet

-- the day of A, then B, on a book just made; at the end a delivery ahead of the clock, which is refused
abbrev ahead : List Call
ahead = map call_of (records_of (day_a ++ day_b ++ delivery_only 8 1))

pub clocks_met_lem : (clocks_met made₀ ahead ≡ 5 ∷ 5 ∷ 7 ∷ 7 ∷ 7 ∷ 7 ∷ 7 ∷ []) × (map (λ r. r.number) (replies_to made₀ ahead) ≡ 0 ∷ 0 ∷ 0 ∷ 0 ∷ 0 ∷ 0 ∷ 8 ∷ []) × (sound_book made₀ ≡ true)
unfolding sound_book call_of perform refusals book_view made clocked delivered sound_head sound_block sound_half sound_level within encode_block encode_level decode_block decode_half decode_level empty_half deliver deliver_half advance answer window_sum unit insert block_words book_words block_start level_start
clocks_met_lem = (refl, refl, refl)

-- ---- what a merge answers

pub record MergeExample : Type 0 where
  pub first : List ℕ
  pub i : ℕ
  pub second : List ℕ
  pub j : ℕ
  pub room : ℕ
  pub gives : Reply

abbrev pub MeetsReply : MergeExample → Type 0
MeetsReply e = merge_reply e.first e.i e.second e.j e.room ≡ e.gives

abbrev merge_of : List ℕ → ℕ → List ℕ → ℕ → ℕ → Reply → MergeExample
merge_of first i second j room gives = record { first = first; i = i; second = second; j = j; room = room; gives = gives }

abbrev only_days : List ℕ → List ℕ → ℕ → Reply → MergeExample  -- the only days of two traces
only_days xs ys room gives = merge_of (only_day xs) 0 (only_day ys) 0 room gives

abbrev falling : List ℕ  -- three days that may not be merged, each of which is sound
falling = clock_only 5 ++ clock_only 4

abbrev unopened : List ℕ
unopened = query_only 1 ++ clock_only 4

abbrev beyond : List ℕ
beyond = clock_only 2000000001

abbrev two_days : List ℕ  -- a day whose clocks fall, then `day_a`
two_days = 2 ∷ 5 ∷ 8 ∷ 13 ∷ 16 ∷ (falling ++ day_a)

abbrev unsound : List ℕ
unsound = only_day (4 ∷ 0 ∷ 0 ∷ 0 ∷ [])

abbrev pub replies : List MergeExample
replies =
    only_days day_a day_b 24 (accepted [])
    ∷ only_days day_b day_a 24 (accepted [])
    ∷ merge_of (only_day day_a) 0 (only_day day_a) 0 32 (accepted [])
    -- empty days
    ∷ only_days [] day_b 8 (accepted [])
    ∷ only_days day_a [] 16 (accepted [])
    ∷ only_days [] [] 0 (accepted [])
    -- equal clocks, the largest and the least clock; of a trace's days only the named one counts
    ∷ only_days (clock_only 5 ++ clock_only 5) (clock_only 5) 12 (accepted [])
    ∷ only_days (clock_only 2000000000) day_b 12 (accepted [])
    ∷ only_days (clock_only 0) day_b 12 (accepted [])
    ∷ merge_of two_days 1 (only_day day_b) 0 24 (accepted [])
    ∷ merge_of (only_day day_b) 0 two_days 1 24 (accepted [])
    -- 17: a word less, a word more, none
    ∷ only_days day_a day_b 23 (refused 17)
    ∷ only_days day_a day_b 25 (refused 17)
    ∷ only_days day_a day_b 0 (refused 17)
    ∷ only_days [] [] 1 (refused 17)
    -- 16 for either day: it does not open with a clock, its clocks fall, or pass the largest
    ∷ only_days unopened day_b 16 (refused 16)
    ∷ only_days day_a unopened 24 (refused 16)
    ∷ only_days (delivery_only 0 1) day_b 12 (refused 16)
    ∷ only_days falling day_b 16 (refused 16)
    ∷ only_days day_a falling 24 (refused 16)
    ∷ only_days beyond day_b 12 (refused 16)
    ∷ only_days day_a beyond 20 (refused 16)
    ∷ only_days (clock_only 5 ++ beyond) day_b 16 (refused 16)
    ∷ only_days (clock_only 5 ++ clock_only 7 ++ clock_only 6) day_b 20 (refused 16)
    ∷ only_days (clock_only 5 ++ query_only 1 ++ clock_only 4) day_b 20 (refused 16)
    ∷ merge_of two_days 0 (only_day day_b) 0 16 (refused 16)
    ∷ merge_of (only_day day_b) 0 two_days 0 16 (refused 16)
    -- 14 for either day, and 13 for either trace
    ∷ merge_of (only_day day_a) 1 (only_day day_b) 0 24 (refused 14)
    ∷ merge_of (only_day day_a) 0 (only_day day_b) 1 24 (refused 14)
    ∷ merge_of unsound 0 (only_day day_b) 0 12 (refused 13)
    ∷ merge_of (only_day day_a) 0 unsound 0 20 (refused 13)
    ∷ merge_of [] 0 [] 0 0 (refused 13)
    -- the order: 16 before 17, 14 before both, the second trace's 13 before the first one's 14
    ∷ only_days falling day_b 0 (refused 16)
    ∷ only_days day_a falling 0 (refused 16)
    ∷ merge_of (only_day falling) 0 (only_day day_b) 1 0 (refused 14)
    ∷ merge_of (only_day day_a) 1 unsound 0 0 (refused 13)
    ∷ []

pub replies_hold : Each MeetsReply replies
unfolding sound_record sound_day sound_trace mergeable
replies_hold = (refl, (refl, (refl, (refl, (refl, (refl, (refl, (refl, (refl, (refl, (refl, (refl, (refl, (refl, (refl, (refl, (refl, (refl, (refl, (refl, (refl, (refl, (refl, (refl, (refl, (refl, (refl, (refl, (refl, (refl, (refl, (refl, (refl, (refl, (refl, (refl, tt))))))))))))))))))))))))))))))))))))
