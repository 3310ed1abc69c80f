-- The merged day that takes the first-named trace first at equal clock, which is the one that the code writes. Private: a caller is promised
-- a merged day and no more. Assumes nothing.
use Rattle.std.specs.Prelude.{Bool, true, false, cond, not, ◌&&◌, ◌≡◌, refl, ℕ, zero, suc, ◌+◌, ◌*◌, ◌/◌, leb, ltb, eqb, length}
use Rattle.std.proofs.Common.{sym, ap₂, ◌∙◌, ⊎_elim, arith, leb-false, le-leb, eq-eqb, ne_eqb}
use Rattle.std.proofs.Math.Path.{ap, subst}
use mathlib.Core.List.{List, [], ◌∷◌, ◌++◌, map}
use Rattle.shape.specs.Limits.{Reply, accepted, refused}
use Rattle.shape.specs.LimitsLaws.{both}
use Rattle.model.specs.declared.Record.{Record}
use Rattle.model.specs.Block.{up_from}
use Rattle.model.specs.Words.{join}
use Rattle.model.specs.Calls.{first_of, Outcome, outcome_of, settle}
use Rattle.model.specs.Trace.{record_words, record_at, records_of, day_count, day_part, sound_trace}
use Rattle.model.specs.Merge.{AtClock, timed, firsts, seconds, climbs, unmarked, held_of, Merged, mergeable, order_refusals, merge_refusals, Merges}
use Rattle.laws.specs.Cond.{and-true, eq_or_ne}
use Rattle.laws.specs.Refusals.{settle-accepted, settle-refused}
use Rattle.merge_laws.specs.AcceptedMerge.{accepted_merge}
use Rattle.merge_laws.specs.MergedDay.{mergeable-climbs}

-- ---- the definition

abbrev pub merge_before : AtClock → (List AtClock → List (Bool × AtClock)) → List AtClock → List (Bool × AtClock)  -- x and then the rest of its day; of the second day's records those of an earlier clock stand before x
merge_before x rest [] = (true, x) ∷ rest []
merge_before x rest (y ∷ ys) = cond (leb x.clock y.clock) ((true, x) ∷ rest (y ∷ ys)) ((false, y) ∷ merge_before x rest ys)

abbrev pub merge_timed : List AtClock → List AtClock → List (Bool × AtClock)
merge_timed [] ys = map (λ y. (false, y)) ys
merge_timed (x ∷ xs) ys = merge_before x (merge_timed xs) ys

abbrev pub record_part : Record → List ℕ  -- the words of a record
record_part r = r.kind ∷ r.first ∷ r.second ∷ r.third ∷ []

abbrev pub merge_part : List AtClock → List AtClock → List ℕ  -- the words of what is left of two days
merge_part xs ys = join (map record_part (held_of (unmarked (merge_timed xs ys))))

unfoldable pub merged_words : List ℕ → List ℕ → List ℕ  -- the words of two days merged
merged_words a b = merge_part (timed 0 (records_of a)) (timed 0 (records_of b))

unfoldable pub merge_days : List ℕ → List ℕ → List ℕ → Outcome (List ℕ)  -- a merge of two days that are found: the part that follows the refusals of finding them
merge_days xs ys before = settle (order_refusals xs ys (length before)) before (outcome_of (accepted []) (merged_words xs ys))

unfoldable pub merge_first : List ℕ → ℕ → List ℕ → ℕ → List ℕ → Outcome (List ℕ)  -- a merge: its reply, and the words of the output afterwards
merge_first a i b j before =
    settle (merge_refusals a i b j (length before)) before (outcome_of (accepted []) (merged_words (day_part a i) (day_part b j)))

-- ---- by the code's tests, each of which is made of both sides

both_first : (a b : Bool) (n rest : ℕ) → cond (not a) n (cond (not b) n rest) ≡ cond (not (a && b)) n rest
both_first true b n rest = refl
both_first false b n rest = refl

module _ (a : List ℕ) (i : ℕ) (b : List ℕ) (j : ℕ) (before : List ℕ) where
  abbrev both_sound : Bool
  both_sound = sound_trace a && sound_trace b

  abbrev both_there : Bool
  both_there = ltb i (day_count a) && ltb j (day_count b)

  pub unsound_merge : both_sound ≡ false → outcome_of (refused 13) before ≡ merge_first a i b j before
  unfolding merge_first
  unsound_merge h = rw (both_first (sound_trace a) (sound_trace b), h)

  pub missing_merge : both_sound ≡ true → both_there ≡ false → outcome_of (refused 14) before ≡ merge_first a i b j before
  unfolding merge_first
  missing_merge h g = rw (both_first (sound_trace a) (sound_trace b), h, both_first (ltb i (day_count a)) (ltb j (day_count b)), g)

  pub found_merge : both_sound ≡ true → both_there ≡ true → merge_days (day_part a i) (day_part b j) before ≡ merge_first a i b j before
  unfolding merge_first merge_days
  found_merge h g = rw (both_first (sound_trace a) (sound_trace b), h, both_first (ltb i (day_count a)) (ltb j (day_count b)), g)

module _ (xs ys before : List ℕ) where
  abbrev both_ordered : Bool
  both_ordered = mergeable (records_of xs) && mergeable (records_of ys)

  abbrev fitting : Bool
  fitting = eqb (length before) (length xs + length ys)

  pub unordered_days : both_ordered ≡ false → outcome_of (refused 16) before ≡ merge_days xs ys before
  unfolding merge_days
  unordered_days h = rw (both_first (mergeable (records_of xs)) (mergeable (records_of ys)), h)

  pub other_length : both_ordered ≡ true → fitting ≡ false → outcome_of (refused 17) before ≡ merge_days xs ys before
  unfolding merge_days
  other_length h g = rw (both_first (mergeable (records_of xs)) (mergeable (records_of ys)), h, g)

  pub days_merged : both_ordered ≡ true → fitting ≡ true → outcome_of (accepted []) (merged_words xs ys) ≡ merge_days xs ys before
  unfolding merge_days
  days_merged h g = rw (both_first (mergeable (records_of xs)) (mergeable (records_of ys)), h, g)

-- ---- both days are there, each in its order

firsts_second : (ys : List AtClock) → firsts (map (λ y. (false, y)) ys) ≡ []
firsts_second [] = refl
firsts_second (y ∷ ys) = firsts_second ys

seconds_second : (ys : List AtClock) → seconds (map (λ y. (false, y)) ys) ≡ ys
seconds_second [] = refl
seconds_second (y ∷ ys) = ap (λ (z : List AtClock). y ∷ z) (seconds_second ys)

abbrev KeepsBoth : List AtClock → (List AtClock → List (Bool × AtClock)) → Type 0
KeepsBoth xs merge = (ys : List AtClock) → (firsts (merge ys) ≡ xs) × (seconds (merge ys) ≡ ys)

before_parts : (x : AtClock) (xs : List AtClock) (rest : List AtClock → List (Bool × AtClock)) → KeepsBoth xs rest → KeepsBoth (x ∷ xs) (merge_before x rest)
before_parts x xs rest parts [] = let r = parts [] in (ap (λ (z : List AtClock). x ∷ z) r.0, r.1)
before_parts x xs rest parts (y ∷ ys) = go (leb x.clock y.clock) (parts (y ∷ ys)) (before_parts x xs rest parts ys)
  where
    go : (t : Bool) → (firsts (rest (y ∷ ys)) ≡ xs) × (seconds (rest (y ∷ ys)) ≡ y ∷ ys) → (firsts (merge_before x rest ys) ≡ x ∷ xs) × (seconds (merge_before x rest ys) ≡ ys)
        → let m = cond t ((true, x) ∷ rest (y ∷ ys)) ((false, y) ∷ merge_before x rest ys) in (firsts m ≡ x ∷ xs) × (seconds m ≡ y ∷ ys)
    go true r q = (ap (λ (z : List AtClock). x ∷ z) r.0, r.1)
    go false r q = (q.0, ap (λ (z : List AtClock). y ∷ z) q.1)

merge_parts : (xs : List AtClock) → KeepsBoth xs (merge_timed xs)
merge_parts [] ys = (firsts_second ys, seconds_second ys)
merge_parts (x ∷ xs) ys = before_parts x xs (merge_timed xs) (merge_parts xs) ys

-- ---- clocks never fall

unmarked_second : (ys : List AtClock) → unmarked (map (λ y. (false, y)) ys) ≡ ys
unmarked_second [] = refl
unmarked_second (y ∷ ys) = ap (λ (z : List AtClock). y ∷ z) (unmarked_second ys)

abbrev KeepsClimbing : List AtClock → (List AtClock → List (Bool × AtClock)) → Type 0
KeepsClimbing xs merge = (c : ℕ) (ys : List AtClock) → climbs c xs ≡ true → climbs c ys ≡ true → climbs c (unmarked (merge ys)) ≡ true

before-climbs : (x : AtClock) (xs : List AtClock) (rest : List AtClock → List (Bool × AtClock)) → KeepsClimbing xs rest → KeepsClimbing (x ∷ xs) (merge_before x rest)
before-climbs x xs rest climb c [] h q = let p = both {a = leb c x.clock} h in and-true p.0 (climb x.clock [] p.1 refl)
before-climbs x xs rest climb c (y ∷ ys) h q =
    go (leb x.clock y.clock) refl (before-climbs x xs rest climb y.clock ys)
  where
    go : (t : Bool) → leb x.clock y.clock ≡ t
        → (climbs y.clock (x ∷ xs) ≡ true → climbs y.clock ys ≡ true → climbs y.clock (unmarked (merge_before x rest ys)) ≡ true)
        → climbs c (unmarked (cond t ((true, x) ∷ rest (y ∷ ys)) ((false, y) ∷ merge_before x rest ys))) ≡ true
    go true e again =
        let p = both {a = leb c x.clock} {b = climbs x.clock xs} h in
        let r = both {a = leb c y.clock} {b = climbs y.clock ys} q in
        and-true p.0 (climb x.clock (y ∷ ys) p.1 (and-true e r.1))
    go false e again =
        let p = both {a = leb c x.clock} {b = climbs x.clock xs} h in
        let r = both {a = leb c y.clock} {b = climbs y.clock ys} q in
        let under = leb-false x.clock y.clock e in
        and-true r.0 (again (and-true (le-leb y.clock x.clock (omega arith)) p.1) r.1)

merge_climbs : (xs : List AtClock) → KeepsClimbing xs (merge_timed xs)
merge_climbs [] c ys h q = rw (unmarked_second ys) q
merge_climbs (x ∷ xs) c ys h q = before-climbs x xs (merge_timed xs) (merge_climbs xs) c ys h q

-- so it is a merged day
pub merge_merged : (xs ys : List Record) → mergeable xs ≡ true → mergeable ys ≡ true
    → Merged xs ys (held_of (unmarked (merge_timed (timed 0 xs) (timed 0 ys))))
merge_merged xs ys h q =
    let parts = merge_parts (timed 0 xs) (timed 0 ys) in
    record {
      marked = merge_timed (timed 0 xs) (timed 0 ys);
      first = parts.0;
      second = parts.1;
      rises = merge_climbs (timed 0 xs) 0 (timed 0 ys) (mergeable-climbs xs h) (mergeable-climbs ys q);
      all = refl;
    }

-- ---- as words

up_from_shift : {A : Type 0} (f g : ℕ → A) → ((j : ℕ) → f (suc j) ≡ g j) → (i n : ℕ) → up_from f (suc i) n ≡ up_from g i n
up_from_shift f g same i zero = refl
up_from_shift f g same i (suc n) = ap₂ (λ x l. x ∷ l) (same i) (up_from_shift f g same (suc i) n)

-- the records of the words of records
records_part : (rs : List Record) → records_of (join (map record_part rs)) ≡ rs
records_part [] = refl
records_part (r ∷ rs) =
    let ws : List ℕ = join (map record_part rs) in
    let count : length (record_part r ++ ws) / record_words ≡ suc (length ws / record_words) = omega arith in
    ap (up_from (record_at (record_part r ++ ws)) 0) count
    ∙ ap (λ (l : List Record). r ∷ l) (up_from_shift (record_at (record_part r ++ ws)) (record_at ws) (shifted ws) 0 (length ws / record_words) ∙ records_part rs)
  where
    shifted : (ws : List ℕ) (j : ℕ) → record_at (record_part r ++ ws) (suc j) ≡ record_at ws j
    shifted ws j =
        let at : record_words * suc j ≡ suc (suc (suc (suc (record_words * j)))) = omega arith in
        let one : record_words * suc j + 1 ≡ suc (suc (suc (suc (record_words * j + 1)))) = omega arith in
        let two : record_words * suc j + 2 ≡ suc (suc (suc (suc (record_words * j + 2)))) = omega arith in
        let three : record_words * suc j + 3 ≡ suc (suc (suc (suc (record_words * j + 3)))) = omega arith in
        rw (one, two, three, at)

-- a merge that takes the first-named trace first is one that a caller is promised
module _ (a : List ℕ) (i : ℕ) (b : List ℕ) (j : ℕ) (before : List ℕ) (reply : Reply) (after : List ℕ) (is : outcome_of reply after ≡ merge_first a i b j before) (size : length after ≡ length before) where
  abbrev number : ℕ
  number = first_of (merge_refusals a i b j (length before))

  abbrev xs : List ℕ
  xs = day_part a i

  abbrev ys : List ℕ
  ys = day_part b j

  abbrev done : Outcome (List ℕ)
  done = outcome_of (accepted []) (merged_words xs ys)

  written_merged : mergeable (records_of xs) ≡ true → mergeable (records_of ys) ≡ true → Merged (records_of xs) (records_of ys) (records_of (merged_words xs ys))
  unfolding merged_words
  written_merged h q = rw (records_part (held_of (unmarked (merge_timed (timed 0 (records_of xs)) (timed 0 (records_of ys)))))) (merge_merged (records_of xs) (records_of ys) h q)

  accepted_case : number ≡ 0 → Merges a i b j before reply after
  unfolding merge_first
  accepted_case h =
      let e : outcome_of reply after ≡ done = is ∙ settle-accepted (merge_refusals a i b j (length before)) before done h in
      let facts = accepted_merge a i b j (length before) h in
      record {
        answer = ap (λ o. o.reply) e ∙ rw (eq-eqb number 0 h);
        size = size;
        refused = λ some. absurd (some (ap (λ o. o.reply.number) e));
        merged = λ _. subst (λ (z : List ℕ). Merged (records_of xs) (records_of ys) (records_of z)) (sym (ap (λ o. o.left) e)) (written_merged facts.first_order facts.second_order);
      }

  refused_case : (number ≡ 0 → ⊥) → Merges a i b j before reply after
  unfolding merge_first
  refused_case h =
      let e : outcome_of reply after ≡ outcome_of (refused number) before = is ∙ settle-refused (merge_refusals a i b j (length before)) before done h in
      record {
        answer = ap (λ o. o.reply) e ∙ rw (ne_eqb number 0 h);
        size = size;
        refused = λ _. ap (λ o. o.left) e;
        merged = λ none. absurd (h (sym (ap (λ o. o.reply.number) e) ∙ none));
      }

  pub first_merges : Merges a i b j before reply after
  first_merges = ⊎_elim accepted_case refused_case (eq_or_ne number 0)
