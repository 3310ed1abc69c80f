-- How the merge goes record by record: what is written and what is left make up the whole. Rests on the records of a day as a loop goes through
-- them.
use Rattle.std.specs.Prelude.{Bool, true, false, cond, List, [], ◌∷◌, ◌++◌, ◌≡◌, ℕ, ◌+◌, ◌*◌, ◌%◌, ◌≤◌, ◌<◌, leb, length, take, set}
use Rattle.std.proofs.Common.{true≢false, append_assoc, append-nil, sym, ap, ◌∙◌, take_all}
use Rattle.std.proofs.Math.Logic.{⊎_elim}
use native.Mathlib.Omega.{arith}
use borrow.Author.Tests.{le-leb, lt-leb}
use Rattle.model.specs.declared.Record.{Record}
use Rattle.model.specs.Trace.{record_words, record_at}
use Rattle.model.specs.Merge.{AtClock, clock_after, timed}
use Rattle.laws.specs.Cond.{lt_or_ge}
use Rattle.days.specs.Records.{record_count, records_from, records_from-start, records_from_step, records_from_end, take-four}
use Rattle.merge_laws.specs.FirstNamed.{record_part, merge_part, merged_words}

-- a record written after so many others
pub take_record : (ws : List ℕ) (to : ℕ) (r : Record) → record_words * (to + 1) ≤ length ws → let at = record_words * to in
    take (record_words * (to + 1)) (set (set (set (set ws at r.kind) (at + 1) r.first) (at + 2) r.second) (at + 3) r.third) ≡ take at ws ++ record_part r
take_record ws to r room =
    let next : record_words * (to + 1) ≡ record_words * to + 4 = omega arith in
    rw next (take-four ws (record_words * to) r.kind r.first r.second r.third (omega arith))

-- what is left of a day of which i records are taken, the last of them at clock c
abbrev pub left_of : List ℕ → ℕ → ℕ → List AtClock
left_of day i c = timed c (records_from day i)

abbrev pub clock_at : List ℕ → ℕ → ℕ → ℕ  -- the clock of the next record
clock_at day i c = clock_after c (record_at day i)

module _ (day : List ℕ) (i c : ℕ) where
  left_of_step : i < record_count day → left_of day i c ≡ record { clock = clock_at day i c; held = record_at day i } ∷ left_of day (i + 1) (clock_at day i c)
  left_of_step h = ap (timed c) (records_from_step day i h)

  left_of_end : record_count day ≤ i → left_of day i c ≡ []
  left_of_end h = ap (timed c) (records_from_end day i h)

-- the next record is one of the first day
unfoldable pub first_next : List ℕ → ℕ → ℕ → List ℕ → ℕ → ℕ → Bool
first_next a i c b j d = cond (leb (record_count a) i) false (cond (leb (record_count b) j) true (leb (clock_at a i c) (clock_at b j d)))

-- i records of a and j of b are written to out, and the rest of the merge is what is left of both
pub record Merging (a b : List ℕ) (i c j d : ℕ) (out : List ℕ) : Type 0 where
  pub first : length a % record_words ≡ 0
  pub second : length b % record_words ≡ 0
  pub size : length out ≡ length a + length b
  pub low : i ≤ record_count a
  pub high : j ≤ record_count b
  pub same : take (record_words * (i + j)) out ++ merge_part (left_of a i c) (left_of b j d) ≡ merged_words a b

module _ (a : List ℕ) (i c : ℕ) (b : List ℕ) (j d : ℕ) where
  -- the words of the next record, then those of what is left
  next_first : first_next a i c b j d ≡ true
      → (i < record_count a) × (merge_part (left_of a i c) (left_of b j d) ≡ record_part (record_at a i) ++ merge_part (left_of a (i + 1) (clock_at a i c)) (left_of b j d))
  unfolding first_next
  next_first e =
      ⊎_elim
      (λ (h : i < record_count a). (
        h,
        ⊎_elim
            (λ (g : j < record_count b).
            let t = rw (lt-leb (record_count a) i h, lt-leb (record_count b) j g) at e in
            rw (left_of_step a i c h, left_of_step b j d g) (rw t))
            (λ (g : record_count b ≤ j). rw (left_of_step a i c h, left_of_end b j d g))
            (lt_or_ge j (record_count b)),
      ))
      (λ (h : record_count a ≤ i). absurd (true≢false (sym (rw (le-leb (record_count a) i h) at e))))
      (lt_or_ge i (record_count a))

  next_second : first_next a i c b j d ≡ false → i + j < record_count a + record_count b → i ≤ record_count a
      → (j < record_count b) × (merge_part (left_of a i c) (left_of b j d) ≡ record_part (record_at b j) ++ merge_part (left_of a i c) (left_of b (j + 1) (clock_at b j d)))
  unfolding first_next
  next_second e more low =
      ⊎_elim
      (λ (h : i < record_count a).
      ⊎_elim
      (λ (g : j < record_count b).
      let t = rw (lt-leb (record_count a) i h, lt-leb (record_count b) j g) at e in
      (g, rw (left_of_step a i c h, left_of_step b j d g) (rw t)))
      (λ (g : record_count b ≤ j). absurd (true≢false (rw (lt-leb (record_count a) i h, le-leb (record_count b) j g) at e)))
      (lt_or_ge j (record_count b)))
      (λ (h : record_count a ≤ i). let g : j < record_count b = omega arith in (g, rw (left_of_end a i c h, left_of_step b j d g)))
      (lt_or_ge i (record_count a))

-- one record more is written
module _ (a b : List ℕ) (i c j d : ℕ) (out new : List ℕ) (m : Merging a b i c j d out) (size : length new ≡ length out) where
  abbrev to : ℕ
  to = i + j

  written : (r : Record) (t : ℕ) (all left : List ℕ) → t ≡ to + 1 → take (record_words * (to + 1)) new ≡ take (record_words * to) out ++ record_part r → all ≡ record_part r ++ left
      → take (record_words * to) out ++ all ≡ merged_words a b → take (record_words * t) new ++ left ≡ merged_words a b
  written r t all left place put parts same =
      rw (place, put, append_assoc (take (record_words * to) out) (record_part r) left, ← parts) same

  pub first-written : first_next a i c b j d ≡ true → take (record_words * (to + 1)) new ≡ take (record_words * to) out ++ record_part (record_at a i)
      → Merging a b (i + 1) (clock_at a i c) j d new
  first-written e put =
      let n = next_first a i c b j d e in
      record {
        first = m.first;
        second = m.second;
        size = size ∙ m.size;
        low = omega (arith, n.0);
        high = m.high;
        same = written (record_at a i) (i + 1 + j) (merge_part (left_of a i c) (left_of b j d)) (merge_part (left_of a (i + 1) (clock_at a i c)) (left_of b j d)) (omega arith) put n.1 m.same;
      }

  pub second_written : first_next a i c b j d ≡ false → to < record_count a + record_count b → take (record_words * (to + 1)) new ≡ take (record_words * to) out ++ record_part (record_at b j)
      → Merging a b i c (j + 1) (clock_at b j d) new
  second_written e more put =
      let n = next_second a i c b j d e more m.low in
      record {
        first = m.first;
        second = m.second;
        size = size ∙ m.size;
        low = m.low;
        high = omega (arith, n.0);
        same = written (record_at b j) (i + (j + 1)) (merge_part (left_of a i c) (left_of b j d)) (merge_part (left_of a i c) (left_of b (j + 1) (clock_at b j d))) (omega arith) put n.1 m.same;
      }

-- the day of the next record has one left
pub first_there : (a b : List ℕ) (i c j d : ℕ) → first_next a i c b j d ≡ true → i < record_count a
first_there a b i c j d e = (next_first a i c b j d e).0

pub second_there : (a b : List ℕ) (i c j d : ℕ) → first_next a i c b j d ≡ false → i + j < record_count a + record_count b → i ≤ record_count a → j < record_count b
second_there a b i c j d e more low = (next_second a i c b j d e more low).0

-- of whole records the counts add up
pub counts-add : (a b out : List ℕ) → length a % record_words ≡ 0 → length b % record_words ≡ 0 → length out ≡ length a + length b → record_count out ≡ record_count a + record_count b
counts-add a b out p q size = omega arith

pub merging_start : (a b out : List ℕ) → length a % record_words ≡ 0 → length b % record_words ≡ 0 → length out ≡ length a + length b → Merging a b 0 0 0 0 out
unfolding merged_words
merging_start a b out first second size = record {
  first = first;
  second = second;
  size = size;
  low = omega arith;
  high = omega arith;
  same = rw (records_from-start a, records_from-start b);
}

pub merging_end : (a b : List ℕ) (i c j d : ℕ) (out : List ℕ) → Merging a b i c j d out → record_count out ≤ i + j → out ≡ merged_words a b
merging_end a b i c j d out m all =
    let counts = counts-add a b out m.first m.second m.size in
    let none : merge_part (left_of a i c) (left_of b j d) ≡ [] = rw (left_of_end a i c (omega (arith, m.low, m.high)), left_of_end b j d (omega (arith, m.low, m.high))) in
    sym (take_all (record_words * (i + j)) out (omega (arith, m.first, m.second, m.size))) ∙ sym (append-nil (take (record_words * (i + j)) out)) ∙ rw none at m.same
