-- What an accepted merge tells of the two days and of the output, and the number of a merge's reply. Rests on the days of a sound trace being
-- sound.
use Rattle.std.specs.Prelude.{true, false, not, ◌≡◌, refl, List, [], ◌∷◌, ℕ, ◌+◌, ltb, eqb, length}
use Rattle.std.proofs.Common.{sym, ap, subst, ◌∙◌, arith, ltb-true, le-ltb, eqb-true}
use Rattle.std.proofs.lemmas.Bool.{not-false}
use Rattle.shape.specs.Limits.{Reply, number_only}
use Rattle.model.specs.Calls.{first_of}
use Rattle.model.specs.Trace.{records_of, sound_day, day_count, day_part, sound_trace}
use Rattle.model.specs.Merge.{mergeable, merge_refusals, Merges}
use Rattle.laws.specs.Cond.{by_eq}
use Rattle.laws.specs.Refusals.{further}
use Rattle.trace.specs.TraceLaws.{day_sound}

pub record AcceptedMerge (a : List ℕ) (i : ℕ) (b : List ℕ) (j room : ℕ) : Type 0 where
  pub first : sound_day (day_part a i) ≡ true
  pub second : sound_day (day_part b j) ≡ true
  pub first_order : mergeable (records_of (day_part a i)) ≡ true
  pub second_order : mergeable (records_of (day_part b j)) ≡ true
  pub size : room ≡ length (day_part a i) + length (day_part b j)

pub accepted_merge : (a : List ℕ) (i : ℕ) (b : List ℕ) (j room : ℕ) → first_of (merge_refusals a i b j room) ≡ 0 → AcceptedMerge a i b j room
accepted_merge a i b j room h =
    let xs : List ℕ = day_part a i in
    let ys : List ℕ = day_part b j in
    let sound_a = further (not (sound_trace a)) 13 (λ e. omega arith) h in
    let sound_b = further (not (sound_trace b)) 13 (λ e. omega arith) sound_a.1 in
    let day_a = further (not (ltb i (day_count a))) 14 (λ e. omega arith) sound_b.1 in
    let day_b = further (not (ltb j (day_count b))) 14 (λ e. omega arith) day_a.1 in
    let order_a = further (not (mergeable (records_of xs))) 16 (λ e. omega arith) day_b.1 in
    let order_b = further (not (mergeable (records_of ys))) 16 (λ e. omega arith) order_a.1 in
    let size = further (not (eqb room (length xs + length ys))) 17 {y = 0} (λ e. omega arith) order_b.1 in
    record {
      first = day_sound a i (not-false _ sound_a.0) (ltb-true i (day_count a) (not-false _ day_a.0));
      second = day_sound b j (not-false _ sound_b.0) (ltb-true j (day_count b) (not-false _ day_b.0));
      first_order = not-false _ order_a.0;
      second_order = not-false _ order_b.0;
      size = eqb-true room (length xs + length ys) (not-false _ size.0);
    }

-- the reply of a merge is its number alone
module _ (a : List ℕ) (i : ℕ) (b : List ℕ) (j : ℕ) (before : List ℕ) (reply : Reply) (after : List ℕ) (m : Merges a i b j before reply after) where
  pub merge_number : reply.number ≡ first_of (merge_refusals a i b j (length before))
  merge_number =
      ap (λ (r : Reply). r.number) m.answer
      ∙ by_eq (first_of (merge_refusals a i b j (length before))) 0 (λ (r : Reply). r.number ≡ first_of (merge_refusals a i b j (length before))) (λ none. sym none) (λ some. refl)

  -- so the number tells all of it
  pub merge_told : (number : ℕ) → number ≡ reply.number → Merges a i b j before (number_only number) after
  merge_told number is = subst (λ (r : Reply). Merges a i b j before r after) (m.answer ∙ ap number_only (sym (is ∙ merge_number))) m

-- a trace without words has no day
pub no_day : (trace : List ℕ) (day : ℕ) → length trace ≡ 0 → false ≡ ltb day (day_count trace)
no_day [] day h = sym (le-ltb day 0 (omega arith))
no_day (w ∷ ws) day h = absurd (omega arith)
