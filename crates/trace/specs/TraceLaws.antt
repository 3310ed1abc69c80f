-- How the loops of the check go through a trace, and what a sound trace gives. Rests on the laws of tests and lists.
use Rattle.std.specs.Prelude.{Bool, true, false, cond, not, ◌&&◌, ◌≡◌, refl, List, [], ◌∷◌, ℕ, zero, suc, ◌+◌, ◌-◌, ◌≤◌, ◌<◌, leb, ltb, eqb, length, get_or, Result, Ok, Err}
use Rattle.std.proofs.Common.{true≢false, ◌∙◌, ⊎_elim, add-one, arith}
use Rattle.std.proofs.Math.Path.{sym, ap}
use borrow.Author.Tests.{eq-eqb, ne_eqb, le-leb, lt-leb, ltb-true, eqb-true, lt-ltb, le-ltb}
use Rattle.shape.specs.Limits.{Reply, refused, accepted}
use Rattle.shape.specs.LimitsLaws.{both}
use Rattle.model.specs.declared.Refusal.{Refusal}
use Rattle.model.specs.Reply.{number_of, reply_by}
use Rattle.model.specs.Sound.{all_from}
use Rattle.model.specs.Calls.{first_of}
use Rattle.model.specs.Trace.{max_days, sound_day, day_count, pair_start, day_start, day_length, day_part, laid, sound_trace, day_refusals, day_reply, found_day}
use Rattle.laws.specs.Cond.{lt_or_ge, and-true, and-false, by_eq}
use Rattle.laws.specs.Parts.{all_from_elim}
use Rattle.days.specs.declared.Pair.{Pair}
use Rattle.days.specs.Pair.{pair_at}
use Rattle.trace.specs.Found.{found_of}

-- ---- days one after another

-- no layout starts past the last word
pub laid-past : (trace : List ℕ) (c at j : ℕ) → length trace < at → laid trace at j c ≡ false
laid-past trace zero at j h = ne_eqb at (length trace) (λ e. omega arith)
laid-past trace (suc c) at j h = and-false (eqb (day_start trace j) at) (laid-past trace c (at + day_length trace j) (suc j) (omega arith))

laid-within : (trace : List ℕ) (c at j : ℕ) → laid trace at j c ≡ true → at ≤ length trace
laid-within trace c at j e = ⊎_elim (λ (l : length trace < at). absurd (true≢false (sym e ∙ laid-past trace c at j l))) (λ (g : at ≤ length trace). g) (lt_or_ge (length trace) at)

-- what is left of the layout at day j
module _ (trace : List ℕ) (days at j : ℕ) where
  laid_step : j < days → laid trace at j (days - j) ≡ (eqb (day_start trace j) at && laid trace (at + day_length trace j) (j + 1) (days - (j + 1)))
  laid_step h = let left : days - j ≡ suc (days - (j + 1)) = omega arith in rw (left, add-one)

  pub laid_apart : j < days → (day_start trace j ≡ at → ⊥) → laid trace at j (days - j) ≡ false
  laid_apart more h = laid_step more ∙ rw (ne_eqb (day_start trace j) at h)

  pub laid_meets : j < days → day_start trace j ≡ at → laid trace at j (days - j) ≡ laid trace (at + day_length trace j) (j + 1) (days - (j + 1))
  laid_meets more h = laid_step more ∙ rw (eq-eqb (day_start trace j) at h)

  pub laid_end : days ≤ j → laid trace at j (days - j) ≡ eqb at (length trace)
  laid_end h = let left : days - j ≡ 0 = omega arith in rw left

-- each day of a layout lies in the trace
pub laid_lies : (trace : List ℕ) (c at i j : ℕ) → laid trace at i c ≡ true → i ≤ j → j < i + c → day_start trace j + day_length trace j ≤ length trace
laid_lies trace zero at i j e low high = absurd (omega arith)
laid_lies trace (suc c) at i j e low high =
    let p : (eqb (day_start trace i) at ≡ true) × (laid trace (at + day_length trace i) (suc i) c ≡ true) = both e in
    ⊎_elim
    (λ (l : i < j). laid_lies trace c (at + day_length trace i) (suc i) j p.1 l (omega arith))
    (λ (g : j ≤ i).
    let same : i ≡ j = omega arith in
    rw same at (here (eqb-true (day_start trace i) at p.0) (laid-within trace c (at + day_length trace i) (suc i) p.1)))
    (lt_or_ge i j)
  where
    here : day_start trace i ≡ at → at + day_length trace i ≤ length trace → day_start trace i + day_length trace i ≤ length trace
    here s w = omega arith

-- the layout in other words: the first day starts at `at`, each other where the day before ends, so the days are sorted; the last one ends
-- with the trace
module _ (trace : List ℕ) where
  pub laid-first : (c at i : ℕ) → laid trace at i (suc c) ≡ true → day_start trace i ≡ at
  laid-first c at i e = eqb-true (day_start trace i) at (both e).0

  pub laid_next : (c at i j : ℕ) → laid trace at i c ≡ true → i ≤ j → suc j < i + c → day_start trace (suc j) ≡ day_start trace j + day_length trace j
  laid_next zero at i j e low high = absurd (omega arith)
  laid_next (suc zero) at i j e low high = absurd (omega arith)
  laid_next (suc (suc c)) at i j e low high =
      let p : (eqb (day_start trace i) at ≡ true) × (laid trace (at + day_length trace i) (suc i) (suc c) ≡ true) = both e in
      ⊎_elim
      (λ (l : i < j). laid_next (suc c) (at + day_length trace i) (suc i) j p.1 l (omega arith))
      (λ (g : j ≤ i).
      let same : i ≡ j = omega arith in
      rw same at (laid-first c (at + day_length trace i) (suc i) p.1 ∙ ap (λ (z : ℕ). z + day_length trace i) (sym (eqb-true (day_start trace i) at p.0))))
      (lt_or_ge i j)

  pub laid_sorted : (c at i j : ℕ) → laid trace at i c ≡ true → i ≤ j → suc j < i + c → day_start trace j ≤ day_start trace (suc j)
  laid_sorted c at i j e low high = omega (arith, laid_next c at i j e low high)

  pub laid_last : (c at i : ℕ) → laid trace at i (suc c) ≡ true → day_start trace (i + c) + day_length trace (i + c) ≡ length trace
  laid_last zero at i e =
      let p : (eqb (day_start trace i) at ≡ true) × (eqb (at + day_length trace i) (length trace) ≡ true) = both e in
      let here : i + 0 ≡ i = omega arith in
      rw here (ap (λ (z : ℕ). z + day_length trace i) (eqb-true (day_start trace i) at p.0) ∙ eqb-true (at + day_length trace i) (length trace) p.1)
  laid_last (suc c) at i e =
      let p : (eqb (day_start trace i) at ≡ true) × (laid trace (at + day_length trace i) (suc i) (suc c) ≡ true) = both e in
      let next : i + suc c ≡ suc i + c = omega arith in
      rw next (laid_last c (at + day_length trace i) (suc i) p.1)

  -- and such days are laid out
  pub laid_intro : (c at i : ℕ) → day_start trace i ≡ at
      → ((j : ℕ) → i ≤ j → suc j < i + suc c → day_start trace (suc j) ≡ day_start trace j + day_length trace j)
      → day_start trace (i + c) + day_length trace (i + c) ≡ length trace → laid trace at i (suc c) ≡ true
  laid_intro zero at i first next last =
      let here : i + 0 ≡ i = omega arith in
      and-true (eq-eqb (day_start trace i) at first)
      (eq-eqb (at + day_length trace i) (length trace) (ap (λ (z : ℕ). z + day_length trace i) (sym first) ∙ rw here at last))
  laid_intro (suc c) at i first next last =
      let there : i + suc c ≡ suc i + c = omega arith in
      and-true (eq-eqb (day_start trace i) at first)
      (laid_intro c (at + day_length trace i) (suc i)
      (next i (omega arith) (omega arith) ∙ ap (λ (z : ℕ). z + day_length trace i) first)
      (λ j low high. next j (omega arith) (omega arith))
      (rw there at last))

-- ---- a sound trace

pub record SoundFacts (trace : List ℕ) : Type 0 where
  pub some : 0 < length trace
  pub pairs : pair_start (day_count trace) ≤ length trace
  pub days : laid trace (pair_start (day_count trace)) 0 (day_count trace) ≡ true

pub sound_facts : (trace : List ℕ) → sound_trace trace ≡ true → SoundFacts trace
unfolding sound_trace
sound_facts trace e =
    let p : (ltb 0 (length trace) ≡ true) × (_ ≡ true) = both e in
    let q : (leb (day_count trace) max_days ≡ true) × (_ ≡ true) = both p.1 in
    let r : (laid trace (pair_start (day_count trace)) 0 (day_count trace) ≡ true) × (_ ≡ true) = both q.1 in
    record {
      some = ltb-true 0 (length trace) p.0;
      pairs = laid-within trace (day_count trace) (pair_start (day_count trace)) 0 r.0;
      days = r.0;
    }

-- each of its days is sound
pub day_sound : (trace : List ℕ) (day : ℕ) → sound_trace trace ≡ true → day < day_count trace → sound_day (day_part trace day) ≡ true
unfolding sound_trace
day_sound trace day e h =
    let p : (ltb 0 (length trace) ≡ true) × (_ ≡ true) = both e in
    let q : (leb (day_count trace) max_days ≡ true) × (_ ≡ true) = both p.1 in
    let r : (laid trace (pair_start (day_count trace)) 0 (day_count trace) ≡ true) × (_ ≡ true) = both q.1 in
    all_from_elim (λ j. sound_day (day_part trace j)) 0 (day_count trace) r.1 day (omega arith) (omega arith)

-- what makes a trace unsound, by the code's tests
module _ (trace : List ℕ) where
  abbrev layout : Bool
  layout = laid trace (pair_start (day_count trace)) 0 (day_count trace)

  abbrev all_sound : Bool
  all_sound = all_from (λ j. sound_day (day_part trace j)) 0 (day_count trace)

  pub unsound-none : length trace ≡ 0 → false ≡ sound_trace trace
  unfolding sound_trace
  unsound-none h = rw (le-ltb 0 (length trace) (omega arith))

  pub unsound_many : max_days < day_count trace → false ≡ sound_trace trace
  unfolding sound_trace
  unsound_many h = rw (lt-leb (day_count trace) max_days h) (sym (and-false (ltb 0 (length trace)) refl))

  pub unsound-layout : layout ≡ false → false ≡ sound_trace trace
  unfolding sound_trace
  unsound-layout h = rw h (sym (and-false (ltb 0 (length trace)) (and-false (leb (day_count trace) max_days) refl)))

  pub sound-days : 0 < length trace → day_count trace ≤ max_days → layout ≡ true → all_sound ≡ sound_trace trace
  unfolding sound_trace
  sound-days some few h = rw (lt-ltb 0 (length trace) some, le-leb (day_count trace) max_days few, h)

-- ---- what finding a day answers

module _ (trace : List ℕ) (day : ℕ) where
  -- the number of the first refusal
  abbrev pub day_refusal : ℕ
  day_refusal = first_of (day_refusals trace day)

  day_accepted : day_refusal ≡ 0 → day_reply trace day ≡ accepted (day_start trace day ∷ day_length trace day ∷ [])
  unfolding day_reply
  day_accepted h = rw (eq-eqb day_refusal 0 h)

  -- by the code's tests
  pub unsound_reply : sound_trace trace ≡ false → refused 13 ≡ day_reply trace day
  unfolding day_reply
  unsound_reply h = rw h

  module _ (sound : sound_trace trace ≡ true) where
    pub absent_reply : day_count trace ≤ day → refused 14 ≡ day_reply trace day
    unfolding day_reply
    absent_reply h = rw (sound, le-ltb day (day_count trace) h)

    pub found_reply : day < day_count trace → accepted (day_start trace day ∷ day_length trace day ∷ []) ≡ day_reply trace day
    unfolding day_reply
    found_reply h = rw (sound, lt-ltb day (day_count trace) h)

  day_refusal_lem : (day_reply trace day).number ≡ day_refusal
  unfolding day_reply
  day_refusal_lem = by_eq day_refusal 0 (λ (r : Reply). r.number ≡ day_refusal) (λ z. sym z) (λ _. refl)

  -- the day is there, and lies in the trace
  pub record InTrace (pair : Pair) : Type 0 where
    pub number : day_refusal ≡ 0
    pub is : pair ≡ pair_at trace day
    pub within : pair.start + pair.length ≤ length trace

  refusal_none : day_refusal ≡ 0 → (sound_trace trace ≡ true) × (day < day_count trace)
  refusal_none h = go (sound_trace trace) (ltb day (day_count trace)) refl refl h
    where
      go : (s t : Bool) → sound_trace trace ≡ s → ltb day (day_count trace) ≡ t → ◌≡◌ {A = ℕ} (cond (not s) 13 (cond (not t) 14 0)) 0
          → (sound_trace trace ≡ true) × (day < day_count trace)
      go true true a b e = (a, ltb-true day (day_count trace) b)
      go true false a b e = absurd (omega arith)
      go false t a b e = absurd (omega arith)

  abbrev pair_of : Reply → Pair
  pair_of r = record { start = get_or r.values 0 0; length = get_or r.values 1 0 }

  -- what an answer of the code says of the day
  pub at_in : (f : Result Pair Refusal) (pair : Pair) → f ≡ Ok pair → found_of f ≡ day_reply trace day → InTrace pair
  unfolding reply_by
  at_in f pair same e =
      let told = ap found_of (sym same) ∙ e in
      let none : day_refusal ≡ 0 = sym day_refusal_lem ∙ sym (ap (λ (r : Reply). r.number) told) in
      let f = refusal_none none in
      let is : pair ≡ pair_at trace day = ap pair_of (told ∙ day_accepted none) in
      record {
        number = none;
        is = is;
        within = rw is (laid_lies trace (day_count trace) (pair_start (day_count trace)) 0 day (sound_facts trace f.0).days (omega arith) (omega (arith, f.1)));
      }

  pub refused-first : (f : Result Pair Refusal) (why : Refusal) → f ≡ Err why → found_of f ≡ day_reply trace day → number_of why ≡ day_refusal
  unfolding reply_by
  refused-first f why same e = ap (λ (r : Reply). r.number) (ap found_of (sym same) ∙ e) ∙ day_refusal_lem

  -- the part that is found
  pub part_found : day_refusal ≡ 0 → found_day trace day ≡ day_part trace day
  unfolding found_day
  part_found h = rw (eq-eqb day_refusal 0 h)

  pub part_none : (day_refusal ≡ 0 → ⊥) → found_day trace day ≡ []
  unfolding found_day
  part_none h = rw (ne_eqb day_refusal 0 h)
