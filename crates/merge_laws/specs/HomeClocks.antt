-- Of every output that an accepted merge may leave: it is the only day of a sound trace, whose replay is accepted, and each record meets the
-- clock that it had at home. Rests on what holds of every merged day, and on days whose clocks are in order.
use Rattle.std.specs.Prelude.{Bool, true, ◌≡◌, ℕ, zero, suc, ◌+◌, ◌*◌, ◌/◌, ◌%◌, ◌≤◌, eqb}
use Rattle.std.proofs.Math.Path.{refl}
use Rattle.std.proofs.Common.{sym, ap, subst, ◌∙◌, le_refl, arith, take_all}
use mathlib.Core.List.{List, map}
use Rattle.std.proofs.Math.ListN.{length}
use borrow.Author.Tests.{eq-eqb, lt-ltb, le-ltb}
use Rattle.shape.specs.Limits.{number_only}
use Rattle.shape.specs.LimitsLaws.{both}
use Rattle.model.specs.declared.Record.{Record}
use Rattle.model.specs.Block.{up_from}
use Rattle.model.specs.Sound.{all_from}
use Rattle.model.specs.Trace.{record_words, record_at, records_of, sound_record, sound_day, day_part, sound_trace, call_of}
use Rattle.model.specs.Replay.{answer_words, replay_calls, replay}
use Rattle.model.specs.Claim.{Each}
use Rattle.model.specs.Home.{only_day, HomeClocks}
use Rattle.laws.specs.Cond.{and-true}
use Rattle.laws.specs.SoundBook.{book_facts}
use Rattle.days.specs.Records.{day_whole}
use Rattle.merge_laws.specs.AcceptedMerge.{accepted_merge, merge_number}
use Rattle.merge_laws.specs.MergedDay.{merged_home, merged_mergeable, merged_each}
use Rattle.merge_laws.specs.Meets.{mergeable_meets}

-- ---- sound days, record by record

module _ (p : Record → Bool) (f : ℕ → Record) where
  each_from : (i c : ℕ) → all_from (λ j. p (f j)) i c ≡ true → Each (λ r. p r ≡ true) (up_from f i c)
  each_from i zero h = tt
  each_from i (suc c) h = let q = both {a = p (f i)} h in (q.0, each_from (suc i) c q.1)

  from_each : (i c : ℕ) → Each (λ r. p r ≡ true) (up_from f i c) → all_from (λ j. p (f j)) i c ≡ true
  from_each i zero h = refl
  from_each i (suc c) h = and-true h.0 (from_each (suc i) c h.1)

day_records : (day : List ℕ) → sound_day day ≡ true → Each (λ r. sound_record r ≡ true) (records_of day)
unfolding sound_day
day_records day h = each_from sound_record (record_at day) 0 (length day / record_words) (both {a = eqb (length day % record_words) 0} h).1

records_day : (day : List ℕ) → length day % record_words ≡ 0 → Each (λ r. sound_record r ≡ true) (records_of day) → sound_day day ≡ true
unfolding sound_day
records_day day whole h = and-true (eq-eqb (length day % record_words) 0 whole) (from_each sound_record (record_at day) 0 (length day / record_words) h)

-- ---- a trace's only day

module _ (day : List ℕ) where
  only_part : day_part (only_day day) 0 ≡ day
  only_part = take_all (length day) day (le_refl (length day))

  only-sound : sound_day day ≡ true → sound_trace (only_day day) ≡ true
  unfolding sound_trace
  only-sound h =
      and-true (lt-ltb 0 (length (only_day day)) (omega arith))
      (and-true refl
      (and-true (and-true refl (eq-eqb (3 + length day) (length (only_day day)) (omega arith)))
      (and-true (subst (λ (z : List ℕ). sound_day z ≡ true) (sym only_part) h) refl)))

  module _ (ws answers : List ℕ) (sound : sound_trace (only_day day) ≡ true) (room : answer_words * length (records_of day) ≤ length answers) where
    only_played : (replay ws (only_day day) 0 answers).reply ≡ number_only 0
    unfolding replay
    only_played = rw (sound, only_part, le-ltb (length answers) (answer_words * length (records_of day)) room)

    only_calls : replay_calls (only_day day) 0 (length answers) ≡ map call_of (records_of day)
    unfolding replay_calls
    only_calls = rw (sound, only_part, le-ltb (length answers) (answer_words * length (records_of day)) room)

-- ---- the theorem

whole_sum : (x y : ℕ) → x % record_words ≡ 0 → y % record_words ≡ 0 → (x + y) % record_words ≡ 0
whole_sum x y p q = omega arith

-- what the model states
pub home_clocks : HomeClocks
unfolding HomeClocks
home_clocks a i b j before reply after merge done ws sound not_past answers room =
    let xs : List Record = records_of (day_part a i) in
    let ys : List Record = records_of (day_part b j) in
    let out : List Record = records_of after in
    let m = merge.merged done in
    let facts = accepted_merge a i b j (length before) (sym (merge_number a i b j before reply after merge) ∙ done) in
    let whole : length after % record_words ≡ 0 =
    ap (λ (n : ℕ). n % record_words) (merge.size ∙ facts.size) ∙ whole_sum (length (day_part a i)) (length (day_part b j)) (day_whole (day_part a i) facts.first) (day_whole (day_part b j) facts.second) in
    let trace = only-sound after (records_day after whole (merged_each xs ys out m (λ r. sound_record r ≡ true) (day_records (day_part a i) facts.first) (day_records (day_part b j) facts.second))) in
    let meets = mergeable_meets out (merged_mergeable xs ys out m facts.first_order facts.second_order) ws (book_facts ws sound) not_past in
    record {
      sound = trace;
      played = only_played after ws answers trace room;
      calls = only_calls after ws answers trace room;
      met = meets.0 ∙ ap (map (λ t. t.clock)) (merged_home xs ys out m);
      own = meets.1;
    }
