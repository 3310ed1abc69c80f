-- How the test of a day's clocks goes record by record. Rests on the records of a day as a loop goes through them.
use Rattle.std.specs.Prelude.{Bool, false, ◌&&◌, ◌≡◌, List, ℕ, ◌+◌, ◌≤◌, ◌<◌, leb}
use Rattle.std.proofs.Math.Bool.{true}
use Rattle.std.proofs.Math.Path.{sym}
use Rattle.std.proofs.Common.{ap, ◌∙◌}
use Rattle.std.proofs.Math.Dec.{eqb}
use borrow.Author.Tests.{le-leb, lt-leb, eq-eqb, ne_eqb}
use Rattle.model.specs.Sound.{max_clock}
use Rattle.model.specs.Trace.{clock_kind, record_at, records_of}
use Rattle.model.specs.Merge.{clock_after, orderly, mergeable}
use Rattle.laws.specs.Cond.{and-false}
use Rattle.days.specs.Records.{record_count, records_from, records_from-start, records_from_step, records_from_end}

module _ (day : List ℕ) where
  -- the test of the records from record i on, after this clock
  abbrev pub orderly_from : ℕ → ℕ → Bool
  orderly_from i clock = orderly clock (records_from day i)

  pub orderly-start : orderly_from 0 0 ≡ orderly 0 (records_of day)
  orderly-start = ap (orderly 0) (records_from-start day)

  pub orderly_end : (i clock : ℕ) → record_count day ≤ i → orderly_from i clock ≡ true
  orderly_end i clock h = ap (orderly clock) (records_from_end day i h)

  module _ (i clock next : ℕ) (more : i < record_count day) (is : next ≡ clock_after clock (record_at day i)) where
    orderly_here : orderly_from i clock ≡ (leb clock next && (leb next max_clock && orderly_from (i + 1) next))
    orderly_here = rw is (ap (orderly clock) (records_from_step day i more))

    pub orderly-falls : next < clock → orderly_from i clock ≡ false
    orderly-falls h = orderly_here ∙ rw (lt-leb clock next h)

    pub orderly_passes : max_clock < next → orderly_from i clock ≡ false
    orderly_passes h = orderly_here ∙ and-false (leb clock next) (rw (lt-leb next max_clock h))

    pub orderly_step : clock ≤ next → next ≤ max_clock → orderly_from i clock ≡ orderly_from (i + 1) next
    orderly_step h g = orderly_here ∙ rw (le-leb clock next h, le-leb next max_clock g)

  -- whether the day may be merged, by its first record
  pub none-mergeable : record_count day ≤ 0 → true ≡ mergeable (records_of day)
  unfolding mergeable
  none-mergeable h = rw (← records_from-start day, records_from_end day 0 h)

  pub unopened-mergeable : 0 < record_count day → ((record_at day 0).kind ≡ clock_kind → ⊥) → false ≡ mergeable (records_of day)
  unfolding mergeable
  unopened-mergeable more h = rw (← records_from-start day, records_from_step day 0 more, ne_eqb (record_at day 0).kind clock_kind h)

  pub opened-mergeable : 0 < record_count day → (record_at day 0).kind ≡ clock_kind → orderly 0 (records_of day) ≡ mergeable (records_of day)
  unfolding mergeable
  opened-mergeable more h =
      let opens : eqb (record_at day 0).kind clock_kind ≡ true = eq-eqb (record_at day 0).kind clock_kind h in
      sym (rw (← records_from-start day, records_from_step day 0 more, opens))
