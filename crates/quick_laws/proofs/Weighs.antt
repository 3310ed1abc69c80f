-- What the tests of the quick pass by rows answer of the level. Assumes nothing.
use Rattle.std.specs.Prelude.{true, ◌&&◌, List, ◌≡◌, ℕ, ◌+◌, ◌*◌, ◌%◌, ◌^◌, ◌≤◌, ◌<◌, get_or}
use Rattle.std.proofs.Common.{◌∙◌, arith, le-leb, ne_eqb}
use Rattle.model.specs.Level.{Bucket}
use Rattle.model.specs.Words.{slots}
use Rattle.model.specs.Sound.{weight_of, sound_buckets}
use Rattle.pass_laws.specs.Pass.{least_of}
use Rattle.quick_laws.specs.Quick.{most_of, is_enough, is_tried, weighs}
use Rattle.quick_laws.specs.Rows.{ByRows}
use Rattle.quick_laws.specs.declared.Quick.{Quick}
use Rattle.quick_laws.proofs.RowsLaws.{rows_enough, rows_weight}

module _ (ws : List ℕ) (count k : ℕ) (few : k ≤ 20) where
  abbrev bs : List Bucket
  bs = slots ws 0 count

  abbrev first : ℕ
  first = get_or ws 1 0

  -- so the answer is whether the weight is what the total asks
  pub is_enough-weighs : (i total : ℕ) (r : Quick) (w : ℕ) → i ≤ 24 → count ≤ 1024 → is_tried count i ≡ true → ByRows (least_of count i) (most_of count i) ws count r
      → is_enough k first r ≡ true → w ≡ weight_of bs % 2 ^ 32 → weighs first total w ≡ (sound_buckets k i first bs && weighs first total (weight_of bs))
  is_enough-weighs i total r w low few_buckets t g seen e =
      rw ((rows_enough ws count k few i r low t g seen).0, e ∙ rows_weight ws count k few i r low few_buckets t g seen)

  -- the answer is yes if F is above 0 and the count times the largest weight seen is at most the total
  pub bounded_weighs : (i total : ℕ) (r : Quick) → i ≤ 24 → is_tried count i ≡ true → ByRows (least_of count i) (most_of count i) ws count r
      → is_enough k first r ≡ true → 0 < first → (least_of count i + r.extra) * count ≤ total → true ≡ (sound_buckets k i first bs && weighs first total (weight_of bs))
  bounded_weighs i total r low t g seen past bound =
      let h = rows_enough ws count k few i r low t g seen in
      rw (h.0, le-leb (weight_of bs) total (omega (arith, h.1, bound)), ne_eqb first 0 (λ e. omega (arith, e, past)))
