-- How many buckets a delivery splits: a sum over the levels of the stamp's half, taken level by level, and at most k × last. Rests on the
-- splits of one level.
use Rattle.std.specs.Prelude.{◌≡◌, List, ℕ, zero, suc, ◌+◌, ◌-◌, ◌*◌, ◌%◌, ◌^◌, ◌≤◌, ◌<◌, get_or}
use Rattle.std.proofs.Common.{sym, ◌∙◌, mul-suc, mod-lt, arith, pow_pos}
use Rattle.std.proofs.Math.Path.{ap}
use Rattle.shape.specs.declared.Shape.{Shape}
use Rattle.shape.specs.Layout.{total_start}
use Rattle.model.specs.Level.{Level, insert_splits}
use Rattle.model.specs.Block.{Half, up_from, interval, offset_of, insert_all_splits, deliver_splits}
use Rattle.model.specs.Words.{decode_block}
use Rattle.laws.specs.Proper.{Whole}
use Rattle.laws.specs.HalfWrites.{half_of_decode, level_at, levels_from, levels_from_all, levels_from_step, levels_from-none, whole_level}
use Rattle.laws.specs.Splits.{single_splits, level_splits}

-- c levels of which each splits at most k buckets
most_all : (n x v k : ℕ) (f : ℕ → Level) (i c : ℕ) → ((j : ℕ) → i ≤ j → j < i + c → insert_splits n j x v (f j) ≤ k)
    → insert_all_splits n i x v (up_from f i c) ≤ k * c
most_all n x v k f i zero each = omega arith
most_all n x v k f i (suc c) each =
    omega (arith, mul-suc k c, each i (omega arith) (omega arith), most_all n x v k f (suc i) c (λ j low high. each j (omega arith) (omega arith)))

module _ (s : Shape) (stamp v : ℕ) (ws : List ℕ) where
  abbrev parity : ℕ
  parity = interval s stamp % 2

  -- how many buckets the levels of the stamp's half split, from level i on
  abbrev pub splits_from : ℕ → ℕ
  splits_from i = insert_all_splits s.n i (offset_of s stamp) v (levels_from s parity ws i)

  pub splits_from-start : splits_from 0 ≡ deliver_splits s stamp v (decode_block s ws)
  unfolding deliver_splits
  splits_from-start =
      ap (insert_all_splits s.n 0 (offset_of s stamp) v) (levels_from_all s parity ws ∙ ap (λ (h : Half). h.levels) (sym (half_of_decode s (interval s stamp) ws)))

  pub splits_from_step : (i : ℕ) → i ≤ s.last → splits_from i ≡ insert_splits s.n i (offset_of s stamp) v (level_at s parity ws i) + splits_from (suc i)
  splits_from_step i low = ap (insert_all_splits s.n i (offset_of s stamp) v) (levels_from_step s parity ws i low)

  pub splits_from_end : splits_from (suc s.last) ≡ 0
  splits_from_end = ap (insert_all_splits s.n (suc s.last) (offset_of s stamp) v) (levels_from-none s parity ws)

  -- a delivery into a sound block splits at most k × last buckets: k on each level from 1, none on level 0
  pub deliver_splits_lem : Whole s ws → deliver_splits s stamp v (decode_block s ws) ≤ s.k * s.last
  deliver_splits_lem w =
      let x : ℕ = offset_of s stamp in
      let inside : x < 2 ^ s.k = mod-lt stamp (pow_pos s.k) in
      let each : (i : ℕ) → i ≤ s.last → insert_splits s.n i x v (level_at s parity ws i) ≤ s.k =
      λ i low. level_splits s.k s.n i (get_or ws (total_start parity) 0) x v (level_at s parity ws i) inside (whole_level s ws w parity (omega arith) i low) in
      let left : suc s.last - 1 ≡ s.last = omega arith in
      let upper : splits_from 1 ≤ s.k * (suc s.last - 1) =
      most_all s.n x v s.k (level_at s parity ws) 1 (suc s.last - 1) (λ j low high. each j (omega arith)) in
      omega (arith, splits_from-start, splits_from_step 0 (omega arith), single_splits s.n x v (level_at s parity ws 0), upper, ap (λ (z : ℕ). s.k * z) left)
