-- The sum of a question compared with the ledger's. Rests on what a window covers, on the relative bound of fed levels, and on the limit of
-- error of the level that serves.
use Rattle.std.proofs.Math.Bool.{Bool}
use Rattle.std.specs.Prelude.{◌≡◌, List}
use Rattle.std.proofs.Common.{sym, ⊎_elim, le_refl, eq-eqb, ne_eqb}
use Rattle.std.proofs.Math.Path.{subst}
use Prim.Native.Nat.{ℕ, ◌+◌, ◌*◌, ◌^◌, ◌≤◌, ◌<◌}
use native.Mathlib.Omega.{arith}
use Rattle.shape.specs.declared.Shape.{Shape}
use Rattle.model.specs.Block.{Half, interval, offset_of, opening, answer, window_sum, sum_from, serving, serving_index}
use Rattle.model.proofs.BlockLaws.{window_sum-none, window_sum_some}
use Rattle.model.specs.Ledger.{Entry, Ledger, volume_of, of_interval, of_window}
use Rattle.model.specs.Ground.{opened_levels, level_for, error_limit}
use Rattle.model.specs.Claim.{Admits, Near}
use Rattle.laws.specs.Cond.{eq_or_ne}
use Rattle.theory.specs.Fed.{counted}
use Rattle.theory.specs.Relative.{admits_more}
use Rattle.theory.proofs.RelativeLaws.{relative}
use Rattle.theory.proofs.Limited.{fed_limited}
use Rattle.ledger.specs.Time.{offset_lt, interval_mono, interval_near}
use Rattle.ledger.specs.Grown.{events, events_inside, half_fed, half_for, counted-events, counted_all}
use Rattle.ledger.specs.Book.{block_for}
use Rattle.ledger.specs.State.{Good}
use Rattle.ledger.specs.Window.{from_offset, window_none, window_own, window_before, near_more, near_none}
use Rattle.ledger.proofs.BookLaws.{half_of_served}

module _ (l : Ledger) (good : Good l) where
  abbrev s : Shape
  s = l.shape

  abbrev clock : ℕ
  clock = l.clock

  abbrev es : List Entry
  es = l.entries

  -- a relation between the sum from offset a on of the half for interval j, and the ledger's sum there
  abbrev HalfRelates : (ℕ → ℕ → Type 0) → (Entry → Bool) → ℕ → ℕ → Type 0
  HalfRelates R p j a = R (sum_from a (serving a (half_for s (of_interval s p j) es).levels).buckets) (volume_of (from_offset s p j a) es)

  -- if a relation survives adding the same volume on both sides and holds of the half in which the window opens, it holds of the sums of a
  -- window above 0
  opened_relates : (R : ℕ → ℕ → Type 0) → ((x y more : ℕ) → R x y → R (x + more) (y + more)) → (p : Entry → Bool) (window : ℕ) → 0 < window
      → window ≤ 2 ^ s.k → HalfRelates R p (interval s (opening clock window)) (offset_of s (opening clock window))
      → R (answer s clock (opening clock window) (block_for s clock es p)) (volume_of (of_window clock p window) es)
  unfolding answer half_fed
  opened_relates R more p window some w half =
      let start : ℕ = opening clock window in
      let from : ℕ = interval s start in
      let current : ℕ = interval s clock in
      let low : from ≤ current = interval_mono s (omega arith) in
      let high : current ≤ from + 1 = interval_near s start clock (omega arith) in
      rw (half_of_served s clock es p from low high, half_of_served s clock es p current (le_refl current) (omega arith))
      (⊎_elim
      (λ (same : from ≡ current). rw (eq-eqb from current same, window_own s clock p window same es good.past, ← same) half)
      (λ (other : from ≡ current → ⊥).
      rw (ne_eqb from current other, window_before s clock p window (omega (arith, other)) es good.past)
      (more _ _ (volume_of (of_interval s p current) es) half))
      (eq_or_ne from current))

  -- if it holds of 0 and 0 too, it holds of the sums of every window
  pub sum_relates : (R : ℕ → ℕ → Type 0) → ((x y more : ℕ) → R x y → R (x + more) (y + more)) → R 0 0 → (p : Entry → Bool) (window : ℕ)
      → window ≤ 2 ^ s.k → (0 < window → HalfRelates R p (interval s (opening clock window)) (offset_of s (opening clock window)))
      → R (window_sum s clock window (block_for s clock es p)) (volume_of (of_window clock p window) es)
  sum_relates R more nothing p window w half =
      ⊎_elim
      (λ (none : window ≡ 0). rw (window_sum-none s clock window (block_for s clock es p) none, none, window_none clock p es) nothing)
      (λ (other : window ≡ 0 → ⊥).
      let some : 0 < window = omega (arith, other) in
      rw (window_sum_some s clock window (block_for s clock es p) other) (opened_relates R more p window some w (half some)))
      (eq_or_ne window 0)

  -- for entries of which no interval has more than 2^M
  module _ (p : Entry → Bool) (few : (j : ℕ) → volume_of (of_interval s p j) es ≤ 2 ^ s.m) where
    small : (j : ℕ) → counted (events s (of_interval s p j) es) 0 < s.n * 2 ^ s.last
    small j = omega (arith, counted_all s (of_interval s p j) es, few j, good.reach)

    -- the relative bound
    pub sum_admits : s.k + 1 < s.n → (window : ℕ) → window ≤ 2 ^ s.k
        → Admits s.n s.k (window_sum s clock window (block_for s clock es p)) (volume_of (of_window clock p window) es)
    unfolding half_fed
    sum_admits room window w =
        let j : ℕ = interval s (opening clock window) in
        let a : ℕ = offset_of s (opening clock window) in
        let q : Entry → Bool = of_interval s p j in
        sum_relates (Admits s.n s.k) (admits_more s.n s.k) (record { above = omega arith; below = omega arith }) p window w
        (λ _. rw (← counted-events s q a es)
        (relative s.k s.n s.last (events s q es) (events_inside s q es) room (small j) a (offset_lt s (opening clock window))))

    -- the limit of the level that serves a window above 0
    opened_limited : (window : ℕ) → 0 < window → window ≤ 2 ^ s.k → let b = block_for s clock es p in
        Near (error_limit s.k (serving_index (offset_of s (opening clock window)) (opened_levels s clock window b))) (window_sum s clock window b)
        (volume_of (of_window clock p window) es)
    unfolding half_fed
    opened_limited window some w =
        let start : ℕ = opening clock window in
        let j : ℕ = interval s start in
        let a : ℕ = offset_of s start in
        let q : Entry → Bool = of_interval s p j in
        let limit : ℕ = error_limit s.k (serving_index a (half_for s q es).levels) in
        subst (λ (h : Half). Near (error_limit s.k (serving_index a h.levels)) (window_sum s clock window (block_for s clock es p)) (volume_of (of_window clock p window) es))
        (sym (half_of_served s clock es p j (interval_mono s (omega arith)) (interval_near s start clock (omega arith))))
        (sum_relates (Near limit) (near_more limit) near_none p window w
        (λ _. rw (← counted-events s q a es)
        (fed_limited s.k s.n good.limits.low_n (events s q es) (events_inside s q es) a (offset_lt s start) s.last (small j))))

    -- the limit of the level used
    pub sum_limited : (window : ℕ) → window ≤ 2 ^ s.k → let b = block_for s clock es p in
        Near (error_limit s.k (level_for s clock window b)) (window_sum s clock window b) (volume_of (of_window clock p window) es)
    sum_limited window w =
        ⊎_elim
        (λ (none : window ≡ 0).
        rw (eq-eqb window 0 none)
        (sum_relates (Near 0) (near_more 0) near_none p window w (λ some. absurd (omega arith))))
        (λ (some : window ≡ 0 → ⊥). rw (ne_eqb window 0 some) (opened_limited window (omega (arith, some)) w))
        (eq_or_ne window 0)
