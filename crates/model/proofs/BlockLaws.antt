-- What a window covers, where it opens and what is late, each said in another way; the sum of a window by its two cases; which halves the
-- clock empties, by how many intervals it goes on. Assumes nothing.
use Rattle.std.specs.Prelude.{Bool, true, false, ◌&&◌, ◌||◌, ◌≡◌, refl, ℕ, ◌+◌, ◌%◌, ◌^◌, ◌≤◌, ◌<◌, leb, ltb}
use Rattle.std.proofs.Common.{le_refl, arith, ltb-true, ltb-false, leb-true, leb-false, le-leb, eq-eqb, ne_eqb}
use Rattle.std.proofs.lemmas.Bool.{lt-leb}
use Rattle.shape.specs.declared.Shape.{Shape}
use Rattle.shape.specs.LimitsLaws.{both}
use Rattle.model.specs.Block.{Block, opening, covers, late, answer, window_sum, empties}

-- ---- windows

module _ (clock window : ℕ) where
  -- a window covers exactly the stamps with stamp ≤ clock < stamp + window
  pub covers-above : (stamp : ℕ) → covers clock window stamp ≡ (ltb clock (stamp + window) && leb stamp clock)
  covers-above stamp = go (ltb clock (stamp + window)) refl
    where
      go : (t : Bool) → ltb clock (stamp + window) ≡ t → covers clock window stamp ≡ (t && leb stamp clock)
      go true h = rw (le-leb (opening clock window) stamp (omega (arith, ltb-true clock (stamp + window) h)))
      go false h = rw (lt-leb (opening clock window) stamp (omega (arith, ltb-false clock (stamp + window) h)))

  -- a window that exceeds the clock opens at 0
  pub opening-zero : clock < window → opening clock window ≡ 0
  opening-zero h = omega arith

  -- its opening is the first stamp that it covers
  pub opening_covered : 0 < window → covers clock window (opening clock window) ≡ true
  opening_covered some =
      let start : ℕ = opening clock window in
      rw (le-leb start start (le_refl start), le-leb start clock (omega arith))

  pub opening-first : (stamp : ℕ) → stamp < opening clock window → covers clock window stamp ≡ false
  opening-first stamp h = rw (lt-leb (opening clock window) stamp h)

-- window 0 covers nothing
pub covers-none : (clock stamp : ℕ) → covers clock 0 stamp ≡ false
covers-none clock stamp = go (leb (opening clock 0) stamp) refl
  where
    go : (t : Bool) → leb (opening clock 0) stamp ≡ t → (t && leb stamp clock) ≡ false
    go true h = lt-leb stamp clock (omega (arith, leb-true (opening clock 0) stamp h))
    go false h = refl

-- windows read end to end, the later one `window` ticks after the earlier one: no stamp lies in both, and together they are one window
module _ (clock earlier window stamp : ℕ) where
  ends_before : opening (clock + window) window ≤ stamp → covers clock earlier stamp ≡ false
  ends_before above = go (leb (opening clock earlier) stamp)
    where
      go : (t : Bool) → (t && leb stamp clock) ≡ false
      go true = lt-leb stamp clock (omega arith)
      go false = refl

  pub covers_once : covers (clock + window) window stamp ≡ true → covers clock earlier stamp ≡ false
  covers_once here = ends_before (leb-true (opening (clock + window) window) stamp (both here).0)

  pub covers_joined : covers (clock + window) (earlier + window) stamp ≡ (covers (clock + window) window stamp || covers clock earlier stamp)
  covers_joined = go (leb (opening (clock + window) window) stamp) refl
    where
      same : opening (clock + window) (earlier + window) ≡ opening clock earlier
      same = omega arith

      alone : (t : Bool) → t ≡ (t || false)
      alone true = refl
      alone false = refl

      go : (t : Bool) → leb (opening (clock + window) window) stamp ≡ t
          → covers (clock + window) (earlier + window) stamp ≡ ((t && leb stamp (clock + window)) || covers clock earlier stamp)
      go true e =
          let above : opening (clock + window) window ≤ stamp = leb-true (opening (clock + window) window) stamp e in
          rw (le-leb (opening (clock + window) (earlier + window)) stamp (omega arith), ends_before above) (alone (leb stamp (clock + window)))
      go false e =
          let below : stamp < opening (clock + window) window = leb-false (opening (clock + window) window) stamp e in
          rw (same, le-leb stamp (clock + window) (omega arith), le-leb stamp clock (omega arith))

-- late is a stamp below the opening of the longest window
pub late_below : (s : Shape) (clock stamp : ℕ) → late s clock stamp ≡ ltb stamp (opening clock (2 ^ s.k))
late_below s clock stamp = go (ltb stamp (opening clock (2 ^ s.k))) refl
  where
    go : (t : Bool) → ltb stamp (opening clock (2 ^ s.k)) ≡ t → late s clock stamp ≡ t
    go true h = le-leb (stamp + 2 ^ s.k) clock (omega (arith, ltb-true stamp (opening clock (2 ^ s.k)) h))
    go false h = lt-leb (stamp + 2 ^ s.k) clock (omega (arith, ltb-false stamp (opening clock (2 ^ s.k)) h))

module _ (s : Shape) (clock window : ℕ) (b : Block) where
  pub window_sum-none : window ≡ 0 → window_sum s clock window b ≡ 0
  unfolding window_sum
  window_sum-none h = rw (eq-eqb window 0 h)

  pub window_sum_some : (window ≡ 0 → ⊥) → window_sum s clock window b ≡ answer s clock (opening clock window) b
  unfolding window_sum
  window_sum_some h = rw (ne_eqb window 0 h)

-- ---- the clock

module _ (from to j : ℕ) where
  -- within an interval none is emptied
  pub empties_same : to ≡ from → empties from to j ≡ false
  empties_same e = simp (eq-eqb to from e)

  -- on entering the next interval its own half is
  pub empties_next : to ≡ from + 1 → j % 2 ≡ to % 2 → empties from to j ≡ true
  empties_next e p = simp (ne_eqb to from (λ q. omega arith), eq-eqb to (from + 1) e, eq-eqb (j % 2) (to % 2) p)

  -- but not the half of the interval before
  pub empties_other : to ≡ from + 1 → j % 2 ≡ from % 2 → empties from to j ≡ false
  empties_other e p = simp (ne_eqb to from (λ q. omega arith), eq-eqb to (from + 1) e, ne_eqb (j % 2) (to % 2) (λ q. omega arith))

  -- both are where one or more intervals are skipped
  pub empties_skipped : from + 1 < to → empties from to j ≡ true
  empties_skipped h = simp (ne_eqb to from (λ q. omega arith), ne_eqb to (from + 1) (λ q. omega arith))
