-- A test of all numbers below n, as `(0..n).all(..)` makes it. Assumes nothing.
use Rattle.std.specs.Prelude.{Bool, true, false, ◌≡◌, ℕ, ◌<◌, length, slice_index_or}
use Rattle.std.specs.List.{AllWithin, HoldsAt, range_with_len}
use Rattle.std.specs.Bool.{MatchBool}
use Rattle.std.proofs.Common.{true≢false, refl, sym, ap, ◌∙◌, zero-add, arith}
use Rattle.std.proofs.lemmas.List.FromFn.{length-range_with_len, get_or-range_with_len}
use Rattle.model.specs.Sound.{all_from}
use Rattle.laws.specs.Parts.{all_from_intro, all_from_elim}

module _ (p : ℕ → Bool) (n : ℕ) where
  counted : (k d : ℕ) → k < n → p (slice_index_or (range_with_len 0 n) k d) ≡ p k
  counted k d h = ap p (get_or-range_with_len 0 n k d h ∙ zero-add k)

  -- what `cases_from_all` says of the range
  pub all_counted : (r : Bool)
      → MatchBool r (AllWithin (λ k. p k ≡ true) (range_with_len 0 n) 0 (length (range_with_len 0 n)))
      ((k : ℕ) × (k < length (range_with_len 0 n)) × HoldsAt (λ k. p k ≡ false) (range_with_len 0 n) k)
      → r ≡ all_from p 0 n
  all_counted true m =
      sym (all_from_intro p 0 n (λ j low high. sym (counted j 0 (omega arith)) ∙ m j 0 low (omega (arith, length-range_with_len 0 n))))
  all_counted false m = go (all_from p 0 n) refl
    where
      inside : m.0 < n
      inside = omega (arith, m.1, length-range_with_len 0 n)

      go : (s : Bool) → all_from p 0 n ≡ s → false ≡ all_from p 0 n
      go false e = sym e
      go true e = absurd (true≢false (sym (all_from_elim p 0 n e m.0 (omega arith) (omega (arith, inside))) ∙ sym (counted m.0 0 inside) ∙ m.2 0))
