-- How many numbers of a range satisfy a test, and so how many different numbers a list has. Assumes nothing.
use Rattle.std.specs.Prelude.{Bool, true, false, cond, ◌≡◌, refl, List, [], ◌∷◌, ℕ, zero, suc, ◌+◌, ◌≤◌, ◌<◌}
use Rattle.std.proofs.Common.{⊎_elim, le_refl, zero-add, arith, eq-eqb, ne_eqb}
use Rattle.model.specs.Stamps.{occurs, different}
use Rattle.model.specs.Claim.{Each}
use Rattle.laws.specs.Cond.{eq_or_ne}

-- of how many of the c numbers i, i + 1, .. p holds
abbrev pub count_from : (ℕ → Bool) → ℕ → ℕ → ℕ
count_from p i zero = 0
count_from p i (suc c) = cond (p i) 1 0 + count_from p (suc i) c

-- at most all of them
pub count_most : (p : ℕ → Bool) (i c : ℕ) → count_from p i c ≤ c
count_most p i zero = omega arith
count_most p i (suc c) = go (p i) (count_most p (suc i) c)
  where
    go : (here : Bool) → count_from p (suc i) c ≤ c → cond here 1 0 + count_from p (suc i) c ≤ suc c
    go true h = omega arith
    go false h = omega arith

count_same : (p q : ℕ → Bool) (i c : ℕ) → ((t : ℕ) → i ≤ t → p t ≡ q t) → count_from p i c ≡ count_from q i c
count_same p q i zero same = refl
count_same p q i (suc c) same = rw (same i (le_refl i), count_same p q (suc i) c (λ t h. same t (omega arith)))

-- the same numbers, from another start
pub count_shift : (p : ℕ → Bool) (b i c : ℕ) → count_from p (b + i) c ≡ count_from (λ t. p (b + t)) i c
count_shift p b i zero = refl
count_shift p b i (suc c) =
    let next : suc (b + i) ≡ b + suc i = omega arith in
    rw next (rw (count_shift p b (suc i) c))

-- from a later number on, up to the same end, the count is no greater
pub count_later : (p : ℕ → Bool) (d i c : ℕ) → count_from p (d + i) c ≤ count_from p i (d + c)
count_later p zero i c = rw (zero-add i, zero-add c) (le_refl _)
count_later p (suc d) i c =
    let moved : d + suc i ≡ suc d + i = omega arith in
    let longer : suc (d + c) ≡ suc d + c = omega arith in
    rw (← moved, ← longer) (omega (arith, count_later p d (suc i) c))

-- ---- different numbers

-- one number more, x, in front of a list: the count rises by 1, unless x occurs already
module _ (x : ℕ) (xs : List ℕ) where
  count_more : (i c : ℕ) → i ≤ x → x < i + c → count_from (λ t. occurs t (x ∷ xs)) i c ≡ cond (occurs x xs) 0 1 + count_from (λ t. occurs t xs) i c
  count_more i zero low high = absurd (omega arith)
  count_more i (suc c) low high =
      ⊎_elim
      (λ (here : i ≡ x).
      let rest = count_same (λ t. occurs t (x ∷ xs)) (λ t. occurs t xs) (suc i) c (λ t above. rw (ne_eqb t x (λ same. omega arith))) in
      rw (eq-eqb i x here, rest, here) (first (occurs x xs)))
      (λ (other : i ≡ x → ⊥).
      rw (ne_eqb i x other, count_more (suc i) c (omega (arith, other)) (omega arith)) (omega arith))
      (eq_or_ne i x)
    where
      first : (b : Bool) → 1 + count_from (λ t. occurs t xs) (suc x) c ≡ cond b 0 1 + (cond b 1 0 + count_from (λ t. occurs t xs) (suc x) c)
      first true = omega arith
      first false = omega arith

-- so different numbers in a range can be counted along it
pub count_different : (i c : ℕ) (xs : List ℕ) → Each (λ x. (i ≤ x) × (x < i + c)) xs → count_from (λ t. occurs t xs) i c ≡ different xs
count_different i c [] within = none i c
  where
    none : (i c : ℕ) → count_from (λ t. false) i c ≡ 0
    none i zero = refl
    none i (suc c) = rw (none (suc i) c)
count_different i c (x ∷ xs) within = rw (count_more x xs i c within.0.0 within.0.1, count_different i c xs within.1)
