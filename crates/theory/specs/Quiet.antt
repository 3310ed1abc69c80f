-- If at most n different offsets from a on had a delivery, F of level 0 is at most a, so its sum from there on is exact. Rests on level 0 keeping
-- the n highest offsets. Assumes nothing.
use Rattle.std.specs.Prelude.{Bool, true, false, ◌≡◌, refl, List, [], ◌∷◌, ℕ, zero, suc, ◌+◌, ◌-◌, ◌^◌, ◌≤◌, ◌<◌, length}
use Rattle.std.proofs.Common.{⊎_elim, subst, le_refl, arith}
use Rattle.model.specs.Level.{Bucket, Level}
use Rattle.model.specs.Block.{sum_from}
use Rattle.laws.specs.Cond.{lt_or_ge, eq_or_ne}
use Rattle.laws.specs.Put.{Rising, sum_from-past}
use Rattle.theory.specs.Fed.{Event, fed, counted, Inside, fed_tracks}
use Rattle.theory.specs.Highest.{head_counts, raised-to, fed_highest}
use Rattle.theory.specs.Count.{count_from, count_later}

-- if p holds wherever rising buckets have weight, each of them is counted
rising_count : (p : ℕ → Bool) (k c i : ℕ) (bs : List Bucket) → Rising k i bs → 2 ^ k ≤ i + c
    → ((t : ℕ) → i ≤ t → sum_from (suc t) bs < sum_from t bs → p t ≡ true) → length bs ≤ count_from p i c
rising_count p k c i [] r end shows = omega arith
rising_count p k zero i (b ∷ bs) r end shows = absurd (omega (arith, r.0.low, r.0.high))
rising_count p k (suc c) i (b ∷ bs) r end shows =
    ⊎_elim
    (λ (here : b.offset ≡ i).
    let rest : length bs ≤ count_from p (suc i) c =
    rising_count p k c (suc i) bs (subst (λ (z : ℕ). Rising k z bs) (omega arith) r.1) (omega arith)
    (λ t low drop. shows t (omega arith) (omega (arith, drop, sum_from-past b bs t (omega arith), sum_from-past b bs (suc t) (omega arith)))) in
    rw (shows i (le_refl i) (head_counts b bs i here r.0.some)) (omega (arith, rest)))
    (λ (other : b.offset ≡ i → ⊥).
    let above : suc i ≤ b.offset = omega (arith, r.0.low, other) in
    omega (arith, rising_count p k c (suc i) (b ∷ bs) (raised-to k i (suc i) b bs above r) (omega arith) (λ t low. shows t (omega arith))))
    (eq_or_ne b.offset i)

-- p holds of every offset from a on at which volume was delivered
module _ (k n : ℕ) (two : 2 ≤ n) (es : List Event) (inside : Inside k es) (a : ℕ) (p : ℕ → Bool)
    (borne : (t : ℕ) → a ≤ t → p t ≡ false → counted es t ≡ counted es (suc t)) where
  shown : (t : ℕ) → a ≤ t → counted es (suc t) < counted es t → p t ≡ true
  shown t low drop = go (p t) refl
    where
      go : (b : Bool) → p t ≡ b → b ≡ true
      go true e = refl
      go false e = absurd (omega (arith, drop, borne t low e))

  -- if level 0 evicted a bucket at a or above it, its n buckets lie above that one, which makes n + 1 offsets
  pub quiet_holds : count_from p a (2 ^ k - a) ≤ n → (fed k n 0 es).first ≤ a
  quiet_holds few = go (fed k n 0 es).first refl
    where
      go : (f : ℕ) → (fed k n 0 es).first ≡ f → f ≤ a
      go zero e = omega arith
      go (suc f) e =
          ⊎_elim
          (λ (past : a < suc f).
          let level : Level = fed k n 0 es in
          let top = fed_highest k n two es inside in
          let high : f < 2 ^ k = omega (arith, (fed_tracks k n 0 two es inside).inside) in
          let rest : ℕ = 2 ^ k - suc f in
          let kept : n ≤ count_from p (suc f) rest =
          subst (λ (z : ℕ). z ≤ count_from p (suc f) rest) (top.full (omega arith))
          (rising_count p k rest (suc f) level.buckets (subst (λ (z : ℕ). Rising k z level.buckets) e top.rising) (omega arith)
          (λ t low drop. shown t (omega arith) (omega (arith, drop, top.exact t (omega arith), top.exact (suc t) (omega arith))))) in
          let evicted : p f ≡ true = shown f (omega arith) (top.edge f e) in
          let both : count_from p f (suc rest) ≡ suc (count_from p (suc f) rest) = rw evicted (omega arith) in
          let start : f - a + a ≡ f = omega arith in
          let ticks : f - a + suc rest ≡ 2 ^ k - a = omega arith in
          absurd (omega (arith, kept, both, few, rw (start, ticks) at (count_later p (f - a) a (suc rest)))))
          (λ (holds : suc f ≤ a). holds)
          (lt_or_ge a (suc f))
