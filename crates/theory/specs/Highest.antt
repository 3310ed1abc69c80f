-- In whatever order deliveries come, level 0 keeps the n highest offsets and counts each of them exactly. Stated as conditions: level
-- 0 meets them, and only one level does. Assumes nothing.
use Rattle.std.specs.Prelude.{cond, ◌≡◌, refl, List, [], ◌∷◌, leb, length}
use Rattle.std.proofs.Common.{⊎_elim, sym, ap, ◌∙◌, subst, le_refl, arith}
use Rattle.std.proofs.Math.Path.{fun_ext}
use Prim.Native.Nat.{ℕ, zero, suc, ◌+◌, ◌^◌, ◌≤◌, ◌<◌}
use Rattle.model.specs.Level.{Bucket, Level, bucket_of, level_of, put, evict, unit, insert}
use Rattle.model.specs.Block.{sum_from}
use Rattle.laws.specs.Cond.{by_lt, by_le, by_eq, lt_or_ge}
use Rattle.laws.specs.SumFrom.{more, AtLeast, at_least-less, share_all, share-suc, share-falls, sum_from_all, sum_from-falls}
use Rattle.laws.specs.Put.{Rising, rising-above, sum_from-past}
use Rattle.laws.specs.Unit.{Follows, Tracks, insert_tracks, grow_follows}
use Rattle.theory.specs.Fed.{Event, fed, counted, Inside, fed_tracks}

-- if buckets were evicted, something was delivered at the offset just below `first`
abbrev Edge : (ℕ → ℕ) → Level → Type 0
Edge c l = (f : ℕ) → l.first ≡ suc f → c (suc f) < c f

-- the n highest offsets at which c counts, each with its count; `first` is the next lower one + 1, or 0 if there is none
pub record Highest (k n : ℕ) (c : ℕ → ℕ) (l : Level) : Type 0 where
  pub rising : Rising k l.first l.buckets
  pub exact : (t : ℕ) → l.first ≤ t → sum_from t l.buckets ≡ c t
  pub few : length l.buckets ≤ n
  pub full : 0 < l.first → length l.buckets ≡ n
  pub edge : Edge c l

-- the first bucket of a list counts in the sum from its own offset f on, and no longer from the next one on
pub head_counts : (b : Bucket) (bs : List Bucket) (f : ℕ) → b.offset ≡ f → 1 ≤ b.weight → sum_from (suc f) (b ∷ bs) < sum_from f (b ∷ bs)
head_counts b bs f same some = omega (arith, share_all b.offset b.weight f (omega arith), sum_from-past b bs (suc f) (omega arith), sum_from-falls bs f (suc f) (omega arith))

-- ---- the edge is kept

evict_edge : (k n : ℕ) (c : ℕ → ℕ) (first : ℕ) (bs : List Bucket) → Follows k 0 c first bs → Edge c (level_of first bs) → Edge c (evict n 0 first bs)
evict_edge k n c first [] g edge = edge
evict_edge k n c first (b ∷ bs) g edge =
    by_eq (suc (length bs)) (n + 1) (Edge c)
    (λ _ f e.
    let same : b.offset ≡ f = omega arith in
    let here = g.1 f (omega (arith, g.0.0.low)) in
    let next = g.1 (suc f) (omega (arith, g.0.0.low)) in
    omega (arith, head_counts b bs f same g.0.0.some))
    (λ _. edge)

module _ (k n : ℕ) (two : 2 ≤ n) (x : ℕ) (inside : x < 2 ^ k) where
  unit_edge : (total : ℕ) (c : ℕ → ℕ) (l : Level) → Tracks k n 0 total c l → Edge c l → Edge (more x 1 c) (unit n 0 x l)
  unfolding unit
  unit_edge total c l t edge =
      let still : Edge (more x 1 c) l = λ f e. omega (arith, edge f e, share-falls x 1 f (suc f) (omega arith)) in
      by_lt x l.first (Edge (more x 1 c))
      (λ _. still)
      (λ kept. evict_edge k n (more x 1 c) l.first (put x l.buckets)
      (grow_follows k x c l.first l.buckets kept inside t.falls 0 t.follows) still)

  insert_edge : (total : ℕ) (c : ℕ → ℕ) (v : ℕ) (l : Level) → Tracks k n 0 total c l → Edge c l → Edge (more x v c) (insert n 0 x v l)
  unfolding insert
  insert_edge total c zero l t edge f e = omega (arith, edge f e, share-falls x 0 f (suc f) (omega arith))
  insert_edge total c (suc v) l t edge f e =
      let before = insert_tracks k n 0 two total c x v l inside t in
      let after = unit_edge (total + v) (more x v c) (insert n 0 x v l) before (insert_edge total c v l t edge) f e in
      omega (arith, share-suc x v f, share-suc x v (suc f))

module _ (k n : ℕ) (two : 2 ≤ n) where
  fed_edge : (es : List Event) → Inside k es → Edge (counted es) (fed k n 0 es)
  fed_edge [] h = λ f e. absurd (omega arith)
  fed_edge (e ∷ es) h =
      insert_edge k n two e.at h.0 (counted es 0) (counted es) e.vol (fed k n 0 es) (fed_tracks k n 0 two es h.1) (fed_edge es h.1)

  pub fed_highest : (es : List Event) → Inside k es → Highest k n (counted es) (fed k n 0 es)
  fed_highest es h =
      let t = fed_tracks k n 0 two es h in
      record { rising = t.follows.0; exact = t.follows.1; few = t.few; full = t.full; edge = fed_edge es h }

-- ---- only one level meets the conditions

-- the first bucket of a list shows in its sums, so a list that starts above it cannot have the same sums
head_shows : (b : Bucket) (bs others : List Bucket) → 1 ≤ b.weight → AtLeast (suc b.offset) others
    → ((t : ℕ) → b.offset ≤ t → sum_from t (b ∷ bs) ≡ sum_from t others) → ⊥
head_shows b bs others some above same =
    let o = b.offset in
    omega (
      arith,
      same o (le_refl o),
      same (suc o) (omega arith),
      head_counts b bs o refl some,
      sum_from_all o others (at_least-less o (suc o) others (omega arith) above),
      sum_from_all (suc o) others above,
    )

same_bucket : {o o' w w' g g' : ℕ} → o ≡ o' → w ≡ w' → g ≡ g' → bucket_of o w g ≡ bucket_of o' w' g'
same_bucket p q r = rw (p, q, r)

-- two rising lists with the same sums from a on
module _ (k a : ℕ) where
  abbrev Same : List Bucket → List Bucket → Type 0
  Same bs cs = (t : ℕ) → a ≤ t → sum_from t bs ≡ sum_from t cs

  -- neither can start above the first bucket of the other
  starts : (b : Bucket) (bs cs : List Bucket) → Rising k a (b ∷ bs) → Rising k (suc b.offset) cs → Same (b ∷ bs) cs → ⊥
  starts b bs cs r s same =
      head_shows b bs cs r.0.some (rising-above k (suc b.offset) (suc b.offset) cs (le_refl _) s) (λ t h. same t (omega (arith, r.0.low)))

  -- rising buckets also rise from where their first one starts, or from any offset before it
  pub raised-to : (m : ℕ) (d : Bucket) (cs : List Bucket) → m ≤ d.offset → Rising k a (d ∷ cs) → Rising k m (d ∷ cs)
  raised-to m d cs h s = (record { low = h; high = s.0.high; one = s.0.one; some = s.0.some }, s.1)

  same_start : (b d : Bucket) (bs cs : List Bucket) → Rising k a (b ∷ bs) → Rising k a (d ∷ cs) → Same (b ∷ bs) (d ∷ cs) → b.offset ≤ d.offset
  same_start b d bs cs r s same = ⊎_elim
      (λ (l : d.offset < b.offset). absurd (starts d cs (b ∷ bs) s (raised-to (suc d.offset) b bs l r) (λ t h. sym (same t h))))
      (λ (l : b.offset ≤ d.offset). l)
      (lt_or_ge d.offset b.offset)

-- so rising buckets are determined by their sums
rising_same : (k a : ℕ) (bs cs : List Bucket) → Rising k a bs → Rising k a cs → Same k a bs cs → bs ≡ cs
rising_same k a [] [] r s same = refl
rising_same k a [] (d ∷ cs) r s same = absurd (starts k a d cs [] s tt (λ t h. sym (same t h)))
rising_same k a (b ∷ bs) [] r s same = absurd (starts k a b bs [] r tt same)
rising_same k a (b ∷ bs) (d ∷ cs) r s same =
    let o : b.offset ≡ d.offset = omega (arith, same_start k a b d bs cs r s same, same_start k a d b cs bs s r (λ t h. sym (same t h))) in
    let from = b.offset + 1 in
    let rest : bs ≡ cs =
    rising_same k from bs cs r.1 (subst (λ (z : ℕ). Rising k (z + 1) cs) (sym o) s.1)
    (λ t h. omega (arith, same t (omega (arith, r.0.low)), sum_from-past b bs t (omega arith), sum_from-past d cs t (omega arith))) in
    let above = ap (sum_from b.offset) rest in
    let w : b.weight ≡ d.weight = omega (
      arith,
      same b.offset r.0.low,
      share_all b.offset b.weight b.offset (le_refl _),
      share_all d.offset d.weight b.offset (omega arith),
    ) in
    rw rest (ap (λ (z : Bucket). z ∷ cs) (same_bucket o (r.0.one ∙ sym s.0.one) w))

-- the buckets from t on
abbrev keep : ℕ → List Bucket → List Bucket
keep t [] = []
keep t (b ∷ bs) = cond (leb t b.offset) (b ∷ bs) (keep t bs)

module _ (t : ℕ) where
  keep-rising : (k a : ℕ) (bs : List Bucket) → Rising k a bs → Rising k t (keep t bs)
  keep-rising k a [] r = tt
  keep-rising k a (b ∷ bs) r = by_le t b.offset (Rising k t) (λ l. raised-to k a t b bs l r) (λ _. keep-rising k (b.offset + 1) bs r.1)

  keep-sum : (u : ℕ) → t ≤ u → (bs : List Bucket) → sum_from u (keep t bs) ≡ sum_from u bs
  keep-sum u h [] = refl
  keep-sum u h (b ∷ bs) =
      by_le t b.offset (λ z. sum_from u z ≡ sum_from u (b ∷ bs)) (λ _. refl) (λ l. keep-sum u h bs ∙ sym (sum_from-past b bs u (omega arith)))

  keep-length : (bs : List Bucket) → length (keep t bs) ≤ length bs
  keep-length [] = omega arith
  keep-length (b ∷ bs) = by_le t b.offset (λ z. length z ≤ suc (length bs)) (λ _. omega arith) (λ _. omega (arith, keep-length bs))

  -- a bucket that counts below t is not kept
  keep_fewer : (k a s : ℕ) (bs : List Bucket) → s ≤ t → Rising k a bs → sum_from t bs < sum_from s bs → length (keep t bs) < length bs
  keep_fewer k a s [] h r less = absurd (omega arith)
  keep_fewer k a s (b ∷ bs) h r less =
      by_le t b.offset (λ z. length z < suc (length bs))
      (λ l. let above = rising-above k t t (b ∷ bs) (le_refl t) (raised-to k a t b bs l r) in
      absurd (omega (arith, sum_from_all t (b ∷ bs) above, sum_from_all s (b ∷ bs) (at_least-less s t (b ∷ bs) h above))))
      (λ _. omega (arith, keep-length bs))

module _ {k n : ℕ} {c : ℕ → ℕ} where
  -- no level has a lower `first` than the other: it would have evicted too few buckets
  first-most : (l m : Level) → Highest k n c l → Highest k n c m → l.first ≤ m.first
  first-most l m p q = go l.first refl
    where
      go : (f : ℕ) → l.first ≡ f → f ≤ m.first
      go zero e = omega arith
      go (suc f) e = ⊎_elim
          (λ (above : m.first < suc f).
          let kept = keep (suc f) m.buckets in
          let agree : l.buckets ≡ kept =
          rising_same k (suc f) l.buckets kept (subst (λ (z : ℕ). Rising k z l.buckets) e p.rising) (keep-rising (suc f) k m.first m.buckets q.rising)
          (λ t h. omega (arith, p.exact t (omega arith), q.exact t (omega arith), keep-sum (suc f) t h m.buckets)) in
          absurd (omega (
            arith,
            ap length agree,
            p.full (omega arith),
            q.few,
            keep_fewer (suc f) k m.first f m.buckets (omega arith) q.rising
                (omega (arith, p.edge f e, q.exact f (omega arith), q.exact (suc f) (omega arith))),
          )))
          (λ (least : suc f ≤ m.first). least)
          (lt_or_ge m.first (suc f))

  highest_one : (l m : Level) → Highest k n c l → Highest k n c m → l ≡ m
  highest_one l m p q =
      let f : l.first ≡ m.first = omega (arith, first-most l m p q, first-most m l q p) in
      let bs : l.buckets ≡ m.buckets =
      rising_same k l.first l.buckets m.buckets p.rising (subst (λ (z : ℕ). Rising k z m.buckets) (sym f) q.rising)
      (λ t h. omega (arith, p.exact t h, q.exact t (omega arith))) in
      rw (f, bs)

-- the order of the events does not matter to level 0, which depends only on their counts
pub fed-order : (k n : ℕ) → 2 ≤ n → (es ds : List Event) → Inside k es → Inside k ds → ((t : ℕ) → counted es t ≡ counted ds t) → fed k n 0 es ≡ fed k n 0 ds
fed-order k n two es ds he hd same =
    highest_one (fed k n 0 es) (fed k n 0 ds) (fed_highest k n two es he)
    (subst (λ (c : ℕ → ℕ). Highest k n c (fed k n 0 ds)) (sym (fun_ext same)) (fed_highest k n two ds hd))
