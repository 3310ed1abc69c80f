-- What it means that a level follows counts c and a total: its structure, and how far its sums are from c. One decilitre keeps this, and so
-- does a delivery of v. For every level and every c. Assumes nothing.
use Rattle.std.specs.Prelude.{◌≡◌, refl, List, [], ◌∷◌, length}
use Rattle.std.proofs.Common.{sym, ap, ◌∙◌, subst, arith, pow_pos}
use Rattle.std.proofs.Math.Path.{fun_ext}
use Prim.Native.Nat.{ℕ, zero, suc, ◌+◌, ◌^◌, ◌≤◌, ◌<◌}
use Rattle.model.specs.Level.{Bucket, Level, bucket_of, level_of, grow, first_after, evict, unit, insert, empty_level}
use Rattle.model.specs.Block.{sum_from}
use Rattle.model.specs.Sound.{weight_of}
use Rattle.laws.specs.Cond.{by_lt, by_eq}
use Rattle.laws.specs.SumFrom.{more, Falling, share-none, share-suc, share-zero, more-falls}
use Rattle.laws.specs.Add.{Part, Chain, chain_ext, chain_end, width_pos, add-length, add_weight, add_chain}
use Rattle.laws.specs.Put.{Rising, sum_from-past, put-length, put_weight, put-sum, put-rising}

-- the buckets from `first` on: exact at level 0, and near c at the others
abbrev pub Follows : ℕ → ℕ → (ℕ → ℕ) → ℕ → List Bucket → Type 0
Follows k zero c first bs = Rising k first bs × ((t : ℕ) → first ≤ t → sum_from t bs ≡ c t)
Follows k (suc j) c first bs = Chain (2 ^ suc j) k c first bs

pub record Tracks (k n i total : ℕ) (c : ℕ → ℕ) (l : Level) : Type 0 where
  pub falls : Falling c
  pub few : length l.buckets ≤ n
  pub full : 0 < l.first → length l.buckets ≡ n
  pub within : weight_of l.buckets ≤ total
  pub whole : l.first ≡ 0 → weight_of l.buckets ≡ total
  pub inside : l.first < 2 ^ k
  pub follows : Follows k i c l.first l.buckets

-- ---- what the two kinds of level share

-- only the counts from `first` on matter
follows_ext : (k i : ℕ) {c c' : ℕ → ℕ} (first : ℕ) (bs : List Bucket) → ((t : ℕ) → first ≤ t → c' t ≡ c t) → Follows k i c first bs → Follows k i c' first bs
follows_ext k zero first bs same g = (g.0, λ t h. g.1 t h ∙ sym (same t h))
follows_ext k (suc j) first bs same g = chain_ext (2 ^ suc j) k first bs same g

grow-length : (i x : ℕ) (bs : List Bucket) → (length bs ≤ length (grow i x bs)) × (length (grow i x bs) ≤ suc (length bs))
grow-length zero x bs = put-length x bs
grow-length (suc j) x bs = add-length (suc j) x bs

module _ (k x : ℕ) (c : ℕ → ℕ) (first : ℕ) (bs : List Bucket) (kept : first ≤ x) (inside : x < 2 ^ k) where
  grow_weight : (i : ℕ) → Follows k i c first bs → weight_of (grow i x bs) ≡ suc (weight_of bs)
  grow_weight zero g = put_weight x bs
  grow_weight (suc j) g = add_weight (suc j) k x c first bs kept inside g

  pub grow_follows : Falling c → (i : ℕ) → Follows k i c first bs → Follows k i (more x 1 c) first (grow i x bs)
  grow_follows falls zero g = (put-rising x k first bs kept inside g.0, λ t h. omega (arith, put-sum x t bs, g.1 t h))
  grow_follows falls (suc j) g = add_chain (suc j) k x c falls first bs kept inside g

-- the buckets that stay when the lowest is evicted
record Left (k i : ℕ) (c : ℕ → ℕ) (first : ℕ) (bs : List Bucket) : Type 0 where
  above : 0 < first
  inside : first < 2 ^ k
  follows : Follows k i c first bs

without_lowest : (k i : ℕ) (c : ℕ → ℕ) (first : ℕ) (b : Bucket) (bs : List Bucket) → 1 ≤ length bs
    → Follows k i c first (b ∷ bs) → Left k i c (first_after i b bs) bs
without_lowest k i c first b [] some g = absurd (omega arith)
without_lowest k zero c first b (d ∷ bs) some g = record {
  above = omega arith;
  inside = omega (arith, g.0.1.0.low, g.0.1.0.high);
  follows = (g.0.1, λ t h. sym (sum_from-past b (d ∷ bs) t (omega arith)) ∙ g.1 t (omega (arith, g.0.0.low)));
}
without_lowest k (suc j) c first b (d ∷ bs) some g =
    let q = g.2.0 in record {
      above = omega (arith, q.at, width_pos g.0.shape);
      inside = omega (arith, q.at, width_pos q.shape, chain_end (2 ^ suc j) k c (first + b.width + d.width) bs g.2.2);
      follows = subst (λ (a : ℕ). Chain (2 ^ suc j) k c a (d ∷ bs)) (sym q.at) g.2;
    }

-- ---- one decilitre, and v

pub tracks_same : {k n i total total' : ℕ} {c c' : ℕ → ℕ} {l : Level} → total ≡ total' → ((t : ℕ) → c t ≡ c' t) → Tracks k n i total c l → Tracks k n i total' c' l
tracks_same {k} {n} {i} {total} {c'} {l} e same t =
    subst (λ (z : ℕ). Tracks k n i z c' l) e (subst (λ (d : ℕ → ℕ). Tracks k n i total d l) (fun_ext same) t)

module _ (k n i : ℕ) (two : 2 ≤ n) where
  evict_tracks : (total : ℕ) (c : ℕ → ℕ) (first : ℕ) (bs : List Bucket) → Falling c → length bs ≤ suc n → (0 < first → n ≤ length bs)
      → weight_of bs ≤ total → (first ≡ 0 → weight_of bs ≡ total) → first < 2 ^ k → Follows k i c first bs → Tracks k n i total c (evict n i first bs)
  evict_tracks total c first bs falls most full within whole inside g = go bs refl
    where
      stays : length bs ≤ n → Tracks k n i total c (level_of first bs)
      stays few = record { falls = falls; few = few; full = λ h. omega (arith, full h); within = within; whole = whole; inside = inside; follows = g }

      go : (cs : List Bucket) → bs ≡ cs → Tracks k n i total c (evict n i first cs)
      go [] e = rw e at (stays (omega (arith, ap length e)))
      go (b ∷ cs) e =
          let size = ap length e in
          let weight = ap weight_of e in
          by_eq (suc (length cs)) (n + 1) (Tracks k n i total c)
          (λ over.
          let left = without_lowest k i c first b cs (omega arith) (rw e at g) in
          record {
            falls = falls;
            few = omega arith;
            full = λ _. omega arith;
            within = omega arith;
            whole = λ none. absurd (omega arith);
            inside = left.inside;
            follows = left.follows;
          })
          (λ room. rw e at (stays (omega arith)))

  unit_tracks : (total : ℕ) (c : ℕ → ℕ) (x : ℕ) (l : Level) → x < 2 ^ k → Tracks k n i total c l → Tracks k n i (suc total) (more x 1 c) (unit n i x l)
  unfolding unit
  unit_tracks total c x l inside t =
      let falls = more-falls x 1 t.falls in
      by_lt x l.first (Tracks k n i (suc total) (more x 1 c))
      (λ below. record {
        falls = falls;
        few = t.few;
        full = t.full;
        within = omega (arith, t.within);
        whole = λ none. absurd (omega arith);
        inside = t.inside;
        follows = follows_ext k i l.first l.buckets (λ u h. omega (arith, share-none x 1 u (omega arith))) t.follows;
      })
      (λ kept.
      let gained = grow_weight k x c l.first l.buckets kept inside i t.follows in
      let sizes = grow-length i x l.buckets in
      evict_tracks (suc total) (more x 1 c) l.first (grow i x l.buckets) falls
      (omega (arith, t.few))
      (λ h. omega (arith, t.full h))
      (omega (arith, t.within))
      (λ h. omega (arith, t.whole h))
      t.inside
      (grow_follows k x c l.first l.buckets kept inside t.falls i t.follows))

  pub insert_tracks : (total : ℕ) (c : ℕ → ℕ) (x v : ℕ) (l : Level) → x < 2 ^ k → Tracks k n i total c l
      → Tracks k n i (total + v) (more x v c) (insert n i x v l)
  unfolding insert
  insert_tracks total c x zero l inside t = tracks_same (omega arith) (λ u. omega (arith, share-zero x u)) t
  insert_tracks total c x (suc v) l inside t =
      tracks_same (omega arith) (λ u. omega (arith, share-suc x v u))
      (unit_tracks (total + v) (more x v c) x (insert n i x v l) inside (insert_tracks total c x v l inside t))

-- an empty level follows counts that are all 0
whole_tracks : (k n i : ℕ) (bs : List Bucket) → length bs ≤ n → weight_of bs ≡ 0 → Follows k i (λ _. 0) 0 bs → Tracks k n i 0 (λ _. 0) (level_of 0 bs)
whole_tracks k n i bs few none g = record {
  falls = λ t u _. omega arith;
  few = few;
  full = λ h. absurd (omega arith);
  within = omega arith;
  whole = λ _. none;
  inside = pow_pos k;
  follows = g;
}

pub empty_tracks : (k n i : ℕ) → 2 ≤ n → Tracks k n i 0 (λ _. 0) (empty_level k i)
empty_tracks k n zero two = whole_tracks k n 0 [] (omega arith) refl (tt, λ t _. refl)
empty_tracks k n (suc j) two =
    let root : Part (2 ^ suc j) k (λ _. 0) 0 0 (bucket_of 0 (2 ^ k) 0) = record {
      at = refl;
      shape = record { size = k; depth = 0; place = 0; power = refl; deep = omega arith; aligned = omega arith };
      heavy = λ l. absurd (omega arith);
      left = omega arith;
      right = omega arith;
    } in
    whole_tracks k n (suc j) (bucket_of 0 (2 ^ k) 0 ∷ []) (omega arith) refl (root, (λ _. omega (arith, pow_pos (suc j))), (omega arith, refl))
