-- A sound level follows its own sums, and a level that follows any counts is sound. So a delivery, which keeps the one, keeps the other: a
-- sound level stays sound. A level that has evicted buckets is heavy. Assumes nothing.
use Rattle.std.specs.Prelude.{◌↔◌, ◌≡◌, refl, List, [], ◌∷◌, ℕ, zero, suc, ◌+◌, ◌*◌, ◌^◌, ◌≤◌, ◌<◌, length}
use Rattle.std.proofs.Common.{⊎_elim, sym, ap, ◌∙◌, subst, le_refl, eq-zero-or-pos, arith}
use Rattle.model.specs.Level.{Bucket, Level, insert, empty_level}
use Rattle.model.specs.Block.{sum_from}
use Rattle.model.specs.Sound.{weight_of}
use Rattle.model.specs.Claim.{Each}
use Rattle.laws.specs.SumFrom.{AtLeast, sum_from_all, sum_from-falls, heavy_sum}
use Rattle.laws.specs.Add.{Dyadic, Chain, chain_end, width_pos}
use Rattle.laws.specs.Put.{Rising, sum_from-past}
use Rattle.laws.specs.Unit.{Follows, Tracks, insert_tracks, empty_tracks}
use Rattle.laws.specs.SoundLevel.{Chained, SoundBuckets, SoundLevel}

-- ---- from soundness to counts

module _ (k i count : ℕ) where
  chained-above : (t start : ℕ) (bs : List Bucket) → t ≤ start → Chained k i count start bs → AtLeast t bs
  chained-above t start [] h g = tt
  chained-above t start (b ∷ bs) h g =
      let at = g.0.at in (omega arith, chained-above t (b.offset + b.width) bs (omega arith) g.1)

  -- the buckets follow their own sums
  chained_chain : (c : ℕ → ℕ) (start : ℕ) (bs : List Bucket) → Each (λ b. b.width < 2 ^ k → 2 ≤ count) bs
      → ((t : ℕ) → start ≤ t → c t ≡ sum_from t bs) → Chained k i count start bs → Chain (2 ^ i) k c start bs
  chained_chain c start [] many same g = (g, same start (le_refl start))
  chained_chain c start (b ∷ bs) many same g =
      let s = g.0 in
      let end = start + b.width in
      let there : b.offset + b.width ≡ end = omega (arith, s.at) in
      let rest : Chained k i count end bs = subst (λ (a : ℕ). Chained k i count a bs) there g.1 in
      let wide = width_pos s.shape in
      let all = sum_from_all start (b ∷ bs) (chained-above start start (b ∷ bs) (le_refl start) g) in
      let above = sum_from_all end bs (chained-above end end bs (le_refl end) rest) in
      let past : (t : ℕ) → end ≤ t → c t ≡ sum_from t bs = λ t h. same t (omega arith) ∙ sum_from-past b bs t (omega (arith, s.at)) in (
        record {
          at = s.at;
          shape = subst (λ (a : ℕ). Dyadic k a b.width) s.at s.shape;
          heavy = λ h. s.heavy (many.0 h);
          left = omega (arith, same start (le_refl start));
          right = omega (arith, past end (le_refl end));
        },
        (λ long. omega (arith, s.light long)),
        chained_chain c end bs many.1 past rest,
      )

each_of : {P : Bucket → Type 0} → ((b : Bucket) → P b) → (bs : List Bucket) → Each P bs
each_of f [] = tt
each_of f (b ∷ bs) = (f b, each_of f bs)

-- a single bucket of a level that has evicted none spans the whole interval
many_or_whole : (k n i first : ℕ) (bs : List Bucket) → 2 ≤ n → (0 < first → length bs ≡ n) → Chained k i (length bs) first bs
    → Each (λ b. b.width < 2 ^ k → 2 ≤ length bs) bs
many_or_whole k n i first [] two full g = tt
many_or_whole k n i first (b ∷ []) two full g =
    let at = g.0.at in
    let none : first ≡ 0 = ⊎_elim (λ (z : first ≡ 0). z) (λ (h : 0 < first). absurd (omega (arith, full h))) (eq-zero-or-pos first) in
    ((λ h. absurd (omega arith)), tt)
many_or_whole k n i first (b ∷ d ∷ bs) two full g = each_of (λ _ _. omega arith) (b ∷ d ∷ bs)

chain_inside : (p k : ℕ) (c : ℕ → ℕ) (a : ℕ) (bs : List Bucket) → Chain p k c a bs → (1 ≤ length bs) ↔ (a < 2 ^ k)
chain_inside p k c a [] g = omega arith
chain_inside p k c a (b ∷ bs) g = (λ _. omega (arith, width_pos g.0.shape, chain_end p k c (a + b.width) bs g.2), λ _. omega arith)

sound_follows : (k n i first : ℕ) (bs : List Bucket) → 2 ≤ n → (0 < first → length bs ≡ n) → SoundBuckets k i first bs
    → (first < 2 ^ k) × Follows k i (λ t. sum_from t bs) first bs
sound_follows k n zero first bs two full s = (s.0, (s.1, λ t _. refl))
sound_follows k n (suc j) first bs two full s =
    let own : ℕ → ℕ = λ t. sum_from t bs in
    let chain = chained_chain k (suc j) (length bs) own first bs (many_or_whole k n (suc j) first bs two full s.1) (λ _ _. refl) s.1 in
    ((chain_inside (2 ^ suc j) k own first bs chain).0 s.0, chain)

sound_tracks : (k n i total : ℕ) (l : Level) → 2 ≤ n → SoundLevel k n i total l → Tracks k n i total (λ t. sum_from t l.buckets) l
sound_tracks k n i total l two s =
    let f = sound_follows k n i l.first l.buckets two s.full s.parts in
    record {
      falls = sum_from-falls l.buckets;
      few = s.few;
      full = s.full;
      within = s.within;
      whole = s.whole;
      inside = f.0;
      follows = f.1;
    }

-- ---- and back

-- every bucket that does not span the whole interval is heavy
chain_heavy : (p k : ℕ) (c : ℕ → ℕ) (a : ℕ) (bs : List Bucket) → 2 ≤ a + length bs → Chain p k c a bs → Each (λ b. p ≤ b.weight) bs
chain_heavy p k c a [] h g = tt
chain_heavy p k c a (b ∷ []) h g = (g.0.heavy (omega arith), tt)
chain_heavy p k c a (b ∷ d ∷ bs) h g =
    let end = a + b.width in
    let wide = width_pos g.0.shape in (
      g.0.heavy (omega (arith, width_pos g.2.0.shape, chain_end p k c (end + d.width) bs g.2.2)),
      chain_heavy p k c end (d ∷ bs) (omega arith) g.2,
    )

chain_chained : (k i count : ℕ) (c : ℕ → ℕ) (a : ℕ) (bs : List Bucket) → (2 ≤ count → Each (λ b. 2 ^ i ≤ b.weight) bs)
    → Chain (2 ^ i) k c a bs → Chained k i count a bs
chain_chained k i count c a [] heavy g = g.0
chain_chained k i count c a (b ∷ bs) heavy g =
    let q = g.0 in
    let there : a + b.width ≡ b.offset + b.width = omega (arith, q.at) in (
      record {
        at = q.at;
        shape = subst (λ (z : ℕ). Dyadic k z b.width) (sym q.at) q.shape;
        light = λ long. omega (arith, g.1 long);
        heavy = λ two. (heavy two).0;
      },
      subst (λ (z : ℕ). Chained k i count z bs) there (chain_chained k i count c (a + b.width) bs (λ two. (heavy two).1) g.2),
    )

follows_sound : (k i : ℕ) (c : ℕ → ℕ) (first : ℕ) (bs : List Bucket) → first < 2 ^ k → Follows k i c first bs → SoundBuckets k i first bs
follows_sound k zero c first bs inside g = (inside, g.0)
follows_sound k (suc j) c first bs inside g =
    let p = 2 ^ suc j in
    ((chain_inside p k c first bs g).1 inside, chain_chained k (suc j) (length bs) c first bs (λ two. chain_heavy p k c first bs (omega arith) g) g)

pub tracks_sound : {k n i total : ℕ} {c : ℕ → ℕ} {l : Level} → Tracks k n i total c l → SoundLevel k n i total l
tracks_sound {k} {i} {c} {l} t = record {
  few = t.few;
  within = t.within;
  whole = t.whole;
  full = t.full;
  parts = follows_sound k i c l.first l.buckets t.inside t.follows;
}

-- ---- what follows

pub empty_sound : (k n i : ℕ) → 2 ≤ n → SoundLevel k n i 0 (empty_level k i)
empty_sound k n i two = tracks_sound (empty_tracks k n i two)

module _ (k n i : ℕ) (two : 2 ≤ n) where
  pub insert-sound : (total x v : ℕ) (l : Level) → x < 2 ^ k → SoundLevel k n i total l → SoundLevel k n i (total + v) (insert n i x v l)
  insert-sound total x v l h s = tracks_sound (insert_tracks k n i two total (λ t. sum_from t l.buckets) x v l h (sound_tracks k n i total l two s))

rising_heavy : (k a : ℕ) (bs : List Bucket) → Rising k a bs → Each (λ b. 1 ≤ b.weight) bs
rising_heavy k a [] r = tt
rising_heavy k a (b ∷ bs) r = (r.0.some, rising_heavy k (b.offset + 1) bs r.1)

follows_heavy : (k i : ℕ) (c : ℕ → ℕ) (first : ℕ) (bs : List Bucket) → 2 ≤ first + length bs → Follows k i c first bs → Each (λ b. 2 ^ i ≤ b.weight) bs
follows_heavy k zero c first bs h g = rising_heavy k first bs g.0
follows_heavy k (suc j) c first bs h g = chain_heavy (2 ^ suc j) k c first bs h g

module _ {k n i total : ℕ} {l : Level} (two : 2 ≤ n) where
  -- a level that has evicted buckets has n of weight 2 ^ i or more
  pub tracks_heavy : {c : ℕ → ℕ} → Tracks k n i total c l → 0 < l.first → n * 2 ^ i ≤ weight_of l.buckets
  tracks_heavy {c} t h =
      let size = ap (λ (z : ℕ). z * 2 ^ i) (t.full h) in
      omega (arith, heavy_sum (2 ^ i) l.buckets (follows_heavy k i c l.first l.buckets (omega (arith, t.full h)) t.follows))

  sound_heavy : SoundLevel k n i total l → 0 < l.first → n * 2 ^ i ≤ total
  sound_heavy s h = omega (arith, tracks_heavy (sound_tracks k n i total l two s) h, s.within)

  -- so with a small total the level has evicted nothing
  pub sound_serves : SoundLevel k n i total l → total < n * 2 ^ i → l.first ≡ 0
  sound_serves s small = ⊎_elim (λ (z : l.first ≡ 0). z) (λ (h : 0 < l.first). absurd (omega (arith, sound_heavy s h))) (eq-zero-or-pos l.first)
