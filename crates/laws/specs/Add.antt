-- A level from 1: an invariant of the buckets from an offset on, which a decilitre keeps. It has their shape and how far the weights differ
-- from the counts c at each boundary. `p` stands for 2 ^ i. Assumes nothing.
use Rattle.std.specs.Prelude.{◌≡◌, refl, List, [], ◌∷◌, ◌++◌, ℕ, zero, suc, ◌+◌, ◌*◌, ◌/◌, ◌^◌, ◌≤◌, ◌<◌, length}
use Rattle.std.proofs.Common.{ap, ◌∙◌, pow-suc, mul-div_cancel, arith, lit<, pow_pos}
use Rattle.model.specs.Level.{Bucket, bucket_of, gained, add}
use Rattle.model.specs.Sound.{weight_of}
use Rattle.model.specs.Claim.{Near}
use Rattle.laws.specs.Bucket.{by_holds, by_split}
use Rattle.laws.specs.SumFrom.{more, Falling, share_all, share-none, more-falls, AtLeast}

-- an interval of `width` ticks from a: 2 ^ k halved `depth` times
pub record Dyadic (k a width : ℕ) : Type 0 where
  pub size : ℕ
  pub depth : ℕ
  pub place : ℕ
  pub power : width ≡ 2 ^ size
  pub deep : size + depth ≡ k
  pub aligned : a ≡ place * width

-- the bucket b starts at a, and `rest` is the weight of the buckets above it
pub record Part (p k : ℕ) (c : ℕ → ℕ) (a rest : ℕ) (b : Bucket) : Type 0 where
  pub at : b.offset ≡ a
  pub shape : Dyadic k a b.width
  pub heavy : b.width < 2 ^ k → p ≤ b.weight
  pub left : Near (shape.depth * p) (b.weight + rest) (c a)
  pub right : Near (shape.depth * p) rest (c (a + b.width))

-- the buckets reach from a to 2 ^ k without a gap
abbrev pub Chain : ℕ → ℕ → (ℕ → ℕ) → ℕ → List Bucket → Type 0
Chain p k c a [] = (a ≡ 2 ^ k) × (c a ≡ 0)
Chain p k c a (b ∷ bs) = Part p k c a (weight_of bs) b × (1 < b.width → b.weight < 2 * p) × Chain p k c (a + b.width) bs

-- only the counts at a and above matter
part_ext : {p k : ℕ} {c c' : ℕ → ℕ} {a rest : ℕ} {b : Bucket} → ((t : ℕ) → a ≤ t → c' t ≡ c t) → Part p k c a rest b → Part p k c' a rest b
part_ext {a} {b} same q = record {
  at = q.at;
  shape = q.shape;
  heavy = q.heavy;
  left = rw (same a (omega arith)) q.left;
  right = rw (same (a + b.width) (omega arith)) q.right;
}

pub width_pos : {k a width : ℕ} → Dyadic k a width → 0 < width
width_pos d = omega (arith, pow_pos d.size)

-- an interval of more than one tick has two halves
pub record Halved (width size : ℕ) : Type 0 where
  pub less : ℕ
  pub one_more : size ≡ suc less
  pub half : width / 2 ≡ 2 ^ less
  pub twice : width ≡ 2 * (width / 2)

half_power : (z : ℕ) → 2 ^ suc z / 2 ≡ 2 ^ z
half_power z = rw pow-suc (mul-div_cancel (2 ^ z) (lit< tt))

pub halved : (width size : ℕ) → width ≡ 2 ^ size → 1 < width → Halved width size
halved width zero e h = absurd (omega arith)
halved width (suc z) e h =
    let half : width / 2 ≡ 2 ^ z = ap (λ (w : ℕ). w / 2) e ∙ half_power z in
    record { less = z; one_more = refl; half = half; twice = omega arith }

-- the half that starts at `start`, the m-th of its width
abbrev half_of : {k a width : ℕ} (d : Dyadic k a width) (h : Halved width d.size) (start m : ℕ) → start ≡ m * (width / 2) → Dyadic k start (width / 2)
half_of d h start m e = record {
  size = h.less;
  depth = suc d.depth;
  place = m;
  power = h.half;
  deep = omega (arith, d.deep, h.one_more);
  aligned = e;
}

module _ (p k : ℕ) where
  pub chain_ext : {c c' : ℕ → ℕ} (a : ℕ) (bs : List Bucket) → ((t : ℕ) → a ≤ t → c' t ≡ c t) → Chain p k c a bs → Chain p k c' a bs
  chain_ext a [] same g = (g.0, same a (omega arith) ∙ g.1)
  chain_ext a (b ∷ bs) same g = (part_ext same g.0, g.1, chain_ext (a + b.width) bs (λ t h. same t (omega arith)) g.2)

  pub chain_end : (c : ℕ → ℕ) (a : ℕ) (bs : List Bucket) → Chain p k c a bs → a ≤ 2 ^ k
  chain_end c a [] g = omega arith
  chain_end c a (b ∷ bs) g = omega (arith, chain_end c (a + b.width) bs g.2)

  pub chain_above : (c : ℕ → ℕ) (t a : ℕ) (bs : List Bucket) → t ≤ a → Chain p k c a bs → AtLeast t bs
  chain_above c t a [] h g = tt
  chain_above c t a (b ∷ bs) h g = (omega arith, chain_above c t (a + b.width) bs (omega arith) g.2)

  -- a bucket of weight 2 * p and of more than one tick may be replaced by its halves
  halves_chain : {c : ℕ → ℕ} {a : ℕ} {b : Bucket} (bs : List Bucket) → 0 < p → Falling c
      → b.weight ≡ 2 * p → 1 < b.width → Part p k c a (weight_of bs) b → Chain p k c (a + b.width) bs
      → Chain p k c a (bucket_of b.offset (b.width / 2) p ∷ bucket_of (b.offset + b.width / 2) (b.width / 2) p ∷ bs)
  halves_chain {c} {a} {b} bs pos falls full long q g =
      let h = b.width / 2 in
      let d = q.shape in
      let z = halved b.width d.size d.power long in
      let double : d.place * b.width ≡ d.place * (2 * h) = ap (λ (w : ℕ). d.place * w) z.twice in
      let low = falls a (a + h) (omega arith) in
      let high : c (a + b.width) ≤ c (a + h) = falls (a + h) (a + b.width) (omega (arith, z.twice)) in
      let end : a + b.width ≡ a + h + h = omega (arith, z.twice) in (
        record {
          at = q.at;
          shape = half_of d z a (2 * d.place) (omega (arith, d.aligned));
          heavy = λ _. omega arith;
          left = omega arith;
          right = omega arith;
        },
        λ _. omega arith,
        (
          record {
            at = omega (arith, q.at);
            shape = half_of d z (a + h) (suc (2 * d.place)) (omega (arith, d.aligned));
            heavy = λ _. omega arith;
            left = omega arith;
            right = rw (← end) (omega arith);
          },
          λ _. omega arith,
          rw end at g,
        ),
      )

-- a decilitre adds at most one bucket
pub add-length : (i x : ℕ) (bs : List Bucket) → (length bs ≤ length (add i x bs)) × (length (add i x bs) ≤ suc (length bs))
add-length i x [] = omega arith
add-length i x (b ∷ bs) =
    let P : List Bucket → Type 0 = λ z. (suc (length bs) ≤ length z) × (length z ≤ suc (suc (length bs))) in
    by_holds b x P
    (λ _ _. by_split i (gained b) (λ z. P (z ++ bs)) (λ _ _. omega arith) (λ _. omega arith))
    (λ _. omega (arith, add-length i x bs))

module _ (i k x : ℕ) (c : ℕ → ℕ) where
  -- a decilitre below a changes nothing from a on
  chain_below : (a : ℕ) (bs : List Bucket) → x < a → Chain (2 ^ i) k c a bs → Chain (2 ^ i) k (more x 1 c) a bs
  chain_below a bs h = chain_ext (2 ^ i) k a bs (λ t l. omega (arith, share-none x 1 t (omega arith)))

  -- a bucket that ends at or before x
  passed : {a rest : ℕ} {b : Bucket} → a + b.width ≤ x → Part (2 ^ i) k c a rest b → Part (2 ^ i) k (more x 1 c) a (suc rest) b
  passed {a} {b} h q = record {
    at = q.at;
    shape = q.shape;
    heavy = q.heavy;
    left = omega (arith, share_all x 1 a (omega arith));
    right = omega (arith, share_all x 1 (a + b.width) (omega arith));
  }

  -- the bucket that spans x
  struck : {a rest : ℕ} {b : Bucket} → a ≤ x → x < a + b.width → Part (2 ^ i) k c a rest b → Part (2 ^ i) k (more x 1 c) a rest (gained b)
  struck {a} {b} l h q = record {
    at = q.at;
    shape = q.shape;
    heavy = λ g. omega (arith, q.heavy g);
    left = omega (arith, share_all x 1 a l);
    right = omega (arith, share-none x 1 (a + b.width) h);
  }

  -- the whole weight grows by one
  pub add_weight : (a : ℕ) (bs : List Bucket) → a ≤ x → x < 2 ^ k → Chain (2 ^ i) k c a bs → weight_of (add i x bs) ≡ suc (weight_of bs)
  add_weight a [] l h g = omega arith
  add_weight a (b ∷ bs) l h g =
      let P : List Bucket → Type 0 = λ z. weight_of z ≡ suc (b.weight + weight_of bs) in
      by_holds b x P
      (λ _ _. by_split i (gained b) (λ z. P (z ++ bs)) (λ full _. omega arith) (λ _. omega arith))
      (λ out. omega (arith, add_weight (a + b.width) bs (omega (arith, g.0.at, out (omega (arith, g.0.at)))) h g.2))

  pub add_chain : Falling c → (a : ℕ) (bs : List Bucket) → a ≤ x → x < 2 ^ k → Chain (2 ^ i) k c a bs → Chain (2 ^ i) k (more x 1 c) a (add i x bs)
  add_chain falls a [] l h g = absurd (omega arith)
  add_chain falls a (b ∷ bs) l h g =
      let same = g.0.at in
      let C : List Bucket → Type 0 = Chain (2 ^ i) k (more x 1 c) a in
      by_holds b x C
      (λ _ in'.
      let q = struck l (omega arith) g.0 in
      let above = chain_below (a + b.width) bs (omega arith) g.2 in
      by_split i (gained b) (λ z. C (z ++ bs))
      (λ full long. halves_chain (2 ^ i) k bs (pow_pos i) (more-falls x 1 falls) (omega arith) long q above)
      (λ out. (q, (λ long. omega (arith, g.1 long, out long)), above)))
      (λ out.
      let past : a + b.width ≤ x = omega (arith, out (omega arith)) in
      let more-above = add_weight (a + b.width) bs past h g.2 in
      (rw more-above (passed past g.0), g.1, add_chain falls (a + b.width) bs past h g.2))
