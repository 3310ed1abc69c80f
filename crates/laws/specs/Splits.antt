-- How many buckets of one level an insertion splits. Below F and at level 0 it is none. From level 1 on it is none while the bucket that
-- spans the offset has room, and one more than the rest makes once it gets full. It is at most as many as the width of that bucket can be
-- halved, so at most k. Rests on the laws of one round.
use Rattle.std.specs.Prelude.{Bool, true, false, cond, ◌≡◌, List, [], ◌∷◌, ◌++◌, ltb, eqb, length}
use Rattle.std.proofs.Common.{⊎_elim, ap, subst, ◌∙◌, append_assoc, add-zero, add-suc, pow-suc, ltb→lt, length-append, pow_pos}
use Rattle.std.proofs.Math.Path.{refl}
use Prim.Native.Nat.{ℕ, zero, suc, ◌+◌, ◌-◌, ◌*◌, ◌/◌, ◌^◌, ◌≤◌, ◌<◌}
use native.Mathlib.Omega.{arith}
use borrow.Author.Tests.{lt-ltb, le-ltb, eq-eqb}
use Rattle.std.proofs.Math.Dec.{eqb→eq}
use Rattle.model.specs.Level.{Bucket, Level, bucket_of, level_of, gained, evict, insert, split_count, add_splits, grow_splits, insert_splits}
use Rattle.laws.specs.Cond.{by_both, lt_or_ge}
use Rattle.laws.specs.Bucket.{raised, halves, holds_inside}
use Rattle.laws.specs.Insert.{Uncovered, insert-add, insert-below}
use Rattle.laws.specs.SoundLevel.{Chained, SoundLevel}
use Rattle.laws.specs.Evict.{Passed, passed_uncovered, passed_snoc, Round, both, upper, upper_held, upper_split, one_round, slot_of_parts, chained_covering}

-- level 0 never splits
pub single_splits : (n x v : ℕ) (l : Level) → insert_splits n 0 x v l ≡ 0
unfolding insert_splits
single_splits n x zero l = refl
single_splits n x (suc v) l = go (ltb x (insert n 0 x v l).first) (single_splits n x v l)
  where
    go : (t : Bool) → insert_splits n 0 x v l ≡ 0 → insert_splits n 0 x v l + cond t 0 0 ≡ 0
    go true more = omega (arith, more)
    go false more = omega (arith, more)

-- from level 1 on a decilitre is counted by `add_splits`
grow_upper : (i x : ℕ) (bs : List Bucket) → 0 < i → grow_splits i x bs ≡ add_splits i x bs
grow_upper zero x bs low = absurd (omega arith)
grow_upper (suc j) x bs low = refl

module _ (n i x : ℕ) where
  splits_add : (v w : ℕ) (l : Level) → insert_splits n i x (v + w) l ≡ insert_splits n i x v l + insert_splits n i x w (insert n i x v l)
  unfolding insert_splits
  splits_add v zero l = rw (add-zero v) (omega arith)
  splits_add v (suc w) l = rw (add-suc, insert-add n i x v w l) (omega (arith, splits_add v w l))

  pub splits_below : (v : ℕ) (l : Level) → x < l.first → insert_splits n i x v l ≡ 0
  unfolding insert_splits
  splits_below zero l h = refl
  splits_below (suc v) l h = rw (insert-below n i x v l h, lt-ltb x l.first h) (omega (arith, splits_below v l h))

  splits_past : (before : List Bucket) → Uncovered x before → (rest : List Bucket) → add_splits i x (before ++ rest) ≡ add_splits i x rest
  splits_past [] u rest = refl
  splits_past (c ∷ before) u rest = rw u.0 (splits_past before u.1 rest)

-- the bucket that spans x can be halved `size` times
pub record Halvable (n i x f : ℕ) (before : List Bucket) (b : Bucket) (after : List Bucket) (size : ℕ) : Type 0 where
  pub kept : f ≤ x
  pub passed : Passed x before
  pub low : b.offset ≤ x
  pub high : x < b.offset + b.width
  pub few : length before + suc (length after) ≤ n
  pub power : b.width ≡ 2 ^ size
  pub light : 1 < b.width → b.weight < 2 ^ suc i

module _ (n i x : ℕ) (from : 0 < i) where
  module _ {f : ℕ} {before : List Bucket} {b : Bucket} {after : List Bucket} {size : ℕ} (h : Halvable n i x f before b after size) where
    abbrev level : Level
    level = level_of f (before ++ b ∷ after)

    -- what one more decilitre splits after v
    one_more : (v : ℕ) → (1 < b.width → b.weight + v < 2 ^ suc i) → insert_splits n i x (suc v) level ≡ insert_splits n i x v level + split_count i (gained (raised v b))
    unfolding insert_splits
    one_more v room = rw (
      upper_held n x f h.kept before h.passed b h.low h.high after h.few i from v room,
      le-ltb x f h.kept,
      grow_upper i x (before ++ raised v b ∷ after) from,
      splits_past n i x before (passed_uncovered x before h.passed) (raised v b ∷ after),
      holds_inside b x h.low h.high,
    )

    -- the bucket does not get full
    pub held_splits : (v : ℕ) → (1 < b.width → b.weight + v < 2 ^ suc i) → insert_splits n i x v level ≡ 0
    unfolding insert_splits
    held_splits zero room = refl
    held_splits (suc v) room =
        let less : 1 < b.width → b.weight + v < 2 ^ suc i = λ long. omega (arith, room long) in
        let before_it = held_splits v less in
        one_more v less
        ∙ by_both (λ z. insert_splits n i x v level + z ≡ 0) (eqb (suc (b.weight + v)) (2 ^ suc i)) (ltb 1 b.width)
        (λ full long. absurd (omega (arith, eqb→eq (suc (b.weight + v)) (2 ^ suc i) full, room (ltb→lt 1 b.width long)))) (λ _. omega (arith, before_it))

    -- the decilitre that fills the bucket splits it
    filling : (v : ℕ) → 1 < b.width → suc (b.weight + v) ≡ 2 ^ suc i → insert_splits n i x (suc v) level ≡ 1
    unfolding insert_splits
    filling v long full =
        let room : 1 < b.width → b.weight + v < 2 ^ suc i = λ _. omega arith in
        one_more v room ∙ rw (held_splits v room, eq-eqb (suc (b.weight + v)) (2 ^ suc i) full, lt-ltb 1 b.width long)

    filled : (v : ℕ) → 1 < b.width → suc (b.weight + v) ≡ 2 ^ suc i → insert n i x (suc v) level ≡ evict n i f (before ++ (halves i b ++ after))
    unfolding insert
    filled v long full =
        let left : b.weight + suc v - 2 ^ suc i ≡ 0 = omega arith in
        rw left at (upper_split n x f h.kept before h.passed b h.low h.high after h.few i from (suc v) long (h.light long) (omega arith))

    -- the bucket gets full: that is one split, and the others are those of the rest on what it left
    pub cut_splits : (v : ℕ) → 1 < b.width → 2 ^ suc i ≤ b.weight + v
        → insert_splits n i x v level ≡ suc (insert_splits n i x (b.weight + v - 2 ^ suc i) (evict n i f (before ++ (halves i b ++ after))))
    cut_splits v long full =
        let light = h.light long in
        let first : ℕ = 2 ^ suc i - b.weight - 1 in
        let rest : ℕ = b.weight + v - 2 ^ suc i in
        let parts : v ≡ suc first + rest = omega arith in
        let done : suc (b.weight + first) ≡ 2 ^ suc i = omega arith in
        ap (λ (z : ℕ). insert_splits n i x z level) parts
        ∙ splits_add n i x (suc first) rest level
        ∙ rw (filling first long done, filled first long done) (omega arith)

    -- what a split leaves is split less often: x is in a half, or below F
    module _ (less : ℕ) (power : size ≡ suc less)
        (again : (v f : ℕ) (before : List Bucket) (b : Bucket) (after : List Bucket) → Halvable n i x f before b after less → insert_splits n i x v (level_of f (before ++ b ∷ after)) ≤ less) where
      abbrev half : ℕ
      half = b.width / 2

      abbrev lower : Bucket
      lower = bucket_of b.offset half (2 ^ i)

      abbrev higher : Bucket
      higher = bucket_of (b.offset + half) half (2 ^ i)

      width_is : b.width ≡ 2 * 2 ^ less
      width_is = omega (arith, h.power, ap (λ (z : ℕ). 2 ^ z) power, pow-suc 2 less)

      half_again : (v f : ℕ) (before : List Bucket) (a : ℕ) (after : List Bucket) → f ≤ x → Passed x before → a ≤ x → x < a + half
          → length before + suc (length after) ≤ n → insert_splits n i x v (level_of f (before ++ bucket_of a half (2 ^ i) ∷ after)) ≤ less
      half_again v f before a after kept passed low high few =
          again v f before (bucket_of a half (2 ^ i)) after
          (record { kept = kept; passed = passed; low = low; high = high; few = few; power = omega (arith, width_is); light = λ _. omega (arith, pow_pos i) })

      onward : (v up : ℕ) (l : Level) → Round n x lower higher after up l → insert_splits n i x v l ≤ less
      onward v up l (both f before same place few passed kept) =
          rw same
          (⊎_elim
          (λ (below : x < b.offset + half). half_again v f before b.offset (higher ∷ after) kept passed h.low below few)
          (λ (above : b.offset + half ≤ x).
          rw (← append_assoc before (lower ∷ []) (higher ∷ after))
          (half_again v f (before ++ lower ∷ []) (b.offset + half) after kept (passed_snoc x before lower passed above) above (omega (arith, h.high, width_is))
          (simp length-append (omega arith))))
          (lt_or_ge x (b.offset + half)))
      onward v up l (upper same none few) =
          rw same
          (⊎_elim
          (λ (below : x < b.offset + half). omega (arith, splits_below n i x v (level_of (b.offset + half) (higher ∷ after)) below))
          (λ (above : b.offset + half ≤ x). half_again v (b.offset + half) [] (b.offset + half) after above tt above (omega (arith, h.high, width_is)) (omega arith))
          (lt_or_ge x (b.offset + half)))

  pub splits_most : (size v f : ℕ) (before : List Bucket) (b : Bucket) (after : List Bucket) → Halvable n i x f before b after size
      → insert_splits n i x v (level_of f (before ++ b ∷ after)) ≤ size
  splits_most zero v f before b after h = omega (arith, held_splits h v (λ long. absurd (omega (arith, h.power))))
  splits_most (suc size) v f before b after h =
      ⊎_elim
      (λ (room : b.weight + v < 2 ^ suc i). omega (arith, held_splits h v (λ _. room)))
      (λ (full : 2 ^ suc i ≤ b.weight + v).
      let long : 1 < b.width = omega (arith, h.power, pow-suc 2 size, pow_pos size) in
      let rest : ℕ = b.weight + v - 2 ^ suc i in
      let left = one_round n x f h.kept before h.passed b h.low h.high after h.few i from (lower h size refl (splits_most size)) (higher h size refl (splits_most size)) h.low in
      rw (cut_splits h v long full) (omega (arith, onward h size refl (splits_most size) rest _ _ left)))
      (lt_or_ge (b.weight + v) (2 ^ suc i))

-- an insertion into a sound level splits at most k buckets
pub level_splits : (k n i total x v : ℕ) (l : Level) → x < 2 ^ k → SoundLevel k n i total l → insert_splits n i x v l ≤ k
level_splits k n zero total x v l inside s = omega (arith, single_splits n x v l)
level_splits k n (suc j) total x v l inside s =
    ⊎_elim
    (λ (below : x < l.first). omega (arith, splits_below n (suc j) x v l below))
    (λ (kept : l.first ≤ x).
    let p = slot_of_parts x l.buckets in
    let chained = subst (Chained k (suc j) (length l.buckets) l.first) p.same s.parts.1 in
    let c = chained_covering k (suc j) (length l.buckets) x inside p.after p.ends l.first p.before kept p.passed chained in
    let shape = c.sound.shape in
    let all : l.buckets ≡ p.before ++ c.here ∷ c.rest = p.same ∙ ap (λ (z : List Bucket). p.before ++ z) c.same in
    let few : length p.before + suc (length c.rest) ≤ n = omega (arith, s.few, ap length all, length-append p.before (c.here ∷ c.rest)) in
    let most = splits_most n (suc j) x (omega arith) shape.size v l.first p.before c.here c.rest
    (record { kept = kept; passed = p.passed; low = c.low; high = c.high; few = few; power = shape.power; light = c.sound.light }) in
    rw all (omega (arith, most, shape.deep)))
    (lt_or_ge x l.first)
