-- v decilitres at one offset, inserted at once: which steps the code may take instead of v single ones. The buckets are `before ++ b ∷
-- after`, where b is the bucket of x. Assumes nothing.
use Rattle.std.specs.Prelude.{true, false, ◌≡◌, List, [], ◌∷◌, ◌++◌, length}
use Rattle.std.proofs.Common.{⊎_elim, sym, ap, ◌∙◌, length-append}
use Rattle.std.proofs.Math.Path.{refl}
use Prim.Native.Nat.{ℕ, zero, suc, ◌+◌, ◌-◌, ◌^◌, ◌≤◌, ◌<◌}
use Rattle.std.proofs.Math.Nat.{add-zero, add-suc}
use native.Mathlib.Omega.{arith}
use borrow.Author.Tests.{lt-ltb, le-ltb, eq-eqb, ne_eqb}
use Rattle.model.specs.Level.{Bucket, Level, bucket_of, level_of, gained, put, holds, split, add, grow, first_after, evict, unit, insert}
use Rattle.model.specs.LevelLaws.{unit-below}
use Rattle.model.specs.Claim.{Each}
use Rattle.laws.specs.Cond.{lt_or_ge}
use Rattle.laws.specs.Bucket.{raised, halves, by_split}

-- no bucket of the list spans x
abbrev pub Uncovered : ℕ → List Bucket → Type 0
Uncovered x = Each (λ b. holds b x ≡ false)

-- every bucket of the list starts below x
abbrev pub Under : ℕ → List Bucket → Type 0
Under x = Each (λ b. b.offset < x)

-- the first bucket of the list, if there is one, starts above x
abbrev pub Over : ℕ → List Bucket → Type 0
Over x [] = Unit {0}
Over x (b ∷ bs) = x < b.offset

-- ---- any level

module _ (n i x : ℕ) where
  pub insert-add : (v w : ℕ) (l : Level) → insert n i x (v + w) l ≡ insert n i x w (insert n i x v l)
  unfolding insert
  insert-add v zero l = rw add-zero
  insert-add v (suc w) l = rw add-suc (ap (unit n i x) (insert-add v w l))

  pub insert-below : (v : ℕ) (l : Level) → x < l.first → insert n i x v l ≡ l
  unfolding insert
  insert-below zero l h = refl
  insert-below (suc v) l h = rw (insert-below v l h) (unit-below n i x l h)

pub evict-none : (n i f : ℕ) (bs : List Bucket) → length bs ≤ n → evict n i f bs ≡ level_of f bs
evict-none n i f [] h = refl
evict-none n i f (b ∷ bs) h = rw (ne_eqb (suc (length bs)) (n + 1) (omega arith))

pub evict_lowest : (n i f : ℕ) (b : Bucket) (bs : List Bucket) → length bs ≡ n → evict n i f (b ∷ bs) ≡ level_of (first_after i b bs) bs
evict_lowest n i f b bs h = rw (eq-eqb (suc (length bs)) (n + 1) (omega arith))

-- one more bucket makes a list one longer
one_longer : (before : List Bucket) (b : Bucket) (after : List Bucket) → length (before ++ b ∷ after) ≡ suc (length (before ++ after))
one_longer before b after = simp length-append (omega arith)

module _ (n i f x : ℕ) (kept : f ≤ x) (before after : List Bucket) where
  -- v units add v to the weight of a bucket, as long as it is not split
  raises : (b : Bucket) (v : ℕ) → length (before ++ b ∷ after) ≤ n
      → ((w : ℕ) → w < v → grow i x (before ++ raised w b ∷ after) ≡ before ++ gained (raised w b) ∷ after)
      → insert n i x v (level_of f (before ++ b ∷ after)) ≡ level_of f (before ++ raised v b ∷ after)
  unfolding insert unit
  raises b zero few each = rw (add-zero b.weight)
  raises b (suc v) few each =
      rw (raises b v few (λ w h. each w (omega arith)), le-ltb x f kept, each v (omega arith))
      (rw add-suc (evict-none n i f (before ++ gained (raised v b) ∷ after) (omega (arith, one_longer before b after, one_longer before (gained (raised v b)) after))))

-- ---- a level from 1

-- a bucket that is not full, or has width 1, is not split
split-none : (i : ℕ) (b : Bucket) → (1 < b.width → b.weight < 2 ^ suc i) → split i b ≡ b ∷ []
split-none i b h = by_split i b (λ z. z ≡ b ∷ []) (λ full long. absurd (omega (arith, h long))) (λ _. refl)

-- buckets that do not span x are passed over
add-past : (i x : ℕ) (before : List Bucket) → Uncovered x before → (rest : List Bucket) → add i x (before ++ rest) ≡ before ++ add i x rest
add-past i x [] h rest = refl
add-past i x (c ∷ before) h rest = rw h.0 (ap (λ (z : List Bucket). c ∷ z) (add-past i x before h.1 rest))

add_at : (i x : ℕ) (b : Bucket) (after : List Bucket) → holds b x ≡ true → (before : List Bucket) → Uncovered x before
    → add i x (before ++ b ∷ after) ≡ before ++ (split i (gained b) ++ after)
add_at i x b after covers before h = rw (add-past i x before h (b ∷ after), covers)

module _ (n j x f : ℕ) (kept : f ≤ x) (before : List Bucket) (uncovered : Uncovered x before) (b : Bucket) (after : List Bucket)
    (covers : holds b x ≡ true) (few : length (before ++ b ∷ after) ≤ n) where
  -- a bucket that is not filled, or has width 1, takes v at once
  pub insert_held : (v : ℕ) → (1 < b.width → b.weight + v < 2 ^ suc (suc j))
      → insert n (suc j) x v (level_of f (before ++ b ∷ after)) ≡ level_of f (before ++ raised v b ∷ after)
  insert_held v room =
      raises n (suc j) f x kept before after b v few
      (λ w h. add_at (suc j) x (raised w b) after covers before uncovered
      ∙ ap (λ (z : List Bucket). before ++ (z ++ after)) (split-none (suc j) (gained (raised w b)) (λ long. omega (arith, room long))))

  -- the unit that fills the bucket splits it, and the rest goes on
  fills : (v : ℕ) → 1 < b.width → suc (b.weight + v) ≡ 2 ^ suc (suc j)
      → insert n (suc j) x (suc v) (level_of f (before ++ b ∷ after)) ≡ evict n (suc j) f (before ++ (halves (suc j) b ++ after))
  unfolding insert unit
  fills v long full =
      rw (
        insert_held v (λ _. omega arith),
        le-ltb x f kept,
        add_at (suc j) x (raised v b) after covers before uncovered,
        eq-eqb (suc (b.weight + v)) (2 ^ suc (suc j)) full,
        lt-ltb 1 b.width long,
      )

  pub insert-split : (v : ℕ) → 1 < b.width → b.weight < 2 ^ suc (suc j) → 2 ^ suc (suc j) ≤ b.weight + v
      → insert n (suc j) x v (level_of f (before ++ b ∷ after))
      ≡ insert n (suc j) x (b.weight + v - 2 ^ suc (suc j)) (evict n (suc j) f (before ++ (halves (suc j) b ++ after)))
  insert-split v long small full =
      let first : ℕ = 2 ^ suc (suc j) - b.weight - 1 in
      let rest : ℕ = b.weight + v - 2 ^ suc (suc j) in
      let parts : v ≡ suc first + rest = omega arith in
      let l = level_of f (before ++ b ∷ after) in
      ap (λ (z : ℕ). insert n (suc j) x z l) parts ∙ insert-add n (suc j) x (suc first) rest l
      ∙ ap (insert n (suc j) x rest) (fills first long (omega arith))

-- ---- level 0

-- buckets below x are passed over
put-past : (x : ℕ) (before : List Bucket) → Under x before → (rest : List Bucket) → put x (before ++ rest) ≡ before ++ put x rest
put-past x [] u rest = refl
put-past x (c ∷ before) u rest =
    rw (le-ltb x c.offset (omega arith), ne_eqb x c.offset (omega arith)) (ap (λ (z : List Bucket). c ∷ z) (put-past x before u.1 rest))

put_at : (x : ℕ) (b : Bucket) (after : List Bucket) → b.offset ≡ x → put x (b ∷ after) ≡ gained b ∷ after
put_at x b after same = rw (le-ltb x b.offset (omega arith), eq-eqb x b.offset (sym same))

put-new : (x : ℕ) (after : List Bucket) → Over x after → put x after ≡ bucket_of x 1 1 ∷ after
put-new x [] o = refl
put-new x (b ∷ after) o = rw (lt-ltb x b.offset o)

module _ (n x f : ℕ) (kept : f ≤ x) (before : List Bucket) (under : Under x before) where
  -- the bucket of offset x takes v
  pub insert-put : (b : Bucket) (after : List Bucket) → b.offset ≡ x → length (before ++ b ∷ after) ≤ n → (v : ℕ)
      → insert n 0 x v (level_of f (before ++ b ∷ after)) ≡ level_of f (before ++ raised v b ∷ after)
  insert-put b after same few v = raises n 0 f x kept before after b v few (λ w h. rw (put-past x before under (raised w b ∷ after), put_at x (raised w b) after same))

-- after the first unit the new bucket stays and takes the rest, or it was evicted itself and the rest is ignored
made : (n x f : ℕ) → f ≤ x → (before : List Bucket) → Under x before → (after : List Bucket) (rest : ℕ) → length (before ++ after) ≤ n
    → insert n 0 x rest (evict n 0 f (before ++ bucket_of x 1 1 ∷ after)) ≡ evict n 0 f (before ++ bucket_of x 1 (1 + rest) ∷ after)
made n x f kept before under after rest few =
    ⊎_elim
    (λ (room : length (before ++ after) < n).
    let fits : (b : Bucket) → length (before ++ b ∷ after) ≤ n = λ b. omega (arith, one_longer before b after) in
    rw (evict-none n 0 f (before ++ bucket_of x 1 1 ∷ after) (fits _), evict-none n 0 f (before ++ bucket_of x 1 (1 + rest) ∷ after) (fits _))
    (insert-put n x f kept before under (bucket_of x 1 1) after refl (fits _) rest))
    (λ (none : n ≤ length (before ++ after)). evicting before under (omega arith))
    (lt_or_ge (length (before ++ after)) n)
  where
    evicting : (cs : List Bucket) → Under x cs → length (cs ++ after) ≡ n
        → insert n 0 x rest (evict n 0 f (cs ++ bucket_of x 1 1 ∷ after)) ≡ evict n 0 f (cs ++ bucket_of x 1 (1 + rest) ∷ after)
    evicting [] u e = rw (evict_lowest n 0 f (bucket_of x 1 1) after e, evict_lowest n 0 f (bucket_of x 1 (1 + rest)) after e)
        (insert-below n 0 x rest (level_of (x + 1) after) (omega arith))
    evicting (c ∷ cs) u e =
        let fits : (b : Bucket) → length (cs ++ b ∷ after) ≡ n = λ b. omega (arith, one_longer cs b after) in
        rw (evict_lowest n 0 f c (cs ++ bucket_of x 1 1 ∷ after) (fits _), evict_lowest n 0 f c (cs ++ bucket_of x 1 (1 + rest) ∷ after) (fits _))
        (insert-put n x (c.offset + 1) (omega arith) cs u.1 (bucket_of x 1 1) after refl (omega (arith, fits (bucket_of x 1 1))) rest)

module _ (n x f : ℕ) (kept : f ≤ x) (before : List Bucket) (under : Under x before) where
  -- if x has no bucket, one of weight v is put in, and the lowest is evicted if there is no room
  pub insert-new : (after : List Bucket) → Over x after → length (before ++ after) ≤ n → (v : ℕ) → 0 < v
      → insert n 0 x v (level_of f (before ++ after)) ≡ evict n 0 f (before ++ bucket_of x 1 v ∷ after)
  unfolding insert unit
  insert-new after over few v some =
      let rest : ℕ = v - 1 in
      let parts : v ≡ 1 + rest = omega arith in
      rw (parts, insert-add n 0 x 1 rest (level_of f (before ++ after)), le-ltb x f kept, put-past x before under after, put-new x after over)
      (made n x f kept before under after rest few)
