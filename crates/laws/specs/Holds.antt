-- Which bucket of a sound level spans an offset, and what comes before it. Assumes nothing.
use Rattle.std.specs.Prelude.{true, ◌≡◌, refl, List, [], ◌∷◌, ◌++◌, ℕ, ◌+◌, ◌^◌, ◌≤◌, ◌<◌}
use Rattle.std.proofs.Common.{⊎_elim, ap, arith}
use Rattle.model.specs.Level.{Bucket, holds}
use Rattle.laws.specs.Cond.{lt_or_ge}
use Rattle.laws.specs.Bucket.{holds_inside, holds-past}
use Rattle.laws.specs.Insert.{Uncovered}
use Rattle.laws.specs.SoundLevel.{Chained}

-- the first bucket of the list that spans x
pub record Covered (x : ℕ) (bs : List Bucket) : Type 0 where
  pub before : List Bucket
  pub here : Bucket
  pub after : List Bucket
  pub same : bs ≡ before ++ here ∷ after
  pub uncovered : Uncovered x before
  pub covers : holds here x ≡ true

module _ (k i count : ℕ) where
  -- each offset from the first on is spanned by some bucket
  pub chained_covered : (x start : ℕ) (bs : List Bucket) → start ≤ x → x < 2 ^ k → Chained k i count start bs → Covered x bs
  chained_covered x start [] l h g = absurd (omega arith)
  chained_covered x start (b ∷ bs) l h g =
      let at = g.0.at in
      ⊎_elim
      (λ (inside : x < b.offset + b.width). record {
        before = [];
        here = b;
        after = bs;
        same = refl;
        uncovered = tt;
        covers = holds_inside b x (omega arith) inside;
      })
      (λ (past : b.offset + b.width ≤ x).
      let rest = chained_covered x (b.offset + b.width) bs past h g.1 in
      record {
        before = b ∷ rest.before;
        here = rest.here;
        after = rest.after;
        same = ap (λ (z : List Bucket). b ∷ z) rest.same;
        uncovered = (holds-past b x past, rest.uncovered);
        covers = rest.covers;
      })
      (lt_or_ge x (b.offset + b.width))
