-- Insertion as a loop: when a bucket is split, and what a split leaves to do. Rests on `Ready`.
use Rattle.std.specs.Prelude.{Bool, true, false, Option, MatchOption, ◌&&◌, List, ◌∷◌, ◌++◌, ◌≡◌, ℕ, suc, ◌+◌, ◌^◌, ◌≤◌, ◌<◌, leb, ltb, length}
use Rattle.std.proofs.Common.{ltb-true, leb-true, leb-false, lt-ltb}
use Rattle.shape.specs.LimitsLaws.{both}
use Rattle.model.specs.Level.{Bucket, level_of, evict, insert, insert_splits}
use Rattle.model.specs.Words.{slot, decode_level, encode_level}
use Rattle.laws.specs.Bucket.{halves}
use Rattle.insert.specs.declared.Onward.{Onward}
use Rattle.insert.specs.Ready.{Ready}

-- whether v more make a bucket of level i full, so that it is split; one of width 1 never is
abbrev pub gets_full : ℕ → ℕ → Bucket → Bool
gets_full i v b = ltb 1 b.width && leb (2 ^ suc i) (b.weight + v)

module _ (i v : ℕ) (b : Bucket) where
  pub full : gets_full i v b ≡ true → (1 < b.width) × (2 ^ suc i ≤ b.weight + v)
  full e = let p = both e in (ltb-true 1 b.width p.0, leb-true (2 ^ suc i) (b.weight + v) p.1)

  pub has_room : gets_full i v b ≡ false → 1 < b.width → b.weight + v < 2 ^ suc i
  has_room e long = leb-false (2 ^ suc i) (b.weight + v) (rw (lt-ltb 1 b.width long) at e)

-- What is left of v once the bucket of slot j was filled and split. Inserting it now is inserting v before, with one split less. The half that
-- spans x takes it, and is narrower.
pub record Goes (n i x v j : ℕ) (ws ws' : List ℕ) (next : Onward) : Type 0 where
  pub part : (slot ws j).weight + v ≡ 2 ^ suc i + next.rest
  pub same : insert n i x next.rest (decode_level ws') ≡ insert n i x v (decode_level ws)
  pub count : insert_splits n i x v (decode_level ws) ≡ suc (insert_splits n i x next.rest (decode_level ws'))
  pub narrower : (slot ws' next.slot).width < (slot ws j).width
  pub ready_next : Ready n i x next.rest next.slot ws'

-- The bucket of slot j was filled with a part of v and split, so its two halves stand in its place. The rest is left to insert, or the half
-- that spans x was evicted: then all is done, by this one split.
pub record Continues (n i x v j : ℕ) (ws ws' : List ℕ) (r : Option Onward) : Type 0 where
  pub words : (f : ℕ) (before after : List Bucket) → length before ≡ j → ws ≡ encode_level n (level_of f (before ++ slot ws j ∷ after))
      → ws' ≡ encode_level n (evict n i f (before ++ (halves i (slot ws j) ++ after)))
  pub onward : MatchOption r ((ws' ≡ encode_level n (insert n i x v (decode_level ws))) × (insert_splits n i x v (decode_level ws) ≡ 1)) (Goes n i x v j ws ws')
