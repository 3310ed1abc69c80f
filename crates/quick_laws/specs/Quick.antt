-- The quick pass over the buckets of a level from 1 on: what it collects, and tests that are enough for soundness. Assumes nothing.
use Rattle.std.specs.Prelude.{Bool, cond, ◌&&◌, List, [], ◌∷◌, ℕ, suc, ◌+◌, ◌-◌, ◌/◌, ◌%◌, ◌^◌, leb, ltb, eqb}
use Rattle.std.specs.Int.Bits.{bit_and, bit_or, bit_xor}
use Rattle.model.specs.Level.{Bucket}
use Rattle.model.specs.Sound.{implies}
use Rattle.pass_laws.specs.Pass.{less, least_of}
use Rattle.quick_laws.specs.declared.Quick.{Quick}

abbrev pub fresh : ℕ → ℕ → Quick  -- before the first bucket, which has this width
fresh first width = record { end = first; faults = 0; reach = less width; extra = 0 }

abbrev pub above : ℕ → ℕ → ℕ  -- the word x - y modulo 2 ^ 32
above x y = cond (ltb x y) (x + (4294967296 - y)) (x - y)

abbrev pub mask : ℕ → ℕ → ℕ  -- all bits if x is more than y as signed words, else none
mask x y = cond (ltb (bit_xor 2147483648 y) (bit_xor 2147483648 x)) 4294967295 0

-- a bucket whose weight must be `least` or more and, if it is wider than 1, at most `most` above that
unfoldable pub quick_bucket : ℕ → ℕ → Quick → Bucket → Quick
quick_bucket least most t b =
    let gap = bit_xor t.end b.offset in
    let before = less b.width in
    let extra = above b.weight least in
    let chain = bit_or (bit_or (bit_or t.faults gap) (bit_and b.width before)) (bit_and b.offset before) in
    record {
      end = (b.offset + b.width) % 2 ^ 32;
      faults = bit_or chain (bit_and (mask extra most) before);
      reach = t.reach;
      extra = bit_or t.extra extra;
    }

abbrev pub quick_all : ℕ → ℕ → Quick → List Bucket → Quick  -- all buckets, one after another
quick_all least most t [] = t
quick_all least most t (b ∷ bs) = quick_all least most (quick_bucket least most t b) bs

abbrev pub mark : Quick → Quick  -- the end so far is marked: it must be within reach
mark t = record { end = t.end; faults = t.faults; reach = bit_or t.reach t.end; extra = t.extra }

abbrev pub quick_each : ℕ → ℕ → Quick → List Bucket → Quick  -- all buckets, and each end marked
quick_each least most t [] = t
quick_each least most t (b ∷ bs) = quick_each least most (mark (quick_bucket least most t b)) bs

abbrev pub most_of : ℕ → ℕ → ℕ  -- how much the weight of a bucket wider than 1 may be above the least one, if there are `count` buckets
most_of count i = cond (leb 2 count) (2 ^ i - 1) (2 ^ suc i - 1)

-- the tests of a level. 1024 weights, each less than 2 ^ 21 above a least one of at most 2 ^ 20, add up to less than 2 ^ 32
unfoldable pub is_enough : ℕ → ℕ → Quick → Bool
is_enough k first t = ltb first (2 ^ k) && (eqb t.faults 0 && (ltb (t.reach / 2) (2 ^ k) && (eqb t.end (2 ^ k) && ltb t.extra 2097152)))

-- the quick pass is tried on `count` buckets of level i
unfoldable pub is_tried : ℕ → ℕ → Bool
is_tried count i = ltb 0 i && (ltb 0 count && leb (least_of count i) 1048576)

-- a level's weight is at most its half's total, and equal to it if nothing was evicted
abbrev pub weighs : ℕ → ℕ → ℕ → Bool
weighs first total weight = leb weight total && implies (eqb first 0) (eqb weight total)
