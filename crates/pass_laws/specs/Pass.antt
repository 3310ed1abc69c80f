-- The exact pass over the buckets of a level: what it collects, and the tests of what it collected. Assumes nothing.
use Rattle.std.specs.Prelude.{Bool, cond, ◌&&◌, List, [], ◌∷◌, ◌≡◌, ℕ, zero, suc, ◌+◌, ◌-◌, ◌*◌, ◌/◌, ◌%◌, ◌^◌, leb, ltb, eqb, length}
use Rattle.std.specs.Int.Bits.{bit_and, bit_or, bit_xor}
use Rattle.model.specs.Level.{Bucket}
use Rattle.model.specs.Sound.{implies, weight_of, sound_buckets}
use Rattle.pass_laws.specs.declared.Seen.{Seen}
use Rattle.pass_laws.specs.declared.Verdict.{Verdict}

abbrev pub unseen : ℕ → Seen  -- before the first bucket
unseen first = record { end = first; faults = 0; reach = 0; heavy = 0; short = 0; low = 0; high = 0 }

abbrev pub below : ℕ → ℕ → ℕ  -- 1 if x is below y, else 0
below x y = cond (ltb x y) 1 0

abbrev pub less : ℕ → ℕ  -- the word w - 1 modulo 2 ^ 32
less zero = 4294967295
less (suc w) = w

abbrev pub spread : Bucket → ℕ  -- the weight of a bucket wider than 1, else 0
spread b = cond (eqb b.width 1) 0 b.weight

unfoldable pub see_single : Seen → Bucket → Seen  -- a bucket of level 0
see_single t b = record {
  end = (b.offset + 1) % 2 ^ 32;
  faults = bit_or t.faults (bit_xor b.width 1);
  reach = bit_or t.reach b.offset;
  heavy = t.heavy;
  short = t.short + (below b.offset t.end + below b.weight 1);
  low = (t.low + b.weight) % 2 ^ 32;
  high = t.high + b.weight / 65536;
}

unfoldable pub see_bucket : ℕ → Seen → Bucket → Seen  -- a bucket of a level from 1 on, whose weight must be `least` or more
see_bucket least t b =
    let gap = bit_xor t.end b.offset in
    let before = less b.width in
    record {
      end = (b.offset + b.width) % 2 ^ 32;
      faults = bit_or (bit_or (bit_or t.faults gap) (bit_and b.width before)) (bit_and b.offset before);
      reach = bit_or t.reach before;
      heavy = bit_or t.heavy (spread b);
      short = t.short + below b.weight least;
      low = (t.low + b.weight) % 2 ^ 32;
      high = t.high + b.weight / 65536;
    }

abbrev pub see_one : ℕ → ℕ → Seen → Bucket → Seen  -- a bucket of level i
see_one zero least = see_single
see_one (suc j) least = see_bucket least

abbrev pub see_all : (Seen → Bucket → Seen) → Seen → List Bucket → Seen
see_all see t [] = t
see_all see t (b ∷ bs) = see_all see (see t b) bs

abbrev pub least_of : ℕ → ℕ → ℕ  -- the least weight that each of `count` buckets must have
least_of count i = cond (leb 2 count) (2 ^ i) 0

abbrev pub seen_level : ℕ → ℕ → List Bucket → Seen
seen_level i first bs = see_all (see_one i (least_of (length bs) i)) (unseen first) bs

-- what the lower 16 bits of the weights add up to is below 2 ^ 32, so its remainder is all of it
unfoldable pub weight_seen : Seen → ℕ
weight_seen t = 65536 * t.high + (t.low + (4294967296 - 65536 * t.high % 4294967296)) % 4294967296

unfoldable pub sound_seen : ℕ → ℕ → ℕ → Seen → Bool
sound_seen k i first t = ltb first (2 ^ k) && (eqb t.faults 0 && (ltb t.reach (2 ^ k) && (ltb t.heavy (2 ^ suc i)
    && (eqb t.short 0 && implies (ltb 0 i) (eqb t.end (2 ^ k))))))

abbrev pub Judged : ℕ → ℕ → ℕ → List Bucket → Verdict → Type 0  -- a verdict has the weight and the soundness of a level's buckets
Judged k i first bs v = (v.weight ≡ weight_of bs) × (v.sound ≡ sound_buckets k i first bs)
