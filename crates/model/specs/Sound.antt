-- When words are sound, condition by condition, for words of any content and length: SPECIFICATION 7. Assumes nothing.
use Rattle.std.specs.Prelude.{Bool, true, cond, ◌&&◌, ◌||◌, List, [], ◌∷◌, ℕ, zero, suc, ◌+◌, ◌%◌, ◌^◌, leb, ltb, eqb, length, get_or, drop}
use Rattle.shape.specs.declared.Shape.{Shape}
use Rattle.shape.specs.Limits.{within}
use Rattle.shape.specs.Layout.{total_start, slot_start, book_words}
use Rattle.model.specs.Level.{Bucket}
use Rattle.model.specs.Words.{slots, level_part, block_part, shape_of, clock_of}

abbrev pub implies : Bool → Bool → Bool  -- if a holds, so does b
implies a b = cond a b true

abbrev pub all_from : (ℕ → Bool) → ℕ → ℕ → Bool  -- p holds of the c numbers i, i + 1, ..
all_from p i zero = true
all_from p i (suc c) = p i && all_from p (suc i) c

abbrev pub zeros : List ℕ → Bool  -- all words are 0
zeros [] = true
zeros (w ∷ ws) = eqb w 0 && zeros ws

abbrev pub weight_of : List Bucket → ℕ  -- the sum of the weights
weight_of [] = 0
weight_of (b ∷ bs) = b.weight + weight_of bs

abbrev pub is_power : ℕ → ℕ → Bool  -- x is one of 2^0, .., 2^k
is_power zero x = eqb x 1
is_power (suc k) x = eqb x (2 ^ suc k) || is_power k x

abbrev pub rising : ℕ → ℕ → List Bucket → Bool  -- SPECIFICATION 7.4: offsets rising, from a to 2^k - 1; widths 1; weights at least 1
rising k a [] = true
rising k a (b ∷ bs) =
    leb a b.offset && (ltb b.offset (2 ^ k) && (eqb b.width 1 && (leb 1 b.weight && rising k (b.offset + 1) bs)))

abbrev pub sound_bucket : ℕ → ℕ → Bool → ℕ → Bucket → Bool  -- SPECIFICATION 7.5, one bucket of level i from 1 on; `many`: there are two or more
sound_bucket k i many start b =
    eqb b.offset start && (is_power k b.width && (eqb (b.offset % b.width) 0
    && (implies (ltb 1 b.width) (ltb b.weight (2 ^ suc i)) && implies many (leb (2 ^ i) b.weight))))

abbrev pub chained : ℕ → ℕ → Bool → ℕ → List Bucket → Bool  -- SPECIFICATION 7.5: each bucket starts where the one before ends, and the last ends at 2^k
chained k i many start [] = eqb start (2 ^ k)
chained k i many start (b ∷ bs) = sound_bucket k i many start b && chained k i many (b.offset + b.width) bs

abbrev pub sound_buckets : ℕ → ℕ → ℕ → List Bucket → Bool  -- SPECIFICATION 7.4 and 7.5: what level 0 and what the other levels ask of their buckets
sound_buckets k zero first bs = ltb first (2 ^ k) && rising k first bs
sound_buckets k (suc j) first bs = leb 1 (length bs) && chained k (suc j) (leb 2 (length bs)) first bs

unfoldable pub sound_level : Shape → ℕ → ℕ → List ℕ → Bool  -- SPECIFICATION 7.3: the words of level i in a half of this total
sound_level s i total ws =
    let count = get_or ws 0 0 in
    let first = get_or ws 1 0 in
    let bs = slots ws 0 count in
    leb count s.n && (zeros (drop (slot_start count) ws) && (leb (weight_of bs) total && (implies (eqb first 0) (eqb (weight_of bs) total)
    && (implies (ltb 0 first) (eqb count s.n) && sound_buckets s.k i first bs))))

unfoldable pub sound_half : Shape → ℕ → List ℕ → Bool  -- SPECIFICATION 7.2: the half of a parity
sound_half s parity ws = leb (get_or ws (total_start parity) 0) (2 ^ s.m) && all_from (λ i. sound_level s i (get_or ws (total_start parity) 0) (level_part s parity i ws)) 0 (suc s.last)

unfoldable pub sound_block : Shape → List ℕ → Bool  -- SPECIFICATION 7.2
sound_block s ws = sound_half s 0 ws && sound_half s 1 ws

abbrev pub max_clock : ℕ  -- SPECIFICATION 2.4: the largest clock
max_clock = 2000000000

unfoldable pub sound_head : List ℕ → Bool  -- SPECIFICATION 7.1
sound_head ws =
    within (get_or ws 0 0) (get_or ws 1 0) (get_or ws 2 0) (get_or ws 3 0) && (leb (clock_of ws) max_clock
    && (eqb (get_or ws 5 0) 0 && (eqb (get_or ws 6 0) 0 && eqb (get_or ws 7 0) 0)))

unfoldable pub sound_book : List ℕ → Bool  -- SPECIFICATION 7.7: the head, the number of words and every block
sound_book ws =
    let s = shape_of ws in
    sound_head ws && (eqb (length ws) (book_words s) && all_from (λ grade. sound_block s (block_part s grade ws)) 0 s.g)
