-- The codec between a book's words and what they stand for: SPECIFICATION 3. Assumes nothing.
use Rattle.std.specs.Prelude.{List, [], ◌∷◌, ◌++◌, map, ℕ, zero, suc, ◌+◌, ◌-◌, ◌*◌, length, get_or, take, drop, replicate}
use Rattle.shape.specs.declared.Shape.{Shape}
use Rattle.shape.specs.Limits.{shaped}
use Rattle.shape.specs.Layout.{total_start, slot_len, slot_start, level_words, level_start, block_words, block_start}
use Rattle.model.specs.Level.{Bucket, Level, bucket_of, level_of}
use Rattle.model.specs.Block.{Half, Block, up_from}

abbrev pub slot : List ℕ → ℕ → Bucket  -- SPECIFICATION 3.5 ('place' in the customer's paper): slot j of a level is offset, width, weight
slot ws j = bucket_of (get_or ws (slot_start j) 0) (get_or ws (slot_start j + 1) 0) (get_or ws (slot_start j + 2) 0)

abbrev pub slots : List ℕ → ℕ → ℕ → List Bucket  -- c slots, from slot j on
slots ws j zero = []
slots ws j (suc c) = slot ws j ∷ slots ws (j + 1) c

unfoldable pub decode_level : List ℕ → Level  -- SPECIFICATION 3.5: a level is its count, F, then its slots
decode_level ws = level_of (get_or ws 1 0) (slots ws 0 (get_or ws 0 0))

abbrev pub level_part : Shape → ℕ → ℕ → List ℕ → List ℕ  -- SPECIFICATION 3.6: the words of a level as a part of the block's; parity 0 is the even half
level_part s parity i ws = take (level_words s) (drop (level_start s parity i) ws)

unfoldable pub decode_half : Shape → ℕ → List ℕ → Half  -- SPECIFICATION 3.4
decode_half s parity ws = record { total = get_or ws (total_start parity) 0; levels = up_from (λ i. decode_level (level_part s parity i ws)) 0 (suc s.last) }

unfoldable pub decode_block : Shape → List ℕ → Block  -- SPECIFICATION 3.3
decode_block s ws = record { even = decode_half s 0 ws; odd = decode_half s 1 ws }

abbrev pub block_part : Shape → ℕ → List ℕ → List ℕ  -- SPECIFICATION 3.6: the words of a grade's block as a part of the book's
block_part s grade ws = take (block_words s) (drop (block_start s grade) ws)

abbrev pub shape_of : List ℕ → Shape  -- SPECIFICATION 3.2: the shape that a head names
shape_of ws = shaped (get_or ws 0 0) (get_or ws 1 0) (get_or ws 2 0) (get_or ws 3 0)

abbrev pub clock_of : List ℕ → ℕ  -- SPECIFICATION 3.2: the clock that a head names
clock_of ws = get_or ws 4 0

abbrev pub join : List (List ℕ) → List ℕ  -- one list after another
join [] = []
join (ws ∷ wss) = ws ++ join wss

abbrev pub slot_words : Bucket → List ℕ
slot_words b = b.offset ∷ b.width ∷ b.weight ∷ []

unfoldable pub encode_level : ℕ → Level → List ℕ  -- SPECIFICATION 3.5: unused slots are zero
encode_level n l = length l.buckets ∷ l.first ∷ (join (map slot_words l.buckets) ++ replicate (slot_len * (n - length l.buckets)) 0)

unfoldable pub encode_block : Shape → Block → List ℕ  -- SPECIFICATION 3.3: the two totals, the even half's levels, then the odd half's
encode_block s b = let levels : Half → List ℕ = λ h. join (map (encode_level s.n) h.levels) in b.even.total ∷ b.odd.total ∷ (levels b.even ++ levels b.odd)

abbrev pub encode_head : Shape → ℕ → List ℕ  -- SPECIFICATION 3.2
encode_head s clock = s.k ∷ s.n ∷ s.m ∷ s.g ∷ clock ∷ replicate 3 0

abbrev pub with_block : Shape → ℕ → List ℕ → List ℕ → List ℕ  -- the book's words with other words in place of a grade's block
with_block s grade block ws = take (block_start s grade) ws ++ (block ++ drop (block_start s grade + block_words s) ws)
