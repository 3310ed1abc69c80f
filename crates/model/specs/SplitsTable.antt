-- SPECIFICATION 13.5: the splits that deliveries report, as one table that the definitions meet. Assumes nothing.
use Rattle.std.specs.Prelude.{◌≡◌, refl, List, [], ◌∷◌, suc, replicate}
use Rattle.shape.specs.declared.Shape.{Shape}
use Rattle.shape.specs.Limits.{splitting, refused, within, shaped}
use Rattle.shape.specs.Layout.{book_words, block_words, block_start, level_start}
use Rattle.model.specs.declared.Call.TheVariants.{Make, Clock, Delivery}
use Rattle.model.specs.Level.{unit, insert, insert_splits, empty_level}
use Rattle.model.specs.Block.{up_from, insert_all_splits, empty_half, deliver_half, deliver, deliver_splits, advance, offset_of}
use Rattle.model.specs.Words.{decode_level, decode_half, decode_block, encode_level, encode_block}
use Rattle.model.specs.Sound.{sound_head, sound_level, sound_half, sound_block}
use Rattle.model.specs.Calls.{refusals, book_view, made, clocked, delivered, perform}
use Rattle.model.specs.Replay.{left_by}
use Rattle.model.specs.Claim.{Each}
use Rattle.model.specs.Table.{answers, Example, Meets, example, d, p₁, p₂, p₃, p₆}

abbrev pub splits_table : List Example
splits_table =
    -- the deliveries of P1, P2, P3, P6 and P7
    example [] (answers (d 0 3) (splitting 0) ∷ [])
    ∷ example p₁ (answers (d 3 1) (splitting 1) ∷ [])
    ∷ example p₂ (answers (d 1 1) (splitting 0) ∷ [])
    ∷ example p₃ (answers (d 1 1) (splitting 1) ∷ [])
    ∷ example p₆ (answers (d 2 2) (splitting 2) ∷ [])
    -- that of P8, and one that is refused
    ∷ example p₂ (answers (d 0 5) (splitting 2) ∷ answers (d 4 5) (refused 8) ∷ [])
    ∷ []

pub splits_table-holds : Each Meets splits_table
unfolding perform refusals book_view made clocked delivered sound_head sound_block sound_half sound_level within encode_block encode_level decode_block decode_half decode_level empty_half deliver deliver_half deliver_splits advance unit insert insert_splits block_words book_words block_start level_start
splits_table-holds = ((refl, tt), ((refl, tt), ((refl, tt), ((refl, tt), ((refl, tt), ((refl, (refl, tt)), tt))))))

-- ---- a first delivery of 9 at stamp 1, k = 3, n = 2, M = 6

abbrev shape₃₂₆ : Shape
shape₃₂₆ = shaped 3 2 6 1

-- the splits of each level, from level 0 on. At level 1 the second split evicts the half of stamp 1; what is left is ignored and splits nothing
pub first-levels : up_from (λ i. insert_splits shape₃₂₆.n i (offset_of shape₃₂₆ 1) 9 (empty_level shape₃₂₆.k i)) 0 (suc shape₃₂₆.last) ≡ 0 ∷ 2 ∷ 1 ∷ 0 ∷ 0 ∷ 0 ∷ 0 ∷ []
unfolding insert_splits insert unit
first-levels = refl

-- what the delivery reports
pub first_delivery : (perform (left_by (replicate (book_words shape₃₂₆) 0) (Make 3 2 6 1 ∷ Clock 7 ∷ [])) (Delivery 0 1 9)).reply ≡ splitting 3
unfolding perform refusals book_view made clocked delivered sound_head sound_block sound_half sound_level within encode_block encode_level decode_block decode_half decode_level empty_half deliver deliver_half deliver_splits advance unit insert insert_splits block_words book_words block_start level_start
first_delivery = refl

-- the splits of a delivery are those of its own grade: grade 0 has nothing to split
pub second_grade : (perform (left_by (replicate (book_words (shaped 2 2 2 2)) 0) (Make 2 2 2 2 ∷ Clock 3 ∷ Delivery 1 0 3 ∷ [])) (Delivery 1 0 1)).reply ≡ splitting 1
unfolding perform refusals book_view made clocked delivered sound_head sound_block sound_half sound_level within encode_block encode_level decode_block decode_half decode_level empty_half deliver deliver_half deliver_splits advance unit insert insert_splits block_words book_words block_start level_start
second_grade = refl

-- the last of some levels counts like the others
pub last_counts : insert_all_splits 2 0 1 9 (up_from (empty_level 3) 0 2) ≡ 2
unfolding insert_splits insert unit
last_counts = refl

-- a level can make k splits: 8 decilitres at offset 7 on the empty level 1, with k = 3 and n = 9
pub most_reached : insert_splits 9 1 7 8 (empty_level 3 1) ≡ 3
unfolding insert_splits insert unit
most_reached = refl
