-- What the loops over the grades require and leave. Rests on the laws of a swept book.
use Rattle.std.specs.Prelude.{true, ◌≡◌, List, ℕ, ◌<◌, length}
use Rattle.std.specs.Borrow.{MutBor}
use Rattle.shape.specs.declared.Shape.{Shape}
use Rattle.shape.specs.Layout.{book_words, block_words}
use Rattle.model.specs.Block.{empty_half, advance}
use Rattle.model.specs.Words.{block_part, decode_block, encode_block}
use Rattle.model.specs.Sound.{sound_block}
use Rattle.laws.specs.Proper.{Proper}
use Rattle.laws.specs.BlockWords.{sound_block_decode}
use Rattle.laws.specs.BlockSound.{empty_half_lem, advance-both, both_size}

-- a book whose blocks are sound
pub record AllSound (s : Shape) (ws : List ℕ) : Type 0 where
  pub proper : Proper s
  pub size : length ws ≡ book_words s
  pub sound : (grade : ℕ) → grade < s.g → sound_block s (block_part s grade ws) ≡ true

-- a step, whose `pre` this is, may be called at each block of a book
abbrev pub IsCallableAtBlocks : (MutBor (List ℕ) → Type 0) → Shape → List ℕ → Type 0
IsCallableAtBlocks pre s ws = (grade : ℕ) → grade < s.g → (block : MutBor (List ℕ)) → block.now ≡ block_part s grade ws → pre block

-- a step, whose `post` this is, leaves f of a block in its place, and f keeps the length of the book's blocks
pub record Rewrites (post : MutBor (List ℕ) → Unit {0} → MutBor (List ℕ) → Type 0) (s : Shape) (ws : List ℕ) (f : List ℕ → List ℕ) : Type 0 where
  pub leaves : (block after : MutBor (List ℕ)) → post block tt after → after.now ≡ f block.now
  pub sized : (grade : ℕ) → grade < s.g → length (f (block_part s grade ws)) ≡ block_words s

-- the words of an empty block
abbrev pub cleared : Shape → ℕ → List ℕ
cleared s grade = encode_block s (record { even = empty_half s; odd = empty_half s })

pub cleared_size : (s : Shape) → Proper s → (grade : ℕ) → length (cleared s grade) ≡ block_words s
cleared_size s p grade = both_size s p (record { even = empty_half s; odd = empty_half s }) (empty_half_lem s p, empty_half_lem s p)

-- the words of a grade's block after a clock
abbrev pub advanced : Shape → ℕ → ℕ → List ℕ → ℕ → List ℕ
advanced s old new ws grade = encode_block s (advance s old new (decode_block s (block_part s grade ws)))

pub advanced_size : (s : Shape) (old new : ℕ) (ws : List ℕ) → AllSound s ws → (grade : ℕ) → grade < s.g → length (advanced s old new ws grade) ≡ block_words s
advanced_size s old new ws a grade h =
    both_size s a.proper (advance s old new (decode_block s (block_part s grade ws)))
    (advance-both s a.proper old new (decode_block s (block_part s grade ws)) (sound_block_decode s (block_part s grade ws) (a.sound grade h)))
