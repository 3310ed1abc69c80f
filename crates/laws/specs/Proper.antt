-- What the code requires of a shape and of the words that it is lent, as facts that one function hands on to the next. Assumes nothing.
use Rattle.std.specs.Prelude.{true, ◌≡◌, List, ℕ, ◌+◌, ◌^◌, ◌≤◌, ◌<◌, length}
use Rattle.shape.specs.declared.Shape.{Shape}
use Rattle.shape.specs.Layout.{level_words, block_words}
use Rattle.shape.specs.LimitsLaws.{Limits}
use Rattle.model.specs.Sound.{sound_level, sound_block}

-- a shape as its constructor gives it
pub record Proper (s : Shape) : Type 0 where
  pub limits : Limits s.k s.n s.m s.g
  pub last : s.last ≡ s.m

-- the words of a level that can take v decilitres at offset x, in a half of some total
pub record Insertable (s : Shape) (i x v : ℕ) (ws : List ℕ) : Type 0 where
  pub total : ℕ
  pub proper : Proper s
  pub index : i ≤ s.last
  pub size : length ws ≡ level_words s
  pub sound : sound_level s i total ws ≡ true
  pub inside : x < 2 ^ s.k
  pub some : 0 < v
  pub room : total + v ≤ 2 ^ s.m

-- words of a block's length, of any content
pub record Sized (s : Shape) (ws : List ℕ) : Type 0 where
  pub proper : Proper s
  pub size : length ws ≡ block_words s

-- the words of a sound block
pub record Whole (s : Shape) (ws : List ℕ) : Type 0 where
  pub proper : Proper s
  pub size : length ws ≡ block_words s
  pub sound : sound_block s ws ≡ true
