-- The words that a ledger stands for: they are a sound book, and its blocks are those of the ledger. Rests on the codec's laws and on the
-- soundness of fed levels.
use Rattle.std.specs.Prelude.{true, ◌≡◌, List, ℕ, ◌*◌, ◌^◌, ◌≤◌, ◌<◌, length}
use Rattle.std.proofs.Math.Path.{refl}
use Rattle.std.proofs.Common.{arith}
use Rattle.shape.specs.declared.Shape.{Shape}
use Rattle.shape.specs.Limits.{shaped}
use Rattle.shape.specs.Layout.{book_words, block_words}
use Rattle.shape.specs.LimitsLaws.{Limits}
use Rattle.model.specs.Block.{Block, interval}
use Rattle.model.specs.Words.{shape_of, clock_of, encode_block, decode_block, block_part}
use Rattle.model.specs.Sound.{all_from, sound_block, sound_head, max_clock}
use Rattle.model.specs.Ledger.{Entry, Ledger, volume_of, of_grade, of_interval}
use Rattle.model.specs.Claim.{Each}
use Rattle.laws.specs.SoundLevel.{sound_tests_lem}
use Rattle.laws.specs.Parts.{all_from_intro}
use Rattle.laws.specs.BlockWords.{HalfSound, sound_sized, length-encode_block, decode_encode_block, sound_block_encode}
use Rattle.laws.specs.BookWords.{book_of, length-book_of, block_part-book_of, sound_head_encode}
use Rattle.theory.specs.Fed.{fed, fed-sound}
use Rattle.ledger.specs.Grown.{events, events_inside, half_fed, counted_all}
use Rattle.ledger.specs.Served.{served}
use Rattle.ledger.specs.Book.{half_at, block_for}

-- what holds of a ledger that calls have led to: the shape is within its limits and made of its own numbers; n * 2^last is above 2^M, so the
-- last level never evicts; no entry is ahead of the clock, and no interval has more than 2^M of a grade
pub record Good (l : Ledger) : Type 0 where
  pub limits : Limits l.shape.k l.shape.n l.shape.m l.shape.g
  pub formed : shaped l.shape.k l.shape.n l.shape.m l.shape.g ≡ l.shape
  pub last : l.shape.last ≤ l.shape.m
  pub reach : 2 ^ l.shape.m < l.shape.n * 2 ^ l.shape.last
  pub early : l.clock ≤ max_clock
  pub past : Each (λ e. e.stamp ≤ l.clock) l.entries
  pub few : (grade j : ℕ) → volume_of (of_interval l.shape (of_grade grade) j) l.entries ≤ 2 ^ l.shape.m

-- the words of a ledger
unfoldable pub words_of : Ledger → List ℕ
words_of l = book_of l.shape l.clock (λ grade. encode_block l.shape (block_for l.shape l.clock l.entries (of_grade grade)))

module _ (l : Ledger) (good : Good l) where
  abbrev s : Shape
  s = l.shape

  abbrev clock : ℕ
  clock = l.clock

  abbrev es : List Entry
  es = l.entries

  half-sound : (grade parity : ℕ) → HalfSound s (half_at s clock es (of_grade grade) parity)
  unfolding half_fed
  half-sound grade parity =
      let p = of_interval s (of_grade grade) (served (interval s clock) parity) in
      record {
        level_at = λ i. fed s.k s.n i (events s p es);
        levels = refl;
        total = good.few grade _;
        sound = λ i low.
            (sound_tests_lem s.k s.n i (volume_of p es) (fed s.k s.n i (events s p es))).1
            (rw (← counted_all s p es) (fed-sound s.k s.n i good.limits.low_n (events s p es) (events_inside s p es)));
      }

  module _ (grade : ℕ) where
    abbrev block : Block
    block = block_for s clock es (of_grade grade)

    pub block_size : length (encode_block s block) ≡ block_words s
    unfolding block_for
    block_size = length-encode_block s block (sound_sized s _ (half-sound grade 0)) (sound_sized s _ (half-sound grade 1))

    block_decoded : decode_block s (encode_block s block) ≡ block
    unfolding block_for
    block_decoded = decode_encode_block s block (sound_sized s _ (half-sound grade 0)) (sound_sized s _ (half-sound grade 1))

    block-sound : sound_block s (encode_block s block) ≡ true
    unfolding block_for
    block-sound = sound_block_encode s block (half-sound grade 0) (half-sound grade 1)

  abbrev ws : List ℕ
  ws = words_of l

  pub words_length : length ws ≡ book_words s
  unfolding words_of
  words_length = length-book_of s clock (λ grade. encode_block s (block grade)) (λ j h. block_size j)

  pub words_head : sound_head ws ≡ true
  unfolding words_of
  words_head = sound_head_encode s.k s.n s.m s.g clock _ good.limits good.early

  pub words_shape : shape_of ws ≡ s
  unfolding words_of
  words_shape = good.formed

  pub words_clock : clock_of ws ≡ clock
  unfolding words_of
  words_clock = refl

  module _ (grade : ℕ) (h : grade < s.g) where
    part : block_part s grade ws ≡ encode_block s (block grade)
    unfolding words_of
    part = block_part-book_of s clock (λ j. encode_block s (block j)) (λ j l. block_size j) grade h

    pub words_block : decode_block s (block_part s grade ws) ≡ block grade
    words_block = rw part (block_decoded grade)

    pub words_sound : sound_block s (block_part s grade ws) ≡ true
    words_sound = rw part (block-sound grade)

  pub words_all_sound : all_from (λ grade. sound_block s (block_part s grade ws)) 0 s.g ≡ true
  words_all_sound = all_from_intro (λ grade. sound_block s (block_part s grade ws)) 0 s.g (λ grade low high. words_sound grade (omega arith))
