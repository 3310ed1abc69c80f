-- A delivery as writes of levels: raising the total and inserting into each level of the stamp's half gives the words of the delivered
-- block. Rests on halves written level by level, and on insertion keeping a level sound.
use Rattle.std.specs.Prelude.{◌≡◌, List, length, set}
use Rattle.std.proofs.Math.Path.{refl, ap}
use Rattle.std.proofs.Common.{sym, ◌∙◌, mod-lt, arith, pow_pos}
use Prim.Native.Nat.{ℕ, suc, ◌+◌, ◌-◌, ◌%◌, ◌^◌, ◌≤◌, ◌<◌}
use Rattle.std.proofs.Math.ListN.{get_or}
use Rattle.shape.specs.declared.Shape.{Shape}
use Rattle.shape.specs.Layout.{total_start, level_words, block_words}
use Rattle.model.specs.Level.{Level, insert}
use Rattle.model.specs.Block.{Half, interval, offset_of, with_half, deliver_half, deliver}
use Rattle.model.specs.Words.{level_part, decode_level, decode_half, decode_block, encode_level, encode_block}
use Rattle.laws.specs.LevelWords.{length_encode}
use Rattle.laws.specs.InsertSound.{insert-sound}
use Rattle.laws.specs.BlockWords.{HalfSized, sound_half-level, length-level_part}
use Rattle.laws.specs.Proper.{Insertable, Whole}
use Rattle.laws.specs.BlockSound.{insert_all_up_from}
use Rattle.laws.specs.HalfWrites.{Same, half_of_decode, whole_half, whole_level, with_levels, length-written, level_part-written-above, placed_written, same_written, encode_with_half}

module _ (s : Shape) (stamp v : ℕ) (ws : List ℕ) where
  abbrev parity : ℕ
  parity = interval s stamp % 2

  -- level i of the stamp's half after the delivery
  abbrev level_after : ℕ → Level
  level_after i = insert s.n i (offset_of s stamp) v (decode_level (level_part s parity i ws))

  abbrev words_after : ℕ → List ℕ
  words_after i = encode_level s.n (level_after i)

  -- the words after the total was raised and the levels below c were written
  abbrev pub delivering : ℕ → List ℕ
  delivering c = with_levels s parity words_after c (set ws parity (get_or ws (total_start parity) 0 + v))

  -- words with the delivery in them
  record Delivered (new : List ℕ) : Type 0 where
    pub size : length new ≡ block_words s
    pub total : get_or new parity 0 ≡ get_or ws (total_start parity) 0 + v
    pub parts : (i : ℕ) → i ≤ s.last → level_part s parity i new ≡ words_after i
    pub other : Same s (1 - parity) ws new

  module _ (w : Whole s ws) where
    half : parity ≤ 1
    half = omega arith

    inside : offset_of s stamp < 2 ^ s.k
    inside = mod-lt stamp (pow_pos s.k)

    few_after : (i : ℕ) → i ≤ s.last → length (level_after i).buckets ≤ s.n
    few_after i low =
        (insert-sound s.k s.n i w.proper.limits.low_n (get_or ws (total_start parity) 0) (offset_of s stamp) v (decode_level (level_part s parity i ws)) inside
        (whole_level s ws w parity half i low)).few

    abbrev half_after : Half
    half_after = deliver_half s (offset_of s stamp) v (decode_half s parity ws)

    after_sized : HalfSized s half_after
    unfolding deliver_half decode_half
    after_sized = record {
      level_at = level_after;
      levels = insert_all_up_from s.n (offset_of s stamp) v (λ i. decode_level (level_part s parity i ws)) 0 (suc s.last);
      few = few_after;
    }

    -- they are the words of the delivered block
    delivered-block : (new : List ℕ) → Delivered new → new ≡ encode_block s (deliver s stamp v (decode_block s ws))
    unfolding deliver deliver_half decode_half after_sized
    delivered-block new d =
        let j = interval s stamp in
        encode_with_half s ws w new d.size j half_after after_sized (record { total = d.total; parts = d.parts }) d.other
        ∙ ap (λ (h : Half). encode_block s (with_half j (deliver_half s (offset_of s stamp) v h) (decode_block s ws))) (sym (half_of_decode s j ws))

    -- ---- level by level

    after_words : (i : ℕ) → i ≤ s.last → length (words_after i) ≡ level_words s
    after_words i low = length_encode s.n (level_after i) (few_after i low)

    pub length-delivering : (c : ℕ) → c ≤ suc s.last → length (delivering c) ≡ block_words s
    length-delivering = length-written s parity half words_after after_words ws w.size (get_or ws (total_start parity) 0 + v)

    -- the next level has not changed yet
    pub level_part-delivering : (i : ℕ) → i ≤ s.last → level_part s parity i (delivering i) ≡ level_part s parity i ws
    level_part-delivering i low =
        level_part-written-above s parity half words_after after_words ws w.size (get_or ws (total_start parity) 0 + v) i (omega arith) i (omega arith)

    -- it can take the delivery if the half can
    pub level_insertable : 0 < v → get_or ws (total_start parity) 0 + v ≤ 2 ^ s.m → (i : ℕ) → i ≤ s.last → Insertable s i (offset_of s stamp) v (level_part s parity i ws)
    level_insertable some room i low = record {
      total = get_or ws (total_start parity) 0;
      proper = w.proper;
      index = low;
      size = length-level_part s parity i ws half low w.size;
      sound = sound_half-level s ws parity (whole_half s ws w parity half) i low;
      inside = inside;
      some = some;
      room = room;
    }

    -- after the last level the words are those of the delivered block
    pub delivering_all : delivering (suc s.last) ≡ encode_block s (deliver s stamp v (decode_block s ws))
    unfolding deliver_half decode_half after_sized
    delivering_all =
        let total : ℕ = get_or ws (total_start parity) 0 + v in
        let placed = placed_written s parity half words_after after_words ws w.size total half_after after_sized refl (λ i low. refl) in
        delivered-block (delivering (suc s.last)) (record {
          size = length-delivering (suc s.last) (omega arith);
          total = placed.total;
          parts = placed.parts;
          other = same_written s parity half words_after after_words ws w.size total (1 - parity) (omega arith) (λ e. omega arith);
        })
