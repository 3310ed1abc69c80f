-- A block and its words: decoding and encoding are inverse, each level has its part, and the words are sound exactly if the block is. Rests
-- on the codec of a level and on lists in parts.
use Rattle.std.specs.Prelude.{Bool, true, ◌&&◌, ◌≡◌, leb, drop}
use Rattle.std.proofs.Math.Path.{refl, sym, ap}
use Rattle.std.proofs.Common.{◌∙◌, zero-add, mul-le-mul_right, add-one, length-drop, length-take-le, take-add, take_all, drop-drop, leb-true, le-leb}
use mathlib.Core.List.{List, [], ◌∷◌, ◌++◌, map, append-nil}
use Prim.Native.Nat.{ℕ, suc, ◌+◌, ◌*◌, ◌^◌, ◌≤◌}
use Rattle.std.proofs.Math.Nat.{add-mul, mul_assoc}
use native.Mathlib.Omega.{arith}
use Rattle.std.proofs.Math.ListN.{length, get_or, take, length-append}
use Rattle.std.proofs.Math.Seq.{drop-append-add}
use Rattle.shape.specs.declared.Shape.{Shape}
use Rattle.shape.specs.Layout.{total_start, level_words, level_start, block_words}
use Rattle.shape.specs.LimitsLaws.{both}
use Rattle.model.specs.Level.{Level}
use Rattle.model.specs.Block.{Half, Block, up_from}
use Rattle.model.specs.Words.{decode_level, level_part, decode_half, decode_block, join, encode_level, encode_block}
use Rattle.model.specs.Sound.{all_from, sound_level, sound_half, sound_block}
use Rattle.laws.specs.Cond.{and-true}
use Rattle.laws.specs.LevelWords.{first_two, decode_encode, length_encode, sound_content, sound_level_encode, sound_level_decode, encode_decode_sound}
use Rattle.laws.specs.Parts.{append_cong, EachFrom, all_from_intro, all_from_elim, all_from_cong, map_up_from, up_from_cong, length-join, take-drop-join, join_consecutive, place_next}

-- ---- where the levels start

-- how many words the levels of one half take
unfoldable pub half_words : Shape → ℕ
half_words s = suc s.last * level_words s

module _ (s : Shape) where
  -- where a level starts, in terms of halves
  level_start-half : (parity i : ℕ) → level_start s parity i ≡ 2 + parity * half_words s + i * level_words s
  unfolding level_start half_words
  level_start-half parity i = rw (add-one, add-mul (parity * suc s.last) i (level_words s), mul_assoc parity (suc s.last) (level_words s)) (omega arith)

  -- a block is two totals and two halves
  pub block_words-halves : block_words s ≡ 2 + 2 * half_words s
  unfolding block_words half_words
  block_words-halves = rw (add-one, mul_assoc 2 (suc s.last) (level_words s))

  -- the part of each level lies within its half
  level_fits : (i : ℕ) → i ≤ s.last → i * level_words s + level_words s ≤ half_words s
  unfolding half_words
  level_fits i h = omega (arith, place_next 0 (level_words s) i (suc s.last) (omega arith))

  -- the part of each level lies within the block
  pub level_start_fits : (parity i : ℕ) → parity ≤ 1 → i ≤ s.last → level_start s parity i + level_words s ≤ block_words s
  level_start_fits parity i p h =
      omega (arith, level_start-half parity i, block_words-halves, level_fits i h, mul-le-mul_right {m = parity} {n = 1} (half_words s) p)

  -- the part of a level is as long as a level
  pub length-level_part : (parity i : ℕ) (ws : List ℕ) → parity ≤ 1 → i ≤ s.last → length ws ≡ block_words s → length (level_part s parity i ws) ≡ level_words s
  length-level_part parity i ws p h size =
      length-take-le (level_words s) (drop (level_start s parity i) ws) (simp length-drop (omega (arith, level_start_fits parity i p h)))

  -- the parts of a half's levels, joined
  level_parts_joined : (parity : ℕ) (ws : List ℕ)
      → join (up_from (λ i. level_part s parity i ws) 0 (suc s.last)) ≡ take (half_words s) (drop (2 + parity * half_words s) ws)
  unfolding half_words
  level_parts_joined parity ws =
      let start : ℕ = 2 + parity * half_words s in
      let first : start + 0 * level_words s ≡ start = omega arith in
      ap join (up_from_cong _ _ 0 (suc s.last) (λ i low high. ap (λ (a : ℕ). take (level_words s) (drop a ws)) (level_start-half parity i)))
      ∙ join_consecutive (level_words s) start ws 0 (suc s.last)
      ∙ ap (λ (a : ℕ). take (half_words s) (drop a ws)) first

  -- words of a block's length are two totals and the parts of their levels
  levels_joined : (ws : List ℕ) → length ws ≡ block_words s
      → ws ≡ get_or ws 0 0 ∷ get_or ws 1 0
      ∷ (join (up_from (λ i. level_part s 0 i ws) 0 (suc s.last)) ++ join (up_from (λ i. level_part s 1 i ws) 0 (suc s.last)))
  levels_joined ws size =
      let half : ℕ = half_words s in
      let even-start : 2 + 0 * half ≡ 2 = omega arith in
      let odd-start : 2 + 1 * half ≡ 2 + half = omega arith in
      let all : length (drop 2 ws) ≤ half + half = simp length-drop (omega (arith, block_words-halves)) in
      let rest : take half (drop (2 + 0 * half) ws) ++ take half (drop (2 + 1 * half) ws) ≡ drop 2 ws =
      rw (even-start, odd-start, ← drop-drop half 2 ws, ← take-add half half (drop 2 ws)) (take_all (half + half) (drop 2 ws) all) in
      first_two ws (omega (arith, block_words-halves))
      ∙ ap (λ (z : List ℕ). get_or ws 0 0 ∷ get_or ws 1 0 ∷ z) (sym (append_cong (level_parts_joined 0 ws) (level_parts_joined 1 ws) ∙ rest))

-- ---- a half and its words

-- a half that has the levels of its shape, none with more buckets than slots
pub record HalfSized (s : Shape) (h : Half) : Type 0 where
  pub level_at : ℕ → Level
  pub levels : h.levels ≡ up_from level_at 0 (suc s.last)
  pub few : (i : ℕ) → i ≤ s.last → length (level_at i).buckets ≤ s.n

-- the words of the levels of a half
abbrev levels_words : Shape → Half → List ℕ
levels_words s h = join (map (encode_level s.n) h.levels)

-- words in which the half of this parity is in its place
pub record Placed (s : Shape) (parity : ℕ) (h : Half) (z : HalfSized s h) (ws : List ℕ) : Type 0 where
  pub total : get_or ws (total_start parity) 0 ≡ h.total
  pub parts : (i : ℕ) → i ≤ s.last → level_part s parity i ws ≡ encode_level s.n (z.level_at i)

module _ (s : Shape) (h : Half) (z : HalfSized s h) where
  abbrev part : ℕ → List ℕ
  part i = encode_level s.n (z.level_at i)

  length_part : EachFrom 0 (suc s.last) (λ i. length (part i) ≡ level_words s)
  length_part i low high = length_encode s.n (z.level_at i) (z.few i (omega arith))

  -- the words of the levels, as parts of one size
  levels_words-join : levels_words s h ≡ join (up_from part 0 (suc s.last))
  levels_words-join = ap (λ (ls : List Level). join (map (encode_level s.n) ls)) z.levels ∙ ap join (map_up_from z.level_at (encode_level s.n) 0 (suc s.last))

  -- the length of these words
  length-levels_words : length (levels_words s h) ≡ half_words s
  unfolding half_words
  length-levels_words = rw levels_words-join (length-join part (level_words s) 0 (suc s.last) length_part)

  -- the levels of a half, after as many words as its parity requires
  levels_placed : (parity : ℕ) (pre post : List ℕ) → length pre ≡ 2 + parity * half_words s → get_or (pre ++ (levels_words s h ++ post)) parity 0 ≡ h.total
      → Placed s parity h z (pre ++ (levels_words s h ++ post))
  levels_placed parity pre post start total = record { total = total; parts = parts }
    where
      parts : (i : ℕ) → i ≤ s.last → level_part s parity i (pre ++ (levels_words s h ++ post)) ≡ part i
      parts i low =
          let place : level_start s parity i ≡ length pre + i * level_words s = omega (arith, level_start-half s parity i) in
          rw (levels_words-join, place, drop-append-add)
          (take-drop-join part (level_words s) post 0 (suc s.last) length_part i i (zero-add i) (omega arith))

  module _ (parity : ℕ) (ws : List ℕ) (w : Placed s parity h z ws) where
    decode_parts : EachFrom 0 (suc s.last) (λ i. decode_level (level_part s parity i ws) ≡ z.level_at i)
    decode_parts i low high = ap decode_level (w.parts i (omega arith)) ∙ decode_encode s.n (z.level_at i)

    parts_joined : join (up_from (λ i. level_part s parity i ws) 0 (suc s.last)) ≡ levels_words s h
    parts_joined = ap join (up_from_cong _ _ 0 (suc s.last) (λ i low high. w.parts i (omega arith))) ∙ sym levels_words-join

    -- decoding gives the half
    decode_half_placed : decode_half s parity ws ≡ h
    unfolding decode_half
    decode_half_placed =
        rw (w.total, up_from_cong (λ i. decode_level (level_part s parity i ws)) z.level_at 0 (suc s.last) decode_parts, ← z.levels)

    sound_level_parts : EachFrom 0 (suc s.last) (λ i. sound_level s i h.total (level_part s parity i ws) ≡ sound_content s i h.total (z.level_at i))
    sound_level_parts i low high = ap (sound_level s i h.total) (w.parts i (omega arith)) ∙ sound_level_encode s i h.total (z.level_at i)

    -- the words are sound exactly if the half is
    sound_half_placed : sound_half s parity ws ≡ (leb h.total (2 ^ s.m) && all_from (λ i. sound_content s i h.total (z.level_at i)) 0 (suc s.last))
    unfolding sound_half
    sound_half_placed =
        ap (λ (t : ℕ). leb t (2 ^ s.m) && all_from (λ i. sound_level s i t (level_part s parity i ws)) 0 (suc s.last)) w.total
        ∙ ap (λ (b : Bool). leb h.total (2 ^ s.m) && b)
        (all_from_cong
        (λ i. sound_level s i h.total (level_part s parity i ws))
        (λ i. sound_content s i h.total (z.level_at i)) 0 (suc s.last) sound_level_parts)

-- ---- a block and its words

-- a half that `sound_half` accepts
pub record HalfSound (s : Shape) (h : Half) : Type 0 where
  pub level_at : ℕ → Level
  pub levels : h.levels ≡ up_from level_at 0 (suc s.last)
  pub total : h.total ≤ 2 ^ s.m
  pub sound : (i : ℕ) → i ≤ s.last → sound_content s i h.total (level_at i) ≡ true

-- a sound half has no more buckets than slots
abbrev pub sound_sized : (s : Shape) (h : Half) → HalfSound s h → HalfSized s h
sound_sized s h y =
    record { level_at = y.level_at; levels = y.levels; few = λ i low. leb-true (length (y.level_at i).buckets) s.n (both (y.sound i low)).0 }

-- the words of a sound half are sound
sound_half-true : (s : Shape) (h : Half) (y : HalfSound s h) (parity : ℕ) (ws : List ℕ) → Placed s parity h (sound_sized s h y) ws → sound_half s parity ws ≡ true
sound_half-true s h y parity ws w =
    sound_half_placed s h (sound_sized s h y) parity ws w
    ∙ and-true (le-leb h.total (2 ^ s.m) y.total)
    (all_from_intro (λ i. sound_content s i h.total (y.level_at i)) 0 (suc s.last) (λ i low high. y.sound i (omega arith)))

module _ (s : Shape) (b : Block) where
  module _ (even : HalfSized s b.even) (odd : HalfSized s b.odd) where
    -- an encoded block has the length of the layout
    pub length-encode_block : length (encode_block s b) ≡ block_words s
    unfolding encode_block
    length-encode_block =
        simp length-append (omega (arith, length-levels_words s b.even even, length-levels_words s b.odd odd, block_words-halves s))

    -- each half is in its place
    pub encode_block-even : Placed s 0 b.even even (encode_block s b)
    unfolding encode_block
    encode_block-even = levels_placed s b.even even 0 (b.even.total ∷ b.odd.total ∷ []) (levels_words s b.odd) (omega arith) refl

    pub encode_block-odd : Placed s 1 b.odd odd (encode_block s b)
    unfolding encode_block
    encode_block-odd =
        let pre : List ℕ = b.even.total ∷ b.odd.total ∷ levels_words s b.even in
        let start : length pre ≡ 2 + 1 * half_words s = omega (arith, length-levels_words s b.even even) in
        rw append-nil at (levels_placed s b.odd odd 1 pre [] start refl)

    -- words of a block's length with both halves in place are the encoded block
    pub encode_block_placed : (ws : List ℕ) → length ws ≡ block_words s → Placed s 0 b.even even ws → Placed s 1 b.odd odd ws → ws ≡ encode_block s b
    unfolding encode_block
    encode_block_placed ws size e o =
        let first : get_or ws 0 0 ≡ b.even.total = e.total in
        let second : get_or ws 1 0 ≡ b.odd.total = o.total in
        let levels = append_cong (parts_joined s b.even even 0 ws e) (parts_joined s b.odd odd 1 ws o) in
        levels_joined s ws size ∙ cc levels

    -- encoding, then decoding
    pub decode_encode_block : decode_block s (encode_block s b) ≡ b
    unfolding decode_block
    decode_encode_block =
        rw (decode_half_placed s b.even even 0 (encode_block s b) encode_block-even, decode_half_placed s b.odd odd 1 (encode_block s b) encode_block-odd)

  -- the words of two sound halves are sound
  pub sound_block_encode : HalfSound s b.even → HalfSound s b.odd → sound_block s (encode_block s b) ≡ true
  unfolding sound_block
  sound_block_encode even odd =
      let e = sound_sized s b.even even in
      let o = sound_sized s b.odd odd in
      and-true
      (sound_half-true s b.even even 0 (encode_block s b) (encode_block-even e o))
      (sound_half-true s b.odd odd 1 (encode_block s b) (encode_block-odd e o))

-- ---- words that are sound

module _ (s : Shape) (ws : List ℕ) where
  module _ (parity : ℕ) (sound : sound_half s parity ws ≡ true) where
    abbrev level_in : ℕ → List ℕ
    level_in i = level_part s parity i ws

    abbrev level_test : ℕ → Bool
    level_test i = sound_level s i (get_or ws (total_start parity) 0) (level_in i)

    tests : (leb (get_or ws (total_start parity) 0) (2 ^ s.m) ≡ true) × (all_from level_test 0 (suc s.last) ≡ true)
    unfolding sound_half
    tests = both sound

    -- what follows if the test of a half holds
    pub sound_half_total : get_or ws (total_start parity) 0 ≤ 2 ^ s.m
    sound_half_total = leb-true (get_or ws (total_start parity) 0) (2 ^ s.m) tests.0

    pub sound_half-level : (i : ℕ) → i ≤ s.last → sound_level s i (get_or ws (total_start parity) 0) (level_part s parity i ws) ≡ true
    sound_half-level i low = all_from_elim level_test 0 (suc s.last) tests.1 i (omega arith) (omega arith)

    -- sound words stand for a sound half
    sound_half_decode : HalfSound s (decode_half s parity ws)
    unfolding decode_half
    sound_half_decode =
        record {
          level_at = λ i. decode_level (level_in i);
          levels = refl;
          total = sound_half_total;
          sound = λ i low. sound_level_decode s i (get_or ws (total_start parity) 0) (level_in i) (sound_half-level i low);
        }

    -- sound words have the half in its place
    placed_decode : parity ≤ 1 → length ws ≡ block_words s → Placed s parity (decode_half s parity ws) (sound_sized s (decode_half s parity ws) sound_half_decode) ws
    unfolding decode_half sound_half_decode
    placed_decode p size =
        record {
          total = refl;
          parts = λ i low. sym (encode_decode_sound s i (get_or ws (total_start parity) 0) (level_in i) (sound_half-level i low) (length-level_part s parity i ws p low size));
        }

  module _ (sound : sound_block s ws ≡ true) where
    -- what follows if the test of a block holds
    pub sound_block-halves : (sound_half s 0 ws ≡ true) × (sound_half s 1 ws ≡ true)
    unfolding sound_block
    sound_block-halves = both sound

    -- sound words stand for two sound halves
    pub sound_block_decode : HalfSound s (decode_block s ws).even × HalfSound s (decode_block s ws).odd
    unfolding decode_block
    sound_block_decode = (sound_half_decode 0 sound_block-halves.0, sound_half_decode 1 sound_block-halves.1)

    -- decoding sound words, then encoding
    pub encode_decode_block : length ws ≡ block_words s → encode_block s (decode_block s ws) ≡ ws
    unfolding decode_block
    encode_decode_block size =
        sym (encode_block_placed s (decode_block s ws) _ _ ws size
        (placed_decode 0 sound_block-halves.0 (omega arith) size) (placed_decode 1 sound_block-halves.1 (omega arith) size))
