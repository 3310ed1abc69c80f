-- Halves written level by level: what the words of a block are then, and which block they stand for. Rests on the codec of a block.
use Rattle.std.specs.Prelude.{true, ◌≢◌, ◌≡◌, List, [], ◌∷◌, ℕ, zero, suc, ◌+◌, ◌-◌, ◌%◌, ◌^◌, ◌≤◌, ◌<◌, length, get_or, set}
use Rattle.std.proofs.Common.{⊎_elim, sym, ap, subst, ◌∙◌, arith, length-set, get_or-set_same, get_or-set_other}
use Rattle.std.proofs.Math.Path.{refl}
use Rattle.std.proofs.Math.Nat.{sub-zero}
use borrow.Author.Tests.{ne_eqb}
use Rattle.shape.specs.declared.Shape.{Shape}
use Rattle.shape.specs.Layout.{total_start, level_words, block_words}
use Rattle.model.specs.Level.{Level, empty_level}
use Rattle.model.specs.Block.{Half, Block, up_from, interval, half_of, with_half, empty_half, advance}
use Rattle.model.proofs.BlockLaws.{empties_same, empties_next, empties_other}
use Rattle.model.specs.Words.{level_part, decode_level, decode_half, decode_block, encode_level, encode_block}
use Rattle.model.specs.Sound.{sound_half}
use Rattle.laws.specs.Cond.{lt_or_ge}
use Rattle.laws.specs.SoundLevel.{SoundLevel, words_tests}
use Rattle.laws.specs.LevelWords.{length_encode}
use Rattle.laws.specs.Parts.{place_next}
use Rattle.laws.specs.InsertSound.{empty_sound}
use Rattle.laws.specs.BlockWords.{HalfSized, Placed, sound_sized, block_words-halves, sound_half_total, sound_half-level, sound_block-halves, sound_block_decode, encode_decode_block, encode_block-even, encode_block-odd, encode_block_placed}
use Rattle.laws.specs.BlockWrites.{with_level, level_index, length-with_level, level_part-with_level, level_part-with_level_other, get_or-with_level_total, level_part-set_total}
use Rattle.laws.specs.Proper.{Whole}

-- ---- the halves of decoded words

-- case distinction by parity
by_parity : (j : ℕ) (P : ℕ → Type 0) → (j % 2 ≡ 0 → P 0) → (j % 2 ≡ 1 → P 1) → P (j % 2)
by_parity j P even odd = go (j % 2) refl (omega arith)
  where
    go : (r : ℕ) → j % 2 ≡ r → r < 2 → P r
    go zero e h = even e
    go (suc zero) e h = odd e
    go (suc (suc r)) e h = absurd (omega arith)

-- the half that serves an interval is that of its parity
pub half_of_decode : (s : Shape) (j : ℕ) (ws : List ℕ) → half_of j (decode_block s ws) ≡ decode_half s (j % 2) ws
unfolding decode_block
half_of_decode s j ws = by_parity j (λ r. half_of j (decode_block s ws) ≡ decode_half s r ws) (λ e. rw e) (λ e. rw e)

-- its total is a word
pub total_decode : (s : Shape) (j : ℕ) (ws : List ℕ) → (half_of j (decode_block s ws)).total ≡ get_or ws (j % 2) 0
unfolding decode_half
total_decode s j ws = ap (λ (h : Half). h.total) (half_of_decode s j ws)

-- level i, in the half of a parity
abbrev pub level_at : Shape → ℕ → List ℕ → ℕ → Level
level_at s parity ws i = decode_level (level_part s parity i ws)

-- the levels from level i on
abbrev pub levels_from : Shape → ℕ → List ℕ → ℕ → List Level
levels_from s parity ws i = up_from (level_at s parity ws) i (suc s.last - i)

module _ (s : Shape) (parity : ℕ) (ws : List ℕ) where
  pub levels_from_all : levels_from s parity ws 0 ≡ (decode_half s parity ws).levels
  unfolding decode_half
  levels_from_all = rw sub-zero

  pub levels_from_step : (i : ℕ) → i ≤ s.last → levels_from s parity ws i ≡ level_at s parity ws i ∷ levels_from s parity ws (suc i)
  levels_from_step i low = ap (up_from (level_at s parity ws) i) {x = suc s.last - i} {y = suc (suc s.last - suc i)} (omega arith)

  pub levels_from-none : levels_from s parity ws (suc s.last) ≡ []
  levels_from-none = ap (up_from (level_at s parity ws) (suc s.last)) {x = suc s.last - suc s.last} {y = 0} (omega arith)

-- ---- what a sound block says of one half

module _ (s : Shape) (ws : List ℕ) (w : Whole s ws) (parity : ℕ) (p : parity ≤ 1) where
  pub whole_half : sound_half s parity ws ≡ true
  whole_half = go parity p
    where
      go : (r : ℕ) → r ≤ 1 → sound_half s r ws ≡ true
      go zero h = (sound_block-halves s ws w.sound).0
      go (suc zero) h = (sound_block-halves s ws w.sound).1
      go (suc (suc r)) h = absurd (omega arith)

  pub whole_total : get_or ws (total_start parity) 0 ≤ 2 ^ s.m
  whole_total = sound_half_total s ws parity whole_half

  pub whole_level : (i : ℕ) → i ≤ s.last → SoundLevel s.k s.n i (get_or ws (total_start parity) 0) (decode_level (level_part s parity i ws))
  whole_level i low = ((words_tests s i (get_or ws (total_start parity) 0) (level_part s parity i ws)).0 (sound_half-level s ws parity whole_half i low)).1

-- ---- levels of one half, written from level 0 on

-- the words of a block with f i in place of each level i below c of the half of this parity
abbrev pub with_levels : Shape → ℕ → (ℕ → List ℕ) → ℕ → List ℕ → List ℕ
with_levels s parity f zero ws = ws
with_levels s parity f (suc c) ws = with_level s parity c (f c) (with_levels s parity f c ws)

-- the half of this parity is the same in both lists of words
pub record Same (s : Shape) (parity : ℕ) (ws new : List ℕ) : Type 0 where
  pub total : get_or new parity 0 ≡ get_or ws (total_start parity) 0
  pub parts : (i : ℕ) → i ≤ s.last → level_part s parity i new ≡ level_part s parity i ws

-- levels of different halves are different
level_index_apart : (s : Shape) (a b : ℕ) → a ≢ b → (i j : ℕ) → i ≤ s.last → j ≤ s.last → level_index s a j ≢ level_index s b i
level_index_apart s a b apart i j l m e =
    let next = place_next 0 (s.last + 1) in ⊎_elim (λ (h : a < b). omega (arith, next a b h)) (λ (h : b ≤ a). omega (arith, next b a (omega arith))) (lt_or_ge a b)

module _ (s : Shape) (parity : ℕ) (p : parity ≤ 1) (f : ℕ → List ℕ) (sized : (i : ℕ) → i ≤ s.last → length (f i) ≡ level_words s) (ws : List ℕ)
    (size : length ws ≡ block_words s) where
  -- the number of words stays
  length-with_levels : (c : ℕ) → c ≤ suc s.last → length (with_levels s parity f c ws) ≡ block_words s
  length-with_levels zero h = size
  length-with_levels (suc c) h =
      let low : c ≤ s.last = omega arith in
      let before = length-with_levels c (omega arith) in
      length-with_level s parity c p low (f c) (with_levels s parity f c ws) before (sized c low) ∙ before

  -- the totals stay
  get_or-with_levels_total : (c : ℕ) → c ≤ suc s.last → (total : ℕ) → total < 2 → get_or (with_levels s parity f c ws) total 0 ≡ get_or ws total 0
  get_or-with_levels_total zero h total two = refl
  get_or-with_levels_total (suc c) h total two =
      let low : c ≤ s.last = omega arith in
      get_or-with_level_total s parity c p low (f c) (with_levels s parity f c ws) (length-with_levels c (omega arith)) (sized c low) total 0 two
      ∙ get_or-with_levels_total c (omega arith) total two

  -- a level that is not written stays
  level_part-with_levels_other : (c : ℕ) → c ≤ suc s.last → (other j : ℕ) → ((i : ℕ) → i < c → level_index s other j ≢ level_index s parity i)
      → level_part s other j (with_levels s parity f c ws) ≡ level_part s other j ws
  level_part-with_levels_other zero h other j apart = refl
  level_part-with_levels_other (suc c) h other j apart =
      let low : c ≤ s.last = omega arith in
      level_part-with_level_other s parity c p low (f c) (with_levels s parity f c ws) (length-with_levels c (omega arith)) (sized c low) other j (apart c (omega arith))
      ∙ level_part-with_levels_other c (omega arith) other j (λ i l. apart i (omega arith))

  -- a level from c on is not written yet
  level_part-with_levels-above : (c : ℕ) → c ≤ suc s.last → (i : ℕ) → c ≤ i → level_part s parity i (with_levels s parity f c ws) ≡ level_part s parity i ws
  level_part-with_levels-above c h i high = level_part-with_levels_other c h parity i (λ j l. λ e. omega arith)

  -- a level below c is written
  level_part-with_levels : (c : ℕ) → c ≤ suc s.last → (i : ℕ) → i < c → level_part s parity i (with_levels s parity f c ws) ≡ f i
  level_part-with_levels zero h i l = absurd (omega arith)
  level_part-with_levels (suc c) h i l =
      let low : c ≤ s.last = omega arith in
      let before : List ℕ = with_levels s parity f c ws in
      let size_before = length-with_levels c (omega arith) in
      ⊎_elim
      (λ (b : i < c).
      level_part-with_level_other s parity c p low (f c) before size_before (sized c low) parity i (λ e. omega arith) ∙ level_part-with_levels c (omega arith) i b)
      (λ (g : c ≤ i). let same : i ≡ c = omega arith in rw same (level_part-with_level s parity c p low (f c) before size_before (sized c low)))
      (lt_or_ge i c)

-- writing a total and all levels of a half
module _ (s : Shape) (parity : ℕ) (p : parity ≤ 1) (f : ℕ → List ℕ) (sized : (i : ℕ) → i ≤ s.last → length (f i) ≡ level_words s) (ws : List ℕ)
    (size : length ws ≡ block_words s) (v : ℕ) where
  abbrev start : List ℕ
  start = set ws parity v

  start_size : length start ≡ block_words s
  start_size = length-set ws parity v ∙ size

  pub length-written : (c : ℕ) → c ≤ suc s.last → length (with_levels s parity f c (set ws parity v)) ≡ block_words s
  length-written = length-with_levels s parity p f sized start start_size

  -- a level from c on has not changed yet
  pub level_part-written-above : (c : ℕ) → c ≤ suc s.last → (i : ℕ) → c ≤ i → level_part s parity i (with_levels s parity f c (set ws parity v)) ≡ level_part s parity i ws
  level_part-written-above c h i high = level_part-with_levels-above s parity p f sized start start_size c h i high ∙ level_part-set_total s parity i parity v ws (omega arith)

  -- the half is in its place
  pub placed_written : (h : Half) (z : HalfSized s h) → v ≡ h.total → ((i : ℕ) → i ≤ s.last → f i ≡ encode_level s.n (z.level_at i))
      → Placed s parity h z (with_levels s parity f (suc s.last) (set ws parity v))
  placed_written h z total parts = record {
    total = get_or-with_levels_total s parity p f sized start start_size (suc s.last) (omega arith) parity (omega arith)
        ∙ get_or-set_same ws parity v 0 (omega (arith, block_words-halves s)) ∙ total;
    parts = λ i low. level_part-with_levels s parity p f sized start start_size (suc s.last) (omega arith) i (omega arith) ∙ parts i low;
  }

  -- the other half does not change
  pub same_written : (other : ℕ) → other ≤ 1 → other ≢ parity → Same s other ws (with_levels s parity f (suc s.last) (set ws parity v))
  same_written other o apart = record {
    total = get_or-with_levels_total s parity p f sized start start_size (suc s.last) (omega arith) other (omega arith) ∙ get_or-set_other ws parity other v 0 apart;
    parts = λ j low.
        level_part-with_levels_other s parity p f sized start start_size (suc s.last) (omega arith) other j (λ i l. level_index_apart s other parity apart i j (omega arith) low)
        ∙ level_part-set_total s other j parity v ws (omega arith);
  }

-- ---- the block that words stand for

-- a half that did not change is still in its place
placed_same : (s : Shape) (parity : ℕ) (h : Half) (z : HalfSized s h) (ws new : List ℕ) → Placed s parity h z ws → Same s parity ws new → Placed s parity h z new
placed_same s parity h z ws new w same = record { total = same.total ∙ w.total; parts = λ i low. same.parts i low ∙ w.parts i low }

module _ (s : Shape) (ws : List ℕ) (w : Whole s ws) (new : List ℕ) (size : length new ≡ block_words s) where
  abbrev block : Block
  block = decode_block s ws

  abbrev even : HalfSized s block.even
  even = sound_sized s block.even (sound_block_decode s ws w.sound).0

  abbrev odd : HalfSized s block.odd
  odd = sound_sized s block.odd (sound_block_decode s ws w.sound).1

  -- words with one half in its place and the other unchanged are the block with that half
  pub encode_with_half : (j : ℕ) (h : Half) (z : HalfSized s h) → Placed s (j % 2) h z new → Same s (1 - j % 2) ws new → new ≡ encode_block s (with_half j h block)
  encode_with_half j h z =
      let same = encode_decode_block s ws w.sound w.size in
      by_parity j (λ r. Placed s r h z new → Same s (1 - r) ws new → new ≡ encode_block s (with_half j h block))
      (λ e here kept. rw e (encode_block_placed s (record { even = h; odd = block.odd }) z odd new size here
      (placed_same s 1 block.odd odd ws new (subst (λ (x : List ℕ). Placed s 1 block.odd odd x) same (encode_block-odd s block even odd)) kept)))
      (λ e here kept. rw e (encode_block_placed s (record { even = block.even; odd = h }) even z new size
      (placed_same s 0 block.even even ws new (subst (λ (x : List ℕ). Placed s 0 block.even even x) same (encode_block-even s block even odd)) kept) here))

-- ---- emptying halves

-- the words of level i of an empty half
abbrev pub empty_words : Shape → ℕ → List ℕ
empty_words s i = encode_level s.n (empty_level s.k i)

-- the words after the half of this parity was emptied
unfoldable pub emptied : Shape → ℕ → List ℕ → List ℕ
emptied s parity ws = with_levels s parity (empty_words s) (suc s.last) (set ws parity 0)

abbrev empty_block : Shape → Block
empty_block s = record { even = empty_half s; odd = empty_half s }

module _ (s : Shape) (two : 2 ≤ s.n) where
  empty_words_size : (i : ℕ) → i ≤ s.last → length (empty_words s i) ≡ level_words s
  empty_words_size i low = length_encode s.n (empty_level s.k i) (empty_sound s.k s.n i two).few

  empty_sized : HalfSized s (empty_half s)
  unfolding empty_half
  empty_sized = record { level_at = empty_level s.k; levels = refl; few = λ i low. (empty_sound s.k s.n i two).few }

  module _ (parity : ℕ) (p : parity ≤ 1) (ws : List ℕ) (size : length ws ≡ block_words s) where
    length-emptied : length (emptied s parity ws) ≡ block_words s
    unfolding emptied
    length-emptied = length-written s parity p (empty_words s) empty_words_size ws size 0 (suc s.last) (omega arith)

    emptied_placed : Placed s parity (empty_half s) empty_sized (emptied s parity ws)
    unfolding emptied empty_sized empty_half
    emptied_placed = placed_written s parity p (empty_words s) empty_words_size ws size 0 (empty_half s) empty_sized refl (λ i low. refl)

    emptied_same : (other : ℕ) → other ≤ 1 → other ≢ parity → Same s other ws (emptied s parity ws)
    unfolding emptied
    emptied_same = same_written s parity p (empty_words s) empty_words_size ws size 0

  -- emptying both halves
  pub emptied-both : (ws : List ℕ) → length ws ≡ block_words s → emptied s 1 (emptied s 0 ws) ≡ encode_block s (empty_block s)
  emptied-both ws size =
      let z = empty_sized in
      let one : List ℕ = emptied s 0 ws in
      let one_size = length-emptied 0 (omega arith) ws size in
      encode_block_placed s (empty_block s) z z (emptied s 1 one) (length-emptied 1 (omega arith) one one_size)
      (placed_same s 0 (empty_half s) z one (emptied s 1 one) (emptied_placed 0 (omega arith) ws size) (emptied_same 1 (omega arith) one one_size 0 (omega arith) (λ e. omega arith)))
      (emptied_placed 1 (omega arith) one one_size)

-- ---- what the clock empties, by the intervals that it goes from and to

module _ (s : Shape) (old new : ℕ) (b : Block) where
  abbrev from : ℕ
  from = interval s old

  abbrev to : ℕ
  to = interval s new

  -- nothing if it stays in the interval
  pub advance_same : to ≡ from → advance s old new b ≡ b
  unfolding advance
  advance_same e = rw (empties_same from to 0 e, empties_same from to 1 e)

  -- the half of the next interval if it enters that
  advance_next : to ≡ from + 1 → advance s old new b ≡ with_half to (empty_half s) b
  unfolding advance
  advance_next e =
      by_parity to (λ _. advance s old new b ≡ with_half to (empty_half s) b)
      (λ r. rw (empties_next from to 0 e (omega arith), empties_other from to 1 e (omega arith), r))
      (λ r. rw (empties_other from to 0 e (omega arith), empties_next from to 1 e (omega arith), r))

  -- both otherwise
  pub advance_far : (to ≡ from → ⊥) → (to ≡ from + 1 → ⊥) → advance s old new b ≡ empty_block s
  unfolding advance
  advance_far x y = simp (ne_eqb to from x, ne_eqb to (from + 1) y)

module _ (s : Shape) (ws : List ℕ) (w : Whole s ws) (old new : ℕ) where
  -- the words after the clock enters the next interval
  pub emptied_next : interval s new ≡ interval s old + 1 → emptied s (interval s new % 2) ws ≡ encode_block s (advance s old new (decode_block s ws))
  emptied_next e =
      let j : ℕ = interval s new in
      let two : 2 ≤ s.n = w.proper.limits.low_n in
      let p : j % 2 ≤ 1 = omega arith in
      encode_with_half s ws w (emptied s (j % 2) ws) (length-emptied s two (j % 2) p ws w.size) j (empty_half s) (empty_sized s two)
      (emptied_placed s two (j % 2) p ws w.size)
      (emptied_same s two (j % 2) p ws w.size (1 - j % 2) (omega arith) (λ q. omega arith))
      ∙ ap (encode_block s) (sym (advance_next s old new (decode_block s ws) e))
