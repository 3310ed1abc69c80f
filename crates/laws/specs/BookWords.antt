-- A book and its words: the head and the blocks are where the layout says, and replacing one block changes no other word. Rests on lists in
-- parts.
use Rattle.std.specs.Prelude.{true, cond, ◌&&◌, ◌≢◌, ◌⊎◌, ◌≡◌, refl, leb, eqb, get_or, take, drop}
use Rattle.std.proofs.Common.{sym, ap, ◌∙◌, zero-add, add_assoc, take-append-drop, length-take-le, le-leb, leb-true, eqb-true}
use mathlib.Core.List.{List, [], ◌++◌, append-nil}
use Prim.Native.Nat.{ℕ, ◌+◌, ◌*◌, ◌≤◌, ◌<◌}
use native.Mathlib.Omega.{arith}
use Rattle.std.proofs.Math.ListN.{length, length-drop}
use Rattle.std.proofs.Math.Seq.{take-append-add, drop-append-add, take_all}
use Rattle.shape.specs.declared.Shape.{Shape}
use Rattle.shape.specs.Limits.{shaped, between, within}
use Rattle.shape.specs.LimitsLaws.{Limits, both, within_limits}
use Rattle.shape.specs.Layout.{head_len, block_words, block_start, book_words}
use Rattle.model.specs.Block.{up_from}
use Rattle.model.specs.Words.{block_part, shape_of, clock_of, join, encode_head, with_block}
use Rattle.model.specs.Sound.{max_clock, sound_head, sound_block}
use Rattle.laws.specs.Cond.{and-true}
use Rattle.laws.specs.Proper.{Proper, Whole}
use Rattle.laws.specs.Parts.{EachFrom, length-join, take-drop-join, with_part-join, join_consecutive, take_up_from, length-with_part, get_or-with_part-below, get_or-with_part-above, part-with_part, place_next, places_apart}

-- ---- where the blocks start

module _ (s : Shape) where
  -- a block ends where the next one starts, or before a later one
  block_start_next : (i j : ℕ) → i < j → block_start s i + block_words s ≤ block_start s j
  unfolding block_start
  block_start_next = place_next head_len (block_words s)

  -- two blocks do not overlap
  block_start_apart : (i j : ℕ) → i ≢ j → (block_start s i + block_words s ≤ block_start s j) ⊎ (block_start s j + block_words s ≤ block_start s i)
  unfolding block_start
  block_start_apart = places_apart head_len (block_words s)

  -- the block of a grade lies within the book
  pub block_start_fits : (grade : ℕ) → grade < s.g → block_start s grade + block_words s ≤ book_words s
  unfolding book_words block_start
  block_start_fits grade h = block_start_next grade s.g h

  -- the head lies within the book
  pub head_fits : head_len ≤ book_words s
  unfolding book_words
  head_fits = omega arith

  -- the head lies before every block
  pub head_before : (grade : ℕ) → head_len ≤ block_start s grade
  unfolding block_start
  head_before grade = omega arith

  -- words of a book's length are their first eight and their blocks
  blocks_joined : (ws : List ℕ) → length ws ≡ book_words s → take head_len ws ++ join (up_from (λ j. block_part s j ws) 0 s.g) ≡ ws
  unfolding book_words block_start
  blocks_joined ws size =
      let start : head_len + 0 * block_words s ≡ head_len = omega arith in
      let all : length (drop head_len ws) ≤ s.g * block_words s = simp length-drop (omega arith) in
      rw (join_consecutive (block_words s) head_len ws 0 s.g, start, take_all (s.g * block_words s) (drop head_len ws) all) (take-append-drop head_len ws)

-- ---- a book from its head and its blocks

-- the words of a book: its head, then f of each grade
abbrev pub book_of : Shape → ℕ → (ℕ → List ℕ) → List ℕ
book_of s clock f = encode_head s clock ++ join (up_from f 0 s.g)

module _ (s : Shape) (clock : ℕ) (f : ℕ → List ℕ) (sized : (j : ℕ) → j < s.g → length (f j) ≡ block_words s) where
  blocks_sized : EachFrom 0 s.g (λ j. length (f j) ≡ block_words s)
  blocks_sized j low high = sized j (omega arith)

  -- a book has the length of the layout
  pub length-book_of : length (book_of s clock f) ≡ book_words s
  unfolding book_words
  length-book_of = omega (arith, length-join f (block_words s) 0 s.g blocks_sized)

  module _ (grade : ℕ) (h : grade < s.g) where
    -- the block of a grade, read
    pub block_part-book_of : block_part s grade (book_of s clock f) ≡ f grade
    unfolding block_start
    block_part-book_of =
        rw (drop-append-add (encode_head s clock) (join (up_from f 0 s.g)) (grade * block_words s))
        (rw append-nil at (take-drop-join f (block_words s) [] 0 s.g blocks_sized grade grade (zero-add grade) h))

    -- the block of a grade, replaced
    pub with_block-book_of : (block : List ℕ) → with_block s grade block (book_of s clock f) ≡ book_of s clock (λ j. cond (eqb j grade) block (f j))
    unfolding block_start
    with_block-book_of block =
        let start : ℕ = grade * block_words s in
        let blocks : List ℕ = join (up_from f 0 s.g) in
        let head : List ℕ = encode_head s clock in
        rw (add_assoc head_len start (block_words s), take-append-add head blocks start, drop-append-add head blocks (start + block_words s))
        (ap (λ (z : List ℕ). head ++ z) (simp append-nil at (with_part-join f (block_words s) [] 0 s.g blocks_sized grade grade (zero-add grade) h block)))

-- ---- the head

between-true : (low x high : ℕ) → low ≤ x → x ≤ high → between low x high ≡ true
between-true low x high p q = and-true (le-leb low x p) (le-leb x high q)

-- numbers within their limits pass the test
pub limits_within : (k n m g : ℕ) → Limits k n m g → within k n m g ≡ true
unfolding within
limits_within k n m g l =
    and-true (between-true 2 k 20 l.low_k l.high_k)
    (and-true (between-true 2 n 1024 l.low_n l.high_n) (and-true (between-true 1 m 24 l.low_m l.high_m) (between-true 1 g 8 l.low_g l.high_g)))

-- the head of a shape within its limits is sound
pub sound_head_encode : (k n m g clock : ℕ) (rest : List ℕ) → Limits k n m g → clock ≤ max_clock → sound_head (encode_head (shaped k n m g) clock ++ rest) ≡ true
unfolding sound_head
sound_head_encode k n m g clock rest l low = and-true (limits_within k n m g l) (and-true (le-leb clock max_clock low) refl)

-- what follows if the head is sound
module _ (ws : List ℕ) (sound : sound_head ws ≡ true) where
  head_tests : (within (get_or ws 0 0) (get_or ws 1 0) (get_or ws 2 0) (get_or ws 3 0) ≡ true) × ((leb (clock_of ws) max_clock && (eqb (get_or ws 5 0) 0 && (eqb (get_or ws 6 0) 0 && eqb (get_or ws 7 0) 0))) ≡ true)
  unfolding sound_head
  head_tests = both sound

  -- the shape is within its limits
  sound_head_limits : Limits (get_or ws 0 0) (get_or ws 1 0) (get_or ws 2 0) (get_or ws 3 0)
  sound_head_limits = within_limits (get_or ws 0 0) (get_or ws 1 0) (get_or ws 2 0) (get_or ws 3 0) head_tests.0

  pub head_proper : Proper (shape_of ws)
  head_proper = record { limits = sound_head_limits; last = refl }

  rest_tests_lem : (leb (clock_of ws) max_clock ≡ true) × ((eqb (get_or ws 5 0) 0 && (eqb (get_or ws 6 0) 0 && eqb (get_or ws 7 0) 0)) ≡ true)
  rest_tests_lem = both head_tests.1

  -- the clock is within its limit
  pub sound_head-clock : clock_of ws ≤ max_clock
  sound_head-clock = leb-true (clock_of ws) max_clock rest_tests_lem.0

  -- the first eight words are the head of their shape and clock
  take_head : head_len ≤ length ws → take head_len ws ≡ encode_head (shape_of ws) (clock_of ws)
  take_head size =
      let five : (eqb (get_or ws 5 0) 0 ≡ true) × ((eqb (get_or ws 6 0) 0 && eqb (get_or ws 7 0) 0) ≡ true) = both rest_tests_lem.1 in
      let six : (eqb (get_or ws 6 0) 0 ≡ true) × (eqb (get_or ws 7 0) 0 ≡ true) = both five.1 in
      take_up_from ws 0 head_len size
      ∙ rw (eqb-true (get_or ws 5 0) 0 five.0, eqb-true (get_or ws 6 0) 0 six.0, eqb-true (get_or ws 7 0) 0 six.1)

  -- words with a sound head are a book made of its blocks
  pub book_of_parts : length ws ≡ book_words (shape_of ws) → ws ≡ book_of (shape_of ws) (clock_of ws) (λ j. block_part (shape_of ws) j ws)
  book_of_parts size =
      sym (blocks_joined (shape_of ws) ws size)
      ∙ ap (λ (z : List ℕ). z ++ join (up_from (λ j. block_part (shape_of ws) j ws) 0 (get_or ws 3 0))) (take_head (omega (arith, head_fits (shape_of ws))))

-- ---- one block of any words replaced

module _ (s : Shape) (grade : ℕ) (h : grade < s.g) (ws : List ℕ) (size : length ws ≡ book_words s) where
  -- a part is as long as a block
  pub length-block_part : length (block_part s grade ws) ≡ block_words s
  length-block_part = length-take-le (block_words s) (drop (block_start s grade) ws) (simp length-drop (omega (arith, block_start_fits s grade h)))

  fits : block_start s grade + block_words s ≤ length ws
  fits = omega (arith, block_start_fits s grade h)

  module _ (block : List ℕ) (block_size : length block ≡ block_words s) where
    -- the number of words stays
    pub length-with_block : length (with_block s grade block ws) ≡ length ws
    length-with_block = length-with_part (block_start s grade) (block_words s) block ws fits block_size

    -- no other block changes
    pub block_part-with_block_other : (other : ℕ) → other ≢ grade → block_part s other (with_block s grade block ws) ≡ block_part s other ws
    block_part-with_block_other other apart =
        part-with_part (block_start s grade) (block_words s) block ws fits block_size (block_start s other) (block_words s) (block_start_apart s other grade apart)

    -- no word below or above changes
    pub get_or-with_block-below : (i d : ℕ) → i < block_start s grade → get_or (with_block s grade block ws) i d ≡ get_or ws i d
    get_or-with_block-below = get_or-with_part-below (block_start s grade) (block_words s) block ws fits block_size

    pub get_or-with_block-above : (i d : ℕ) → block_start s grade + block_words s ≤ i → get_or (with_block s grade block ws) i d ≡ get_or ws i d
    get_or-with_block-above = get_or-with_part-above (block_start s grade) (block_words s) block ws fits block_size

-- a block that the check passed, of a book whose head and length it passed
pub whole_block : (ws : List ℕ) (grade : ℕ) → sound_head ws ≡ true → length ws ≡ book_words (shape_of ws) → grade < (shape_of ws).g
    → sound_block (shape_of ws) (block_part (shape_of ws) grade ws) ≡ true → Whole (shape_of ws) (block_part (shape_of ws) grade ws)
whole_block ws grade head size inside sound = record {
  proper = head_proper ws head;
  size = length-block_part (shape_of ws) grade inside ws size;
  sound = sound;
}
