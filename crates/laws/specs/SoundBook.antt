-- Every call leaves a sound book sound, whether it is accepted or refused; and the clock that the book then has. Rests on blocks that stay
-- sound, and on what accepted calls tell of the view.
use Rattle.std.specs.Prelude.{true, cond, ◌≡◌, ℕ, ◌≤◌, ◌<◌}
use Rattle.std.proofs.Common.{⊎_elim, ◌∙◌, arith}
use Rattle.std.proofs.Math.Path.{refl, ap}
use mathlib.Core.List.{List}
use Rattle.std.proofs.Math.Dec.{eqb}
use Rattle.std.proofs.Math.ListN.{length}
use borrow.Author.Tests.{le-ltb, eq-eqb, eqb-true}
use Rattle.shape.specs.declared.Shape.{Shape}
use Rattle.shape.specs.Limits.{shaped}
use Rattle.shape.specs.LimitsLaws.{Limits, both, within_limits}
use Rattle.shape.specs.Layout.{head_len, book_words, block_words}
use Rattle.model.specs.declared.Call.{Call}
use Rattle.model.specs.declared.Call.TheVariants.{Make, Clock, Delivery, Query}
use Rattle.model.specs.Block.{Block, empty_half, deliver, advance}
use Rattle.model.specs.Words.{shape_of, clock_of, block_part, encode_block, with_block}
use Rattle.model.specs.Sound.{all_from, sound_head, sound_block, sound_book, max_clock}
use Rattle.model.specs.Calls.{block_at, first_of, refusals, book_view, accept, perform, made, clocked, delivered}
use Rattle.laws.specs.Cond.{and-true, eq_or_ne, by_eq}
use Rattle.laws.specs.Parts.{all_from_intro, all_from_elim, replicate_up_from}
use Rattle.laws.specs.Proper.{Proper}
use Rattle.laws.specs.BlockWords.{sound_block_decode}
use Rattle.laws.specs.BlockSound.{Both, empty_half_lem, deliver-both, advance-both, both-sound, both_size}
use Rattle.laws.specs.BookWords.{book_of, length-book_of, block_part-book_of, with_block-book_of, sound_head_encode, sound_head-clock, head_proper, head_fits, book_of_parts, length-block_part}
use Rattle.laws.specs.Refusals.{AcceptedDelivery, accepted_make, accepted-clock, accepted_delivery, settle-accepted, settle-refused}

-- a sound book, as facts
pub record SoundBook (ws : List ℕ) : Type 0 where
  pub head : sound_head ws ≡ true
  pub size : length ws ≡ book_words (shape_of ws)
  pub blocks : (grade : ℕ) → grade < (shape_of ws).g → sound_block (shape_of ws) (block_part (shape_of ws) grade ws) ≡ true

module _ (ws : List ℕ) where
  blocks_all : ((grade : ℕ) → grade < (shape_of ws).g → sound_block (shape_of ws) (block_part (shape_of ws) grade ws) ≡ true)
      → all_from (λ grade. sound_block (shape_of ws) (block_part (shape_of ws) grade ws)) 0 (shape_of ws).g ≡ true
  blocks_all h = all_from_intro (λ grade. sound_block (shape_of ws) (block_part (shape_of ws) grade ws)) 0 (shape_of ws).g (λ grade low high. h grade (omega arith))

  pub book_facts : sound_book ws ≡ true → SoundBook ws
  unfolding sound_book
  book_facts e =
      let p = both {a = sound_head ws} e in
      let q = both {a = eqb (length ws) (book_words (shape_of ws))} p.1 in
      record {
        head = p.0;
        size = eqb-true (length ws) (book_words (shape_of ws)) q.0;
        blocks = λ grade h. all_from_elim (λ grade. sound_block (shape_of ws) (block_part (shape_of ws) grade ws)) 0 (shape_of ws).g q.1 grade (omega arith) (omega arith);
      }

  pub facts_book : SoundBook ws → sound_book ws ≡ true
  unfolding sound_book
  facts_book b = and-true b.head (and-true (eq-eqb (length ws) (book_words (shape_of ws)) b.size) (blocks_all b.blocks))

-- a book made of sound blocks
module _ (k n m g clock : ℕ) (limits : Limits k n m g) (early : clock ≤ max_clock) where
  abbrev made_shape : Shape
  made_shape = shaped k n m g

  of_blocks : (f : ℕ → List ℕ) → ((j : ℕ) → j < g → length (f j) ≡ block_words made_shape) → ((j : ℕ) → j < g → sound_block made_shape (f j) ≡ true)
      → SoundBook (book_of made_shape clock f)
  of_blocks f sized sound = record {
    head = sound_head_encode k n m g clock _ limits early;
    size = length-book_of made_shape clock f sized;
    blocks = λ grade h. rw (block_part-book_of made_shape clock f sized grade h) (sound grade h);
  }

-- what a call leaves: a sound book with this clock
abbrev pub Stays : List ℕ → Call → ℕ → Type 0
Stays ws call clock = SoundBook (perform ws call).left × (clock_of (perform ws call).left ≡ clock)

-- an accepted make, on words of any content
module _ (ws : List ℕ) (k n m g : ℕ) (h : first_of (refusals (book_view ws) (Make k n m g)) ≡ 0) where
  abbrev none : Block
  none = record { even = empty_half (shaped k n m g); odd = empty_half (shaped k n m g) }

  make_limits : Limits k n m g
  make_limits = within_limits k n m g (accepted_make (book_view ws) k n m g h).0

  make_proper : Proper (shaped k n m g)
  make_proper = record { limits = make_limits; last = refl }

  none-sound : Both (shaped k n m g) make_proper none
  none-sound = (empty_half_lem (shaped k n m g) make_proper, empty_half_lem (shaped k n m g) make_proper)

  pub make_stays : Stays ws (Make k n m g) 0
  unfolding perform made
  make_stays =
      rw (settle-accepted (refusals (book_view ws) (Make k n m g)) ws (accept ws (Make k n m g)) h, replicate_up_from (encode_block (shaped k n m g) none) 0 g) (
        of_blocks k n m g 0 make_limits (omega arith) (λ _. encode_block (shaped k n m g) none)
            (λ j l. both_size (shaped k n m g) make_proper none none-sound) (λ j l. both-sound (shaped k n m g) make_proper none none-sound),
        refl,
      )

module _ (ws : List ℕ) (b : SoundBook ws) where
  abbrev s : Shape
  s = shape_of ws

  proper : Proper s
  proper = head_proper ws b.head

  refused_stays : (call : Call) → (first_of (refusals (book_view ws) call) ≡ 0 → ⊥) → Stays ws call (clock_of ws)
  unfolding perform
  refused_stays call h = rw (settle-refused (refusals (book_view ws) call) ws (accept ws call) h) (b, refl)

  block-both : (grade : ℕ) → grade < s.g → Both s proper (block_at ws grade)
  block-both grade h = sound_block_decode s (block_part s grade ws) (b.blocks grade h)

  -- a sound book refuses no clock from its own up to the largest
  pub clock-first : (to : ℕ) → clock_of ws ≤ to → to ≤ max_clock → first_of (refusals (book_view ws) (Clock to)) ≡ 0
  unfolding refusals book_view
  clock-first to later early =
      let long : head_len ≤ length ws = omega (arith, b.size, head_fits s) in
      rw (le-ltb (length ws) head_len long, b.head, eq-eqb (length ws) (book_words s) b.size, le-ltb max_clock to early, le-ltb to (clock_of ws) later, blocks_all ws b.blocks)

  pub clock_stays : (to : ℕ) → clock_of ws ≤ to → to ≤ max_clock → Stays ws (Clock to) to
  unfolding perform clocked
  clock_stays to later early =
      let whole : (grade : ℕ) → grade < s.g → Both s proper (advance s (clock_of ws) to (block_at ws grade)) = λ grade h. advance-both s proper (clock_of ws) to (block_at ws grade) (block-both grade h) in
      rw (settle-accepted (refusals (book_view ws) (Clock to)) ws (accept ws (Clock to)) (clock-first to later early)) (
        of_blocks _ _ _ _ to proper.limits early (λ grade. encode_block s (advance s (clock_of ws) to (block_at ws grade)))
            (λ grade h. both_size s proper _ (whole grade h)) (λ grade h. both-sound s proper _ (whole grade h)),
        refl,
      )

  query_stays : (grade window : ℕ) → first_of (refusals (book_view ws) (Query grade window)) ≡ 0 → Stays ws (Query grade window) (clock_of ws)
  unfolding perform
  query_stays grade window h = rw (settle-accepted (refusals (book_view ws) (Query grade window)) ws (accept ws (Query grade window)) h) (b, refl)

  module _ (grade stamp volume : ℕ) (h : first_of (refusals (book_view ws) (Delivery grade stamp volume)) ≡ 0) where
    facts : AcceptedDelivery (book_view ws) grade stamp volume
    facts = accepted_delivery (book_view ws) grade stamp volume h

    abbrev new : List ℕ
    new = encode_block s (deliver s stamp volume (block_at ws grade))

    abbrev f : ℕ → List ℕ
    f j = cond (eqb j grade) new (block_part s j ws)

    delivered_book : delivered s grade stamp volume ws ≡ book_of s (clock_of ws) f
    unfolding delivered book_view
    delivered_book =
        ap (with_block s grade new) (book_of_parts ws b.head b.size)
        ∙ with_block-book_of s (clock_of ws) (λ j. block_part s j ws) (λ j l. length-block_part s j l ws b.size) grade facts.inside new

    delivery_stays : Stays ws (Delivery grade stamp volume) (clock_of ws)
    unfolding perform book_view
    delivery_stays =
        let whole = deliver-both s proper stamp volume (block_at ws grade) (block-both grade facts.inside) facts.room in
        rw (settle-accepted (refusals (book_view ws) (Delivery grade stamp volume)) ws (accept ws (Delivery grade stamp volume)) h, delivered_book) (
          of_blocks _ _ _ _ (clock_of ws) proper.limits (sound_head-clock ws b.head) f
              (λ j l. by_eq j grade (λ (z : List ℕ). length z ≡ block_words s) (λ _. both_size s proper _ whole) (λ _. length-block_part s j l ws b.size))
              (λ j l. by_eq j grade (λ (z : List ℕ). sound_block s z ≡ true) (λ _. both-sound s proper _ whole) (λ _. b.blocks j l)),
          refl,
        )

  -- the clock after an accepted call: 0 after a make, its own after a clock, the one before after any other
  abbrev pub clock_by : Call → ℕ
  clock_by (Make k n m g) = 0
  clock_by (Clock to) = to
  clock_by (Delivery grade stamp volume) = clock_of ws
  clock_by (Query grade window) = clock_of ws

  accepted_stays : (call : Call) → first_of (refusals (book_view ws) call) ≡ 0 → Stays ws call (clock_by call)
  unfolding book_view
  accepted_stays (Make k n m g) h = make_stays ws k n m g h
  accepted_stays (Clock to) h = let facts = accepted-clock (book_view ws) to h in clock_stays to facts.later facts.early
  accepted_stays (Delivery grade stamp volume) h = delivery_stays grade stamp volume h
  accepted_stays (Query grade window) h = query_stays grade window h

  -- a call that sets no clock leaves it, accepted or refused
  pub same_stays : (call : Call) → clock_by call ≡ clock_of ws → Stays ws call (clock_of ws)
  same_stays call same =
      ⊎_elim (λ h. rw same at (accepted_stays call h)) (refused_stays call) (eq_or_ne (first_of (refusals (book_view ws) call)) 0)

-- every call, accepted or refused, leaves a sound book sound
pub perform-sound : (ws : List ℕ) (call : Call) → sound_book ws ≡ true → sound_book (perform ws call).left ≡ true
perform-sound ws call e =
    let b = book_facts ws e in
    facts_book (perform ws call).left
    (⊎_elim (λ h. (accepted_stays ws b call h).0) (λ h. (refused_stays ws b call h).0) (eq_or_ne (first_of (refusals (book_view ws) call)) 0))
