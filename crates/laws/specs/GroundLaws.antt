-- A ground is refused as a question is, has the question's sum, is told by its three cases, and is true on every sound book, grown or not.
-- Rests on some level serving every opening.
use Rattle.std.specs.Prelude.{Bool, cond, ◌≡◌, List, eqb}
use Rattle.std.proofs.Math.Bool.{true, false}
use Rattle.std.proofs.Math.Path.{refl}
use Rattle.std.proofs.Common.{sym, ◌∙◌}
use Prim.Native.Nat.{ℕ, suc, ◌+◌, ◌-◌, ◌*◌, ◌^◌, ◌≤◌, ◌<◌}
use native.Mathlib.Omega.{arith}
use Rattle.std.proofs.Math.ListN.{length, take}
use borrow.Author.Tests.{lt-ltb, le-ltb, eq-eqb, ne_eqb}
use Rattle.shape.specs.declared.Shape.{Shape}
use Rattle.shape.specs.Limits.{refused, accepted}
use Rattle.shape.specs.Layout.{head_len, book_words}
use Rattle.model.specs.declared.Call.TheVariants.{Query}
use Rattle.model.specs.declared.Finer.TheVariants.{WindowZero, LevelZero, First}
use Rattle.model.specs.Block.{Block, interval, offset_of, opening, half_of, serving, serving_index, window_sum}
use Rattle.model.specs.Words.{shape_of, clock_of, block_part}
use Rattle.model.specs.Sound.{sound_book}
use Rattle.model.specs.Calls.{block_at, first_of, refusals, book_view, accept, perform}
use Rattle.model.specs.Ground.{first_at, opened_levels, ground_of, ground_values, ground_at, ground, GroundTrue}
use Rattle.laws.specs.Proper.{Proper}
use Rattle.laws.specs.BlockWords.{sound_block_decode}
use Rattle.laws.specs.BlockSound.{FinestIs, both-half, half_serves}
use Rattle.laws.specs.BookWords.{head_proper, head_fits}
use Rattle.laws.specs.SoundBook.{book_facts}
use Rattle.laws.specs.Refusals.{answered-number, settle_reply, perform-number, accepted_query}

-- ---- the three cases, for any block

module _ (s : Shape) (clock window : ℕ) (b : Block) where
  pub ground-none : window ≡ 0 → ground_of s clock window b ≡ record { sum = 0; level = 0; limit = 0; finer = WindowZero }
  unfolding ground_of window_sum
  ground-none none = rw (eq-eqb window 0 none)

  -- which of the levels serves a window above 0
  abbrev index : ℕ
  index = serving_index (offset_of s (opening clock window)) (opened_levels s clock window b)

  pub ground_exact : (window ≡ 0 → ⊥) → index ≡ 0 → ground_of s clock window b ≡ record { sum = window_sum s clock window b; level = 0; limit = 0; finer = LevelZero }
  unfolding ground_of
  ground_exact some e = rw (ne_eqb window 0 some, e)

  pub ground_finer : (window ≡ 0 → ⊥) → (j : ℕ) → index ≡ suc j → ground_of s clock window b ≡ record {
    sum = window_sum s clock window b;
    level = suc j;
    limit = 2 ^ suc j * (s.k + 1);
    finer = First (first_at (opened_levels s clock window b) j);
  }
  unfolding ground_of
  ground_finer some j e =
      let back : suc j - 1 ≡ j = omega arith in
      rw (ne_eqb window 0 some, e, ne_eqb (suc j) 0 (λ z. omega arith), back)

-- ---- a ground on any words

module _ (ws : List ℕ) (grade window : ℕ) where
  abbrev number : ℕ
  number = first_of (refusals (book_view ws) (Query grade window))

  number_is : (ground ws grade window).number ≡ number
  unfolding ground
  number_is = answered-number (refusals (book_view ws) (Query grade window)) (accepted (ground_values (ground_at ws grade window))) refl

  -- refused as a question is, under the same number
  pub ground-number : (ground ws grade window).number ≡ (perform ws (Query grade window)).reply.number
  ground-number = number_is ∙ sym (perform-number ws (Query grade window))

  pub ground_given : number ≡ 0 → ground ws grade window ≡ accepted (ground_values (ground_at ws grade window))
  unfolding ground
  ground_given h = rw (eq-eqb number 0 h)

  pub ground-refused : (number ≡ 0 → ⊥) → ground ws grade window ≡ refused number
  unfolding ground
  ground-refused h = rw (ne_eqb number 0 h)

  -- its first value is the question's sum; neither has a value if it is refused
  pub ground-sum : take 1 (ground ws grade window).values ≡ (perform ws (Query grade window)).reply.values
  unfolding ground perform ground_of
  ground-sum = rw (settle_reply (refusals (book_view ws) (Query grade window)) ws (accept ws (Query grade window))) (go (eqb number 0))
    where
      go : (t : Bool) → take 1 (cond t (accepted (ground_values (ground_at ws grade window))) (refused number)).values
          ≡ (cond t (accept ws (Query grade window)).reply (refused number)).values
      go true = refl
      go false = refl

  -- a sound book refuses no ground of a grade of its own and a window of at most 2^k
  sound-gives : sound_book ws ≡ true → grade < (shape_of ws).g → window ≤ 2 ^ (shape_of ws).k → number ≡ 0
  unfolding refusals book_view
  sound-gives e inside short =
      let b = book_facts ws e in
      let s : Shape = shape_of ws in
      let long : head_len ≤ length ws = omega (arith, b.size, head_fits s) in
      rw (
        le-ltb (length ws) head_len long,
        b.head,
        eq-eqb (length ws) (book_words s) b.size,
        lt-ltb grade s.g inside,
        le-ltb (2 ^ s.k) window short,
        b.blocks grade inside,
      )

  -- the level that it names is the finest with F at most the opening, and it serves
  named_finest : number ≡ 0 → 0 < window →
      let a = offset_of (shape_of ws) (opening (clock_of ws) window) in
      let levels = opened_levels (shape_of ws) (clock_of ws) window (block_at ws grade) in
      FinestIs a levels (ground_at ws grade window).level (serving a levels)
  unfolding book_view ground_of
  named_finest h some =
      let facts = accepted_query (book_view ws) grade window h in
      let s : Shape = shape_of ws in
      let proper : Proper s = head_proper ws facts.head in
      let start : ℕ = opening (clock_of ws) window in
      let j : ℕ = interval s start in
      let half = both-half s proper j (block_at ws grade) (sound_block_decode s (block_part s grade ws) facts.sound) in
      rw (ne_eqb window 0 (λ e. omega arith)) (half_serves s proper (half_of j (block_at ws grade)) half (offset_of s start))

pub ground-true : GroundTrue
unfolding GroundTrue ground_of
ground-true ws grade window = (
  λ e inside short. number_is ws grade window ∙ sound-gives ws grade window e inside short,
  λ given some.
      let h = sym (number_is ws grade window) ∙ given in
      let r = named_finest ws grade window h some in
      rw (ground_given ws grade window h) (r.finest, r.same),
)
