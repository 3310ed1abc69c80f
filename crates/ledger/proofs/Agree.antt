-- Book and ledger find the same first refusal for every call. Rests on the words of a ledger being a sound book.
use Rattle.std.proofs.Math.Bool.{true}
use Rattle.std.specs.Prelude.{not, ◌||◌, ◌≡◌, refl, List, ℕ, ◌+◌, ◌^◌, ◌≤◌, ◌<◌, eqb, length}
use Rattle.std.proofs.Common.{ap, arith}
use Rattle.std.proofs.Math.Path.{ap₂}
use Rattle.std.proofs.Math.Dec.{ltb}
use borrow.Author.Tests.{not-false, ltb-true, ltb-false, leb-false}
use Rattle.shape.specs.declared.Shape.{Shape}
use Rattle.shape.specs.Layout.{head_len, book_words}
use Rattle.model.specs.declared.Call.{Call}
use Rattle.model.specs.declared.Call.TheVariants.{Make, Clock, Delivery, Query}
use Rattle.model.specs.Block.{Half, interval, late, half_of}
use Rattle.model.specs.Words.{block_part, decode_block}
use Rattle.model.specs.Sound.{all_from}
use Rattle.model.specs.Calls.{View, first_of, refusals, book_view}
use Rattle.model.specs.Ledger.{Entry, Ledger, ledger_view, volume_of, of_grade, of_interval}
use Rattle.laws.specs.Parts.{all_from_intro}
use Rattle.laws.specs.Refusals.{view_of, past}
use Rattle.ledger.specs.Time.{interval_mono, interval_near}
use Rattle.ledger.specs.Grown.{half_fed}
use Rattle.ledger.specs.State.{Good, words_of, words_head, words_shape, words_clock, words_block, words_sound, words_all_sound}
use Rattle.ledger.proofs.BookLaws.{half_of_served}

module _ (l : Ledger) (good : Good l) where
  abbrev s : Shape
  s = l.shape

  abbrev clock : ℕ
  clock = l.clock

  abbrev es : List Entry
  es = l.entries

  abbrev ws : List ℕ
  ws = words_of l

  book_view-grown : book_view ws ≡ view_of s clock ws
  unfolding book_view
  book_view-grown = ap₂ (λ (z : Shape) (c : ℕ). view_of z c ws) (words_shape l good) (words_clock l good)

  abbrev exact_view : View
  exact_view = ledger_view (length ws) l

  -- the total of the half that serves a stamp, if the stamp is neither ahead nor late
  total_agrees : (grade stamp : ℕ) → grade < s.g → stamp ≤ clock → clock < stamp + 2 ^ s.k
      → (half_of (interval s stamp) (decode_block s (block_part s grade ws))).total ≡ volume_of (of_interval s (of_grade grade) (interval s stamp)) es
  unfolding half_fed
  total_agrees grade stamp h low high =
      rw (words_block l good grade h)
      (ap (λ (x : Half). x.total) (half_of_served s clock es (of_grade grade) (interval s stamp) (interval_mono s low) (interval_near s stamp clock (omega arith))))

  pub agree : (call : Call) → first_of (refusals (book_view ws) call) ≡ first_of (refusals exact_view call)
  unfolding refusals ledger_view
  agree (Make k' n' m' g') = rw book_view-grown
  agree (Clock to) =
      let all : all_from (λ grade. true) 0 s.g ≡ true = all_from_intro (λ grade. true) 0 s.g (λ j low high. refl) in
      rw (book_view-grown, words_head l good, words_all_sound l good, all)
  agree (Delivery grade stamp volume) =
      rw (book_view-grown, words_head l good)
      (past (ltb (length ws) head_len) 2 (λ _. past (not (eqb (length ws) (book_words s))) 2 (λ _. past (not (ltb grade s.g)) 3 (λ inside.
      let h : grade < s.g = ltb-true grade s.g (not-false (ltb grade s.g) inside) in
      past (eqb volume 0 || ltb 65535 volume) 4 (λ _. past (ltb clock stamp) 8 (λ low. past (late s clock stamp) 9 (λ high.
      rw (words_sound l good grade h, total_agrees grade stamp h (ltb-false clock stamp low) (leb-false (stamp + 2 ^ s.k) clock high)))))))))
  agree (Query grade window) =
      rw (book_view-grown, words_head l good)
      (past (ltb (length ws) head_len) 2 (λ _. past (not (eqb (length ws) (book_words s))) 2 (λ _. past (not (ltb grade s.g)) 3 (λ inside.
      let h : grade < s.g = ltb-true grade s.g (not-false (ltb grade s.g) inside) in
      rw (words_sound l good grade h)))))
