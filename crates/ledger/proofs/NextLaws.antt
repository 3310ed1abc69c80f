-- What an accepted clock and an accepted delivery leave: the words of the ledger afterwards. Rests on the block as a function of the ledger.
use Rattle.std.specs.Prelude.{◌≡◌, refl, List, ◌∷◌, ℕ, ◌+◌, ◌%◌, ◌^◌, ◌≤◌, ◌<◌, eqb}
use Rattle.std.proofs.Math.Bool.{cond}
use Rattle.std.proofs.Common.{sym, ◌∙◌, ⊎_elim, arith, eq-eqb, ne_eqb}
use Rattle.std.proofs.Math.Path.{ap}
use Rattle.shape.specs.declared.Shape.{Shape}
use Rattle.model.specs.Block.{interval, advance, deliver}
use Rattle.model.specs.Words.{with_block, clock_of, encode_block}
use Rattle.model.specs.Calls.{block_at, clocked, delivered}
use Rattle.model.specs.Ledger.{Entry, Ledger, ledger_of, of_grade}
use Rattle.laws.specs.Cond.{eq_or_ne}
use Rattle.laws.specs.BookWords.{with_block-book_of}
use Rattle.ledger.specs.Time.{interval_mono, interval_near}
use Rattle.ledger.specs.Served.{served}
use Rattle.ledger.specs.Book.{block_for, block_for_other}
use Rattle.ledger.specs.State.{Good, words_of, block_size, words_clock}
use Rattle.ledger.specs.Next.{words_of_cong, block-is}
use Rattle.ledger.proofs.ServedLaws.{served_near}
use Rattle.ledger.proofs.BookLaws.{block_for-clock, block_for-more}

module _ (l : Ledger) (good : Good l) where
  abbrev s : Shape
  s = l.shape

  abbrev clock : ℕ
  clock = l.clock

  abbrev es : List Entry
  es = l.entries

  abbrev ws : List ℕ
  ws = words_of l

  -- ---- clock

  module _ (to : ℕ) (up : clock ≤ to) where
    pub clocked_words : clocked s to ws ≡ words_of (ledger_of s to es)
    unfolding clocked
    clocked_words = words_of_cong s to es (λ grade. encode_block s (advance s (clock_of ws) to (block_at ws grade)))
        (λ grade h. ap (encode_block s) (rw (words_clock l good, block-is l good grade h) (sym (block_for-clock s clock to es (of_grade grade) up good.past))))

  -- ---- delivery

  module _ (e : Entry) (inside : e.grade < s.g) (low : e.stamp ≤ clock) (high : clock < e.stamp + 2 ^ s.k) where
    serves : served (interval s clock) (interval s e.stamp % 2) ≡ interval s e.stamp
    serves = served_near (interval s clock) (interval s e.stamp) (interval_mono s low) (interval_near s e.stamp clock (omega arith))

    abbrev new : List ℕ
    new = encode_block s (deliver s e.stamp e.volume (block_for s clock es (of_grade e.grade)))

    changed : (grade : ℕ)
        → cond (eqb grade e.grade) new (encode_block s (block_for s clock es (of_grade grade))) ≡ encode_block s (block_for s clock (e ∷ es) (of_grade grade))
    changed grade =
        ⊎_elim
        (λ (own : grade ≡ e.grade).
        let takes = eq-eqb e.grade e.grade refl in
        rw (own, takes) (ap (encode_block s) (sym (block_for-more s clock es e (of_grade e.grade) takes serves))))
        (λ (other : grade ≡ e.grade → ⊥).
        rw (ne_eqb grade e.grade other)
        (ap (encode_block s) (sym (block_for_other s clock es e (of_grade grade) (ne_eqb e.grade grade (λ same. other (sym same)))))))
        (eq_or_ne grade e.grade)

    placed : with_block s e.grade new ws ≡ words_of (ledger_of s clock (e ∷ es))
    unfolding words_of
    placed =
        with_block-book_of s clock (λ j. encode_block s (block_for s clock es (of_grade j))) (λ j h. block_size l good j) e.grade inside new
        ∙ words_of_cong s clock (e ∷ es) (λ j. cond (eqb j e.grade) new (encode_block s (block_for s clock es (of_grade j)))) (λ grade h. changed grade)

    pub delivered_words : delivered s e.grade e.stamp e.volume ws ≡ words_of (ledger_of s clock (e ∷ es))
    unfolding delivered
    delivered_words = rw (block-is l good e.grade inside) placed
