-- Laws of what opening a book answers: its cases, and what each part of the head says. Assumes nothing.
use Rattle.std.specs.Prelude.{Result, Ok, Err, Bool, not, ◌&&◌, ◌≡◌, List, [], ◌∷◌, ◌++◌, ℕ, ◌≤◌, ◌<◌, length}
use Rattle.std.proofs.Math.Bool.{true, false, cond}
use Rattle.std.proofs.Math.Path.{refl, ap}
use Rattle.std.proofs.Common.{sym}
use Rattle.std.proofs.Math.Dec.{eqb}
use Rattle.std.proofs.Math.ListN.{get_or}
use borrow.Author.Tests.{lt-ltb, le-ltb, le-leb, lt-leb, eqb-true, eqb-false, ne_eqb}
use Rattle.shape.specs.declared.Shape.{Shape}
use Rattle.shape.specs.Limits.{Reply, refused, accepted, within, values_of}
use Rattle.shape.specs.LimitsLaws.{shape_in}
use Rattle.shape.specs.Layout.{head_len, book_words}
use Rattle.model.specs.Words.{shape_of, clock_of}
use Rattle.model.specs.Sound.{sound_head, max_clock}
use Rattle.model.specs.Calls.{book_view}
use Rattle.model.specs.declared.Refusal.{Refusal}
use Rattle.model.specs.Reply.{number_of, reply_by}
use Rattle.laws.specs.Refusals.{number_of_pos}
use Rattle.book.specs.declared.head.Opened.{Opened}
use Rattle.book.specs.Judgement.{opened_of, judgement, opened_number}

-- ---- the same, case by case

abbrev pub Told : ℕ → List ℕ → Result Opened Refusal → Type 0
Told number ws (Ok o) = (number ≡ 0) × (o.shape ≡ shape_of ws) × (o.clock ≡ clock_of ws)
Told number ws (Err why) = number ≡ number_of why

module _ (number : ℕ) (ws : List ℕ) where
  pub told_judgement : (r : Result Opened Refusal) → Told number ws r → opened_of r ≡ judgement number ws
  unfolding reply_by judgement
  told_judgement (Ok o) t = rw (t.0, t.1, t.2)
  told_judgement (Err why) t = rw (t, ne_eqb (number_of why) 0 (number_of_pos why))

  pub judgement_told : (r : Result Opened Refusal) → opened_of r ≡ judgement number ws → Told number ws r
  unfolding reply_by judgement
  judgement_told r e = go (eqb number 0) refl r e
    where
      go : (t : Bool) → eqb number 0 ≡ t → (r : Result Opened Refusal) → opened_of r ≡ cond t (accepted (values_of (shape_of ws) ++ clock_of ws ∷ [])) (refused number) → Told number ws r
      go true h (Ok o) e = (eqb-true number 0 h, ap (λ (x : Reply). shape_in x.values) e, ap (λ (x : Reply). get_or x.values 5 0) e)
      go true h (Err why) e = absurd (number_of_pos why (ap (λ (x : Reply). x.number) e))
      go false h (Ok o) e = let none : 0 ≡ number = ap (λ (x : Reply). x.number) e in absurd (eqb-false number 0 h (sym none))
      go false h (Err why) e = ap (λ (x : Reply). x.number) (sym e)

-- ---- what the head says

-- the last three words of the head are zero
abbrev pub is_blank : List ℕ → Bool
is_blank ws = eqb (get_or ws 5 0) 0 && (eqb (get_or ws 6 0) 0 && eqb (get_or ws 7 0) 0)

-- words that are enough for a head, with a shape within its limits
pub record Shaped (ws : List ℕ) (s : Shape) : Type 0 where
  pub long : head_len ≤ length ws
  pub inside : within (get_or ws 0 0) (get_or ws 1 0) (get_or ws 2 0) (get_or ws 3 0) ≡ true
  pub same : s ≡ shape_of ws

module _ (ws : List ℕ) where
  pub opened_short : length ws < head_len → opened_number ws ≡ 2
  unfolding opened_number book_view
  opened_short h = rw (lt-ltb (length ws) head_len h)

  pub opened-unsound : head_len ≤ length ws → sound_head ws ≡ false → opened_number ws ≡ 7
  unfolding opened_number book_view
  opened-unsound long h = rw (le-ltb (length ws) head_len long, h)

  pub head_outside : within (get_or ws 0 0) (get_or ws 1 0) (get_or ws 2 0) (get_or ws 3 0) ≡ false → sound_head ws ≡ false
  unfolding sound_head
  head_outside h = rw h

  -- if the shape is within its limits, the clock is tested, then the last three words, then the length
  module _ {s : Shape} (h : Shaped ws s) where
    pub opened-ahead : max_clock < clock_of ws → opened_number ws ≡ 7
    unfolding sound_head
    opened-ahead ahead = opened-unsound h.long (rw (h.inside, lt-leb (clock_of ws) max_clock ahead))

    pub opened_rest : clock_of ws ≤ max_clock → opened_number ws ≡ cond (not (is_blank ws)) 7 (cond (not (eqb (length ws) (book_words s))) 2 0)
    unfolding opened_number book_view sound_head
    opened_rest early = rw (le-ltb (length ws) head_len h.long, h.inside, le-leb (clock_of ws) max_clock early, h.same)
