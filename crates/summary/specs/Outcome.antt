-- What each call answers and leaves, by the number of its first refusal; and the words that make and clock write. Rests on the laws of the
-- refusals and of the book's parts.
use Rattle.std.proofs.Math.Bool.{true}
use Rattle.std.specs.Prelude.{Result, Ok, Err, IsOkAnd, MatchResult, false, ◌≡◌, ℕ, ◌*◌, ◌≤◌, ◌<◌, length, take, drop}
use Rattle.std.proofs.Math.Path.{refl, sym, ap}
use Rattle.std.proofs.Common.{◌∙◌, arith, length-drop}
use mathlib.Core.List.{List, [], ◌∷◌, ◌++◌}
use Rattle.std.proofs.Math.Seq.{drop-append-add, drop-drop}
use borrow.Author.Tests.{eq-eqb, ne_eqb}
use Rattle.shape.specs.declared.Shape.{Shape}
use Rattle.shape.specs.Limits.{Reply, refused, accepted, splitting, within, shaped}
use Rattle.shape.specs.Layout.{head_len, book_words, block_words, block_start}
use Rattle.model.specs.declared.Call.{Call}
use Rattle.model.specs.declared.Call.TheVariants.{Make, Clock, Delivery, Query}
use Rattle.model.specs.declared.Refusal.{Refusal}
use Rattle.model.specs.declared.Refusal.TheVariants.{Length}
use Rattle.model.specs.Block.{up_from, interval, advance, deliver, deliver_splits, window_sum}
use Rattle.model.specs.Words.{shape_of, clock_of, block_part, decode_block, encode_block, encode_head, with_block, join}
use Rattle.model.specs.Sound.{sound_block}
use Rattle.model.specs.Calls.{block_at, refusals, book_view, outcome_of, accept, perform, made, clocked, delivered}
use Rattle.model.specs.Reply.{number_of, answer_says, reply_by, reply_of, done_reply}
use Rattle.model.specs.declared.Answer.{Answer}
use Rattle.model.specs.declared.Answer.TheVariants.{Done}
use Rattle.std.specs.Result.{result_and}
use Rattle.laws.specs.Proper.{Proper}
use Rattle.laws.specs.HalfWrites.{total_decode}
use Rattle.laws.specs.BookWords.{limits_within, head_proper, whole_block}
use Rattle.laws.specs.Parts.{all_from_elim, up_from_cong, replicate_up_from}
use Rattle.laws.specs.Refusals.{number_of_pos, settle-accepted, settle-refused, AcceptedClock, accepted-clock, AcceptedDelivery, accepted_delivery}
use Rattle.book.specs.Judgement.{opened_of, judgement, first_refusal}
use Rattle.book.specs.Head.{judgement_told}
use Rattle.judge.specs.Judge.{Open, open_size, open_proper}
use Rattle.book.specs.Part.{InBook}
use Rattle.sweep.specs.Sweeps.{AllSound, cleared, advanced}
use Rattle.fill.specs.Fill.{Deliverable}

module _ (ws : List ℕ) (call : Call) where
  -- a refused call answers the number and changes nothing
  pub refused_outcome : {A : Type 0} (says : A → Reply) (why : Refusal) → first_refusal ws call ≡ number_of why → outcome_of (reply_by says (Err why)) ws ≡ perform ws call
  unfolding reply_by perform
  refused_outcome says why h =
      sym (settle-refused (refusals (book_view ws) call) ws (accept ws call) (λ e. number_of_pos why (sym h ∙ e))
      ∙ ap (λ (n : ℕ). outcome_of (refused n) ws) h)

  -- so does one that is judged refused
  pub judged_outcome : {A : Type 0} (says : A → Reply) (why : Refusal) → opened_of (Err why) ≡ judgement (first_refusal ws call) ws
      → outcome_of (reply_by says (Err why)) ws ≡ perform ws call
  judged_outcome says why h = refused_outcome says why (judgement_told _ _ _ h)

  accepted_outcome : first_refusal ws call ≡ 0 → perform ws call ≡ accept ws call
  unfolding perform
  accepted_outcome h = settle-accepted (refusals (book_view ws) call) ws (accept ws call) h

-- ---- make

module _ (ws : List ℕ) (k n m g : ℕ) where
  pub make_outside : within k n m g ≡ false → first_refusal ws (Make k n m g) ≡ 1
  unfolding refusals
  make_outside h = rw h

  module _ (inside : within k n m g ≡ true) where
    make_misfit : (length ws ≡ book_words (shaped k n m g) → ⊥) → first_refusal ws (Make k n m g) ≡ 2
    unfolding refusals book_view
    make_misfit h = rw (inside, ne_eqb (length ws) (book_words (shaped k n m g)) h)

    make_fits : length ws ≡ book_words (shaped k n m g) → first_refusal ws (Make k n m g) ≡ 0
    unfolding refusals book_view
    make_fits h = rw (inside, eq-eqb (length ws) (book_words (shaped k n m g)) h)

-- ---- another head

module _ (s : Shape) (clock : ℕ) (ws : List ℕ) where
  -- the words with another head
  abbrev headed : List ℕ
  headed = encode_head s clock ++ drop head_len ws

  length-headed : head_len ≤ length ws → length headed ≡ length ws
  length-headed h = simp length-drop (omega arith)

  -- the blocks are the same
  block_part-headed : (grade : ℕ) → block_part s grade headed ≡ block_part s grade ws
  unfolding block_start
  block_part-headed grade =
      ap (take (block_words s)) (drop-append-add (encode_head s clock) (drop head_len ws) (grade * block_words s) ∙ drop-drop (grade * block_words s) head_len ws)

pub book_long : (s : Shape) (ws : List ℕ) → length ws ≡ book_words s → head_len ≤ length ws
unfolding book_words
book_long s ws h = omega arith

-- the words of an accepted make
made-swept : (s : Shape) (ws : List ℕ) → take head_len (headed s 0 ws) ++ join (up_from (cleared s) 0 s.g) ≡ made s
unfolding made
made-swept s ws = ap (λ (z : List (List ℕ)). encode_head s 0 ++ join z) (sym (replicate_up_from (cleared s 0) 0 s.g))

-- ---- clock

module _ (ws : List ℕ) (s : Shape) (clock to : ℕ) (o : Open ws s clock) (h : first_refusal ws (Clock to) ≡ 0) where
  facts : AcceptedClock (book_view ws) to
  facts = accepted-clock (book_view ws) to h

  sound : (grade : ℕ) → grade < s.g → sound_block s (block_part s grade ws) ≡ true
  unfolding book_view
  sound grade low =
      rw o.same at_shape
    where
      at_shape : sound_block (shape_of ws) (block_part (shape_of ws) grade ws) ≡ true
      at_shape =
          all_from_elim (λ j. sound_block (shape_of ws) (block_part (shape_of ws) j ws)) 0 (shape_of ws).g facts.sound grade (omega arith)
          (omega (arith, low, ap (λ (z : Shape). z.g) o.same))

  -- the blocks are sound under the new head
  pub headed-sound : AllSound s (headed s to ws)
  headed-sound = record {
    proper = open_proper ws s clock o;
    size = length-headed s to ws (book_long s ws (open_size ws s clock o)) ∙ open_size ws s clock o;
    sound = λ grade low. rw (block_part-headed s to ws grade) (sound grade low);
  }

  same_block : (grade : ℕ) → advanced s clock to (headed s to ws) grade ≡ encode_block s (advance s (clock_of ws) to (block_at ws grade))
  same_block grade =
      rw (block_part-headed s to ws grade)
      (ap (λ (c : ℕ). encode_block s (advance s c to (decode_block s (block_part s grade ws)))) o.now
      ∙ ap (λ (z : Shape). encode_block s (advance s (clock_of ws) to (decode_block z (block_part z grade ws)))) o.same)

  -- the words of an accepted clock
  clocked-swept : take head_len (headed s to ws) ++ join (up_from (advanced s clock to (headed s to ws)) 0 s.g) ≡ clocked (shape_of ws) to ws
  unfolding clocked
  clocked-swept =
      ap (λ (z : List (List ℕ)). encode_head s to ++ join z)
      (up_from_cong (advanced s clock to (headed s to ws)) (λ grade. encode_block s (advance s (clock_of ws) to (block_at ws grade))) 0 s.g
      (λ grade low high. same_block grade))
      ∙ ap (λ (z : Shape). clocked z to ws) o.same

-- ---- delivery

module _ (ws : List ℕ) (s : Shape) (grade stamp volume : ℕ) (same : s ≡ shape_of ws) (h : first_refusal ws (Delivery grade stamp volume) ≡ 0) where
  facts_d : AcceptedDelivery (book_view ws) grade stamp volume
  facts_d = accepted_delivery (book_view ws) grade stamp volume h

  pub delivery_inside : InBook s grade ws
  unfolding book_view
  delivery_inside =
      rw same (record { proper = head_proper ws facts_d.head; size = facts_d.size; inside = facts_d.inside })

  pub delivery_deliverable : Deliverable s stamp volume (block_part s grade ws)
  unfolding book_view
  delivery_deliverable = record {
    whole = rw same (whole_block ws grade facts_d.head facts_d.size facts_d.inside facts_d.sound);
    some = facts_d.some;
    room = rw (same, ← total_decode (shape_of ws) (interval (shape_of ws) stamp) (block_part (shape_of ws) grade ws)) facts_d.room;
  }

-- ---- question

module _ (ws : List ℕ) (s : Shape) (clock grade window : ℕ) (o : Open ws s clock) (h : first_refusal ws (Query grade window) ≡ 0) where
  pub asked_outcome : outcome_of (accepted (window_sum s clock window (decode_block s (block_part s grade ws)) ∷ [])) ws ≡ perform ws (Query grade window)
  asked_outcome = rw (o.same, o.now) (sym (accepted_outcome ws (Query grade window) h))

-- ---- the outcomes of accepted calls

-- a shape within its limits is the one made of its numbers
shaped_proper : (s : Shape) → Proper s → shaped s.k s.n s.m s.g ≡ s
shaped_proper s p = ap (λ (z : ℕ). record { k = s.k; n = s.n; m = s.m; g = s.g; last = z }) (sym p.last)

module _ (s : Shape) (p : Proper s) (ws : List ℕ) where
  inside : within s.k s.n s.m s.g ≡ true
  inside = limits_within s.k s.n s.m s.g p.limits

  pub misfit_outcome : (length ws ≡ book_words s → ⊥) → outcome_of (done_reply (Err Length)) ws ≡ perform ws (Make s.k s.n s.m s.g)
  misfit_outcome h =
      refused_outcome ws (Make s.k s.n s.m s.g) (λ _. accepted []) Length
      (make_misfit ws s.k s.n s.m s.g inside (λ e. h (e ∙ ap book_words (shaped_proper s p))))

  pub made_outcome : length ws ≡ book_words s
      → outcome_of (accepted []) (take head_len (headed s 0 ws) ++ join (up_from (cleared s) 0 s.g)) ≡ perform ws (Make s.k s.n s.m s.g)
  made_outcome h =
      ap (outcome_of (accepted [])) (made-swept s ws ∙ ap made (sym (shaped_proper s p)))
      ∙ sym (accepted_outcome ws (Make s.k s.n s.m s.g)
      (make_fits ws s.k s.n s.m s.g inside (h ∙ ap book_words (sym (shaped_proper s p)))))

pub clocked_outcome : (ws : List ℕ) (s : Shape) (clock to : ℕ) → Open ws s clock → first_refusal ws (Clock to) ≡ 0
    → outcome_of (accepted []) (take head_len (headed s to ws) ++ join (up_from (advanced s clock to (headed s to ws)) 0 s.g)) ≡ perform ws (Clock to)
clocked_outcome ws s clock to o h = ap (outcome_of (accepted [])) (clocked-swept ws s clock to o h) ∙ sym (accepted_outcome ws (Clock to) h)

pub delivered_outcome : (ws : List ℕ) (s : Shape) (grade stamp volume : ℕ) → s ≡ shape_of ws → first_refusal ws (Delivery grade stamp volume) ≡ 0
    → let b = decode_block s (block_part s grade ws) in
    outcome_of (splitting (deliver_splits s stamp volume b)) (with_block s grade (encode_block s (deliver s stamp volume b)) ws) ≡ perform ws (Delivery grade stamp volume)
unfolding delivered
delivered_outcome ws s grade stamp volume same h = rw same (sym (accepted_outcome ws (Delivery grade stamp volume) h))

-- ---- any call

-- a result whose value is put into the answer of any call has the same reply
pub put_reply : {A : Type 0} (says : A → Reply) (f : A → Answer) → ((x : A) → answer_says (f x) ≡ says x) → (r : Result A Refusal) (t : Result Answer Refusal)
    → MatchResult r (λ x. IsOkAnd t (λ y. y ≡ f x)) (λ e. t ≡ Err e) → reply_of t ≡ reply_by says r
unfolding reply_by
put_reply says f same (Ok x) (Ok y) h = ap answer_says h ∙ same x
put_reply says f same (Ok x) (Err e) h = absurd h
put_reply says f same (Err e) t h = ap reply_of h

-- so has one that is put in its place where it has no value of its own
pub done_put : (r : Result (Unit {0}) Refusal) → reply_of (result_and r (Ok Done)) ≡ done_reply r
unfolding reply_by
done_put (Ok _) = refl
done_put (Err why) = refl
