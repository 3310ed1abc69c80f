-- Grades do not touch (SPECIFICATION 10): a delivery changes no word outside its grade's block, no answer to a question or a delivery of
-- another grade, and no ground of another grade, on words of any content. Rests on the codec's laws and on soundness being kept.
use Rattle.std.specs.Prelude.{Bool, ◌≡◌, refl, ◌⊎◌, ◌≢◌, List, [], ◌∷◌, ℕ, ◌+◌, ◌≤◌, ◌<◌, length, get_or}
use Rattle.std.proofs.Common.{sym, ap₂, ◌∙◌, inl, ⊎_elim, arith}
use Rattle.std.proofs.Math.Path.{ap}
use Rattle.shape.specs.declared.Shape.{Shape}
use Rattle.shape.specs.Limits.{Reply, accepted, splitting}
use Rattle.shape.specs.Layout.{head_len, book_words, block_words, block_start}
use Rattle.model.specs.declared.Call.{Call}
use Rattle.model.specs.declared.Call.TheVariants.{Delivery, Query}
use Rattle.model.specs.Block.{Block, interval, half_of, window_sum, deliver, deliver_splits}
use Rattle.model.specs.Words.{shape_of, clock_of, block_part, decode_block, encode_block, with_block}
use Rattle.model.specs.Sound.{sound_head, sound_block}
use Rattle.model.specs.Calls.{View, block_at, first_of, answered, refusals, book_view, accept, perform, delivered}
use Rattle.model.specs.Ground.{ground_of, ground_values, ground}
use Rattle.laws.specs.Cond.{eq_or_ne}
use Rattle.laws.specs.Proper.{Proper}
use Rattle.laws.specs.BlockWords.{sound_block_decode}
use Rattle.laws.specs.BlockSound.{deliver-both, both_size}
use Rattle.laws.specs.BookWords.{head_proper, head_before, length-with_block, block_part-with_block_other, get_or-with_block-below, get_or-with_block-above}
use Rattle.laws.specs.Refusals.{AcceptedDelivery, accepted_delivery, settle-accepted, settle_reply, settle-refused}

-- ---- what the reply to a call of one grade depends on: the length, the head and the words of the grade's block

-- what such a call is judged by
abbrev block_view : ℕ → Bool → Shape → ℕ → List ℕ → View
block_view lent head_sound s clock block = record {
  lent = lent;
  head_sound = head_sound;
  shape = s;
  clock = clock;
  block_sound = λ _. sound_block s block;
  total = λ _ stamp. (half_of (interval s stamp) (decode_block s block)).total;
}

-- a reply that depends on nothing else: the call by which it is judged, and what it is if this call is accepted
record OfGrade (grade : ℕ) (reply : List ℕ → Reply) : Type 0 where
  pub call : Call
  pub done : Shape → ℕ → Block → Reply
  pub told : (ws : List ℕ) → let s = shape_of ws in
      reply ws ≡ answered (refusals (block_view (length ws) (sound_head ws) s (clock_of ws) (block_part s grade ws)) call) (done s (clock_of ws) (block_at ws grade))

of_question : (grade window : ℕ) → OfGrade grade (λ ws. (perform ws (Query grade window)).reply)
unfolding perform refusals book_view
of_question grade window = record {
  call = Query grade window;
  done = λ s clock b. accepted (window_sum s clock window b ∷ []);
  told = λ ws. settle_reply (refusals (book_view ws) (Query grade window)) ws (accept ws (Query grade window));
}

of-ground : (grade window : ℕ) → OfGrade grade (λ ws. ground ws grade window)
unfolding ground refusals book_view
of-ground grade window = record {
  call = Query grade window;
  done = λ s clock b. accepted (ground_values (ground_of s clock window b));
  told = λ ws. refl;
}

of_delivery : (grade stamp volume : ℕ) → OfGrade grade (λ ws. (perform ws (Delivery grade stamp volume)).reply)
unfolding perform refusals book_view
of_delivery grade stamp volume = record {
  call = Delivery grade stamp volume;
  done = λ s clock b. splitting (deliver_splits s stamp volume b);
  told = λ ws. settle_reply (refusals (book_view ws) (Delivery grade stamp volume)) ws (accept ws (Delivery grade stamp volume));
}

-- words that agree in length, in the head and in the grade's block give the same such replies
module _ (ws vs : List ℕ) (lengths : length vs ≡ length ws) (heads : (i : ℕ) → i < head_len → get_or vs i 0 ≡ get_or ws i 0) where
  shape_same : shape_of vs ≡ shape_of ws
  shape_same = rw (heads 0 (omega arith), heads 1 (omega arith), heads 2 (omega arith), heads 3 (omega arith))

  head_same : sound_head vs ≡ sound_head ws
  unfolding sound_head
  head_same = rw (
    heads 0 (omega arith),
    heads 1 (omega arith),
    heads 2 (omega arith),
    heads 3 (omega arith),
    heads 4 (omega arith),
    heads 5 (omega arith),
    heads 6 (omega arith),
    heads 7 (omega arith),
  )

  reply_same : (grade : ℕ) (reply : List ℕ → Reply) → OfGrade grade reply → block_part (shape_of ws) grade vs ≡ block_part (shape_of ws) grade ws → reply vs ≡ reply ws
  reply_same grade reply of parts =
      let by : Shape → List ℕ → Reply = λ s block. answered (refusals (block_view (length ws) (sound_head ws) s (clock_of ws) block) of.call) (of.done s (clock_of ws) (decode_block s block)) in
      let part : block_part (shape_of vs) grade vs ≡ block_part (shape_of ws) grade ws = ap (λ (s : Shape). block_part s grade vs) shape_same ∙ parts in
      of.told vs ∙ rw (lengths, head_same, heads 4 (omega arith)) (ap₂ by shape_same part) ∙ sym (of.told ws)

-- ---- a delivery, on any words

module _ (ws : List ℕ) (grade stamp volume : ℕ) where
  abbrev s : Shape
  s = shape_of ws

  abbrev after : List ℕ
  after = (perform ws (Delivery grade stamp volume)).left

  -- the words afterwards are the same, or have another block in place of the grade's
  abbrev block : List ℕ
  block = encode_block s (deliver s stamp volume (block_at ws grade))

  abbrev number : ℕ
  number = first_of (refusals (book_view ws) (Delivery grade stamp volume))

  after-refused : (number ≡ 0 → ⊥) → after ≡ ws
  unfolding perform
  after-refused h = ap (λ o. o.left) (settle-refused (refusals (book_view ws) (Delivery grade stamp volume)) ws (accept ws (Delivery grade stamp volume)) h)

  module _ (h : number ≡ 0) where
    facts : AcceptedDelivery (book_view ws) grade stamp volume
    facts = accepted_delivery (book_view ws) grade stamp volume h

    after-accepted : after ≡ with_block s grade block ws
    unfolding perform delivered
    after-accepted =
        ap (λ o. o.left) (settle-accepted (refusals (book_view ws) (Delivery grade stamp volume)) ws (accept ws (Delivery grade stamp volume)) h)

    size : length ws ≡ book_words s
    unfolding book_view
    size = facts.size

    inside : grade < s.g
    unfolding book_view
    inside = facts.inside

    block_size : length block ≡ block_words s
    unfolding book_view
    block_size =
        let proper : Proper s = head_proper ws facts.head in
        both_size s proper (deliver s stamp volume (block_at ws grade))
        (deliver-both s proper stamp volume (block_at ws grade) (sound_block_decode s (block_part s grade ws) facts.sound) facts.room)

  -- outside the grade's block no word changes, and the number of words stays
  pub apart_words : (length after ≡ length ws) × ((i : ℕ) → (i < block_start s grade) ⊎ (block_start s grade + block_words s ≤ i) → get_or after i 0 ≡ get_or ws i 0)
  apart_words =
      ⊎_elim
      (λ (h : number ≡ 0). rw (after-accepted h) (
        length-with_block s grade (inside h) ws (size h) block (block_size h),
        λ i. ⊎_elim
            (get_or-with_block-below s grade (inside h) ws (size h) block (block_size h) i 0)
            (get_or-with_block-above s grade (inside h) ws (size h) block (block_size h) i 0),
      ))
      (λ (h : number ≡ 0 → ⊥). rw (after-refused h) (refl, λ i _. refl))
      (eq_or_ne number 0)

  -- the block of every other grade is the same
  apart_block : (other : ℕ) → other ≢ grade → block_part s other after ≡ block_part s other ws
  apart_block other apart =
      ⊎_elim
      (λ (h : number ≡ 0). rw (after-accepted h) (block_part-with_block_other s grade (inside h) ws (size h) block (block_size h) other apart))
      (λ (h : number ≡ 0 → ⊥). rw (after-refused h))
      (eq_or_ne number 0)

  apart_replies : (other : ℕ) (reply : List ℕ → Reply) → other ≢ grade → OfGrade other reply → reply after ≡ reply ws
  apart_replies other reply apart of =
      reply_same ws after apart_words.0 (λ i low. apart_words.1 i (inl (omega (arith, head_before s grade)))) other reply of (apart_block other apart)

  -- no reply to a question of another grade changes, whatever the words and the window are
  pub apart_answers : (other window : ℕ) → other ≢ grade → (perform after (Query other window)).reply ≡ (perform ws (Query other window)).reply
  apart_answers other window apart = apart_replies other (λ vs. (perform vs (Query other window)).reply) apart (of_question other window)

  -- nor does a ground of another grade
  pub apart_grounds : (other window : ℕ) → other ≢ grade → ground after other window ≡ ground ws other window
  apart_grounds other window apart = apart_replies other (λ vs. ground vs other window) apart (of-ground other window)

  -- nor does the reply to a delivery of another grade: neither its number nor its splits
  pub apart_splits : (other at v : ℕ) → other ≢ grade → (perform after (Delivery other at v)).reply ≡ (perform ws (Delivery other at v)).reply
  apart_splits other at v apart = apart_replies other (λ vs. (perform vs (Delivery other at v)).reply) apart (of_delivery other at v)
