-- What judging a call answers: the first of its refusals, or the shape and the clock of the book; and which refusals of each call are left
-- once the head is known to be sound. Assumes nothing.
use Rattle.std.specs.Prelude.{Ok, Err, Bool, true, false, cond, not, ◌||◌, ◌≡◌, refl, List, ◌++◌, ℕ, ◌+◌, ◌^◌, ◌≤◌, ◌<◌, ltb, eqb, length, drop}
use Rattle.std.proofs.Common.{sym, ◌∙◌, arith, lt-ltb, le-ltb}
use Rattle.std.proofs.Math.Path.{ap}
use Rattle.std.proofs.lemmas.Bool.{lt-leb}
use Rattle.shape.specs.declared.Shape.{Shape}
use Rattle.shape.specs.Layout.{head_len, book_words}
use Rattle.model.specs.declared.Call.{Call}
use Rattle.model.specs.declared.Call.TheVariants.{Make, Clock, Delivery, Query}
use Rattle.model.specs.declared.Refusal.{Refusal}
use Rattle.model.specs.Block.{late, interval, half_of}
use Rattle.model.specs.Words.{shape_of, clock_of, block_part, decode_block}
use Rattle.model.specs.Sound.{all_from, max_clock, sound_head, sound_block}
use Rattle.model.specs.Calls.{View, first_of, opened, refusals, book_view}
use Rattle.model.specs.Reply.{number_of}
use Rattle.laws.specs.Proper.{Proper, Whole}
use Rattle.laws.specs.Refusals.{number_of_pos, view_of, opened-accepted, AcceptedQuery, accepted_query}
use Rattle.model.specs.Claim.{ByCall}
use Rattle.laws.specs.BookWords.{head_proper, sound_head-clock, length-block_part}
use Rattle.book.specs.declared.head.Opened.{Opened}
use Rattle.book.specs.Judgement.{opened_of, judgement, opened_number, first_refusal}
use Rattle.book.specs.Head.{told_judgement, judgement_told}
use Rattle.book.specs.Part.{InBook}

-- a book whose head is sound and whose length is right
pub record Open (ws : List ℕ) (s : Shape) (clock : ℕ) : Type 0 where
  pub number : opened_number ws ≡ 0
  pub same : s ≡ shape_of ws
  pub now : clock ≡ clock_of ws

-- an open book, and a delivery that 3, 4, 8 and 9 do not refuse
pub record Due (ws : List ℕ) (s : Shape) (clock grade stamp volume : ℕ) : Type 0 where
  pub book : Open ws s clock
  pub inside : grade < s.g
  pub fair : (eqb volume 0 || ltb 65535 volume) ≡ false
  pub come : stamp ≤ clock
  pub early : clock < stamp + 2 ^ s.k

-- ---- the first refusal is the one whose test holds, or it comes later

pub first_here : {a : Bool} (x y : ℕ) → a ≡ true → cond a x y ≡ x
first_here {a} x y e = rw e

pub first_later : {a : Bool} (x y : ℕ) → a ≡ false → cond a x y ≡ y
first_later {a} x y e = rw e

-- ---- the refusals with which every call but make begins

module _ (v : View) (rest : List (Bool × ℕ)) where
  stops : (z : ℕ) → (z ≡ 0 → ⊥) → first_of (opened v) ≡ z → first_of (opened v ++ rest) ≡ z
  stops z some = go (ltb v.lent head_len) (not v.head_sound) (not (eqb v.lent (book_words v.shape)))
    where
      go : (a b c : Bool) → cond a 2 (cond b 7 (cond c 2 0)) ≡ z → cond a 2 (cond b 7 (cond c 2 (first_of rest))) ≡ z
      go true b c h = h
      go false true c h = h
      go false false true h = h
      go false false false h = absurd (some (sym h))

  passes : first_of (opened v) ≡ 0 → first_of (opened v ++ rest) ≡ first_of rest
  passes = go (ltb v.lent head_len) (not v.head_sound) (not (eqb v.lent (book_words v.shape)))
    where
      go : (a b c : Bool) → ◌≡◌ {A = ℕ} (cond a 2 (cond b 7 (cond c 2 0))) 0 → cond a 2 (cond b 7 (cond c 2 (first_of rest))) ≡ first_of rest
      go true b c h = absurd (omega arith)
      go false true c h = absurd (omega arith)
      go false false true h = absurd (omega arith)
      go false false false h = refl

  starts : first_of (opened v ++ rest) ≡ 0 → first_of (opened v) ≡ 0
  starts = go (ltb v.lent head_len) (not v.head_sound) (not (eqb v.lent (book_words v.shape)))
    where
      go : (a b c : Bool) → cond a 2 (cond b 7 (cond c 2 (first_of rest))) ≡ 0 → ◌≡◌ {A = ℕ} (cond a 2 (cond b 7 (cond c 2 0))) 0
      go true b c h = h
      go false true c h = h
      go false false true h = h
      go false false false h = refl

-- which of 11 and 12 refuses a delivery, or 0
abbrev pub room_refusal : Shape → List ℕ → ℕ → ℕ → ℕ → ℕ
room_refusal s ws grade stamp volume =
    cond (not (sound_block s (block_part s grade ws))) 11
    (cond (ltb (2 ^ s.m) ((half_of (interval s stamp) (decode_block s (block_part s grade ws))).total + volume)) 12 0)

-- a call that begins with these refusals
abbrev Begins : Call → Type 0
Begins = ByCall ⊥ (Unit {0}) (λ _. Unit {0}) (λ _ _. Unit {0})

-- the refusals of such a call after these
abbrev rest_of : View → Call → List (Bool × ℕ)
rest_of v call = drop 3 (refusals v call)

begins : (v : View) (call : Call) → Begins call → refusals v call ≡ opened v ++ rest_of v call
unfolding refusals
begins v (Make k n m g) b = absurd b
begins v (Clock clock) b = refl
begins v (Delivery grade stamp volume) b = refl
begins v (Query grade window) b = refl

-- a refusal of the head is the refusal of the call
pub head_judges : (ws : List ℕ) (r : Refusal) → opened_number ws ≡ number_of r → (call : Call) → Begins call → first_refusal ws call ≡ number_of r
unfolding opened_number
head_judges ws r h call b =
    ap first_of (begins (book_view ws) call b) ∙ stops (book_view ws) (rest_of (book_view ws) call) (number_of r) (number_of_pos r) h

-- the head's refusal is the call's, and a book that opens is open
module _ (ws : List ℕ) where
  pub open_refused : (why : Refusal) → opened_of (Err why) ≡ judgement (opened_number ws) ws → (call : Call) → Begins call
      → opened_of (Err why) ≡ judgement (first_refusal ws call) ws
  open_refused why h call b = told_judgement _ _ _ (head_judges ws why (judgement_told _ _ _ h) call b)

  pub opened_open : (o : Opened) → opened_of (Ok o) ≡ judgement (opened_number ws) ws → Open ws o.shape o.clock
  opened_open o h = let t = judgement_told _ _ (Ok o) h in record { number = t.0; same = t.1; now = t.2 }

module _ (ws : List ℕ) (s : Shape) (clock : ℕ) (o : Open ws s clock) where
  view_is : book_view ws ≡ view_of s clock ws
  unfolding book_view
  view_is = rw (o.same, o.now)

  open_facts : (sound_head ws ≡ true) × (length ws ≡ book_words (shape_of ws))
  unfolding opened_number book_view
  open_facts = let f = opened-accepted (book_view ws) o.number in (f.0, f.1)

  pub open_size : length ws ≡ book_words s
  open_size = rw o.same open_facts.1

  pub open_clock : clock ≤ max_clock
  open_clock = rw o.now (sound_head-clock ws open_facts.0)

  pub open_proper : Proper s
  open_proper = rw o.same (head_proper ws open_facts.0)

  -- ---- the refusals that are left

  -- by the shape and the clock that were read
  rest_judges : (call : Call) → Begins call → first_refusal ws call ≡ first_of (rest_of (view_of s clock ws) call)
  unfolding opened_number
  rest_judges call b =
      ap first_of (begins (book_view ws) call b) ∙ passes (book_view ws) (rest_of (book_view ws) call) o.number
      ∙ ap (λ (v : View). first_of (rest_of v call)) view_is

  -- ---- the refusals of each call that are left, as tests

  pub clock_judges : (to : ℕ) → first_refusal ws (Clock to)
      ≡ cond (ltb max_clock to) 6 (cond (ltb to clock) 10 (cond (not (all_from (λ grade. sound_block s (block_part s grade ws)) 0 s.g)) 11 0))
  unfolding refusals
  clock_judges to = rest_judges (Clock to) tt

  pub delivery_judges : (grade stamp volume : ℕ) → first_refusal ws (Delivery grade stamp volume)
      ≡ cond (not (ltb grade s.g)) 3 (cond (eqb volume 0 || ltb 65535 volume) 4 (cond (ltb clock stamp) 8 (cond (late s clock stamp) 9
      (room_refusal s ws grade stamp volume))))
  unfolding refusals
  delivery_judges grade stamp volume = rest_judges (Delivery grade stamp volume) tt

  pub query_judges : (grade window : ℕ) → first_refusal ws (Query grade window)
      ≡ cond (not (ltb grade s.g)) 3 (cond (ltb (2 ^ s.k) window) 5 (cond (not (sound_block s (block_part s grade ws))) 11 0))
  unfolding refusals
  query_judges grade window = rest_judges (Query grade window) tt

  -- ---- a grade of an open book

  module _ (grade : ℕ) (h : grade < s.g) where
    pub open_inside : InBook s grade ws
    open_inside = record { proper = open_proper; size = open_size; inside = h }

    open_whole : sound_block s (block_part s grade ws) ≡ true → Whole s (block_part s grade ws)
    open_whole sound = record { proper = open_proper; size = length-block_part s grade h ws open_size; sound = sound }

-- a delivery that 3, 4, 8 and 9 do not refuse is of a grade of the book; 11 and 12 are left
module _ {ws : List ℕ} {s : Shape} {clock grade stamp volume : ℕ} (d : Due ws s clock grade stamp volume) where
  pub due_inside : InBook s grade ws
  due_inside = open_inside ws s clock d.book grade d.inside

  pub due_judges : first_refusal ws (Delivery grade stamp volume) ≡ room_refusal s ws grade stamp volume
  due_judges =
      delivery_judges ws s clock d.book grade stamp volume
      ∙ rw (lt-ltb grade s.g d.inside, d.fair, le-ltb clock stamp d.come, lt-leb (stamp + 2 ^ s.k) clock d.early)

-- if judging a call gives a book, the call is accepted and the book is open
module _ (ws : List ℕ) (o : Opened) (call : Call) (judged : opened_of (Ok o) ≡ judgement (first_refusal ws call) ws) where
  pub judged_accepted : first_refusal ws call ≡ 0
  judged_accepted = (judgement_told _ _ (Ok o) judged).0

  pub judged_open : Begins call → Open ws o.shape o.clock
  unfolding opened_number
  judged_open b = let j = judgement_told _ _ (Ok o) judged in record {
    number = starts (book_view ws) (rest_of (book_view ws) call) (sym (ap first_of (begins (book_view ws) call b)) ∙ j.0);
    same = j.1;
    now = j.2;
  }

-- ---- an accepted question of an open book: its block is a part of the book, and whole

module _ (ws : List ℕ) (s : Shape) (clock grade window : ℕ) (o : Open ws s clock) (h : first_refusal ws (Query grade window) ≡ 0) where
  facts : AcceptedQuery (book_view ws) grade window
  facts = accepted_query (book_view ws) grade window h

  inside : grade < s.g
  unfolding book_view
  inside = rw o.same facts.inside

  pub query_inside : InBook s grade ws
  query_inside = open_inside ws s clock o grade inside

  pub query_whole : Whole s (block_part s grade ws)
  unfolding book_view
  query_whole = open_whole ws s clock o grade inside (rw o.same facts.sound)
