-- The first refusal that holds, what it decides, and what follows of the view if a call is accepted. Assumes nothing.
use Rattle.std.specs.Prelude.{Bool, true, false, cond, not, ◌||◌, ◌≡◌, refl, List, ℕ, zero, suc, ◌+◌, ◌^◌, ◌≤◌, ◌<◌, eqb, length}
use Rattle.std.proofs.Common.{true≢false, sym, ap, ◌∙◌, arith}
use Rattle.std.proofs.Math.Dec.{ltb}
use borrow.Author.Tests.{eq-eqb, ne_eqb, not-false, ltb-true, ltb-false, leb-false, eqb-true}
use Rattle.shape.specs.declared.Shape.{Shape}
use Rattle.shape.specs.Limits.{Reply, refused, within, shaped}
use Rattle.shape.specs.Layout.{head_len, book_words}
use Rattle.model.specs.declared.Call.{Call}
use Rattle.model.specs.declared.Call.TheVariants.{Make, Clock, Delivery, Query}
use Rattle.model.specs.declared.Refusal.{Refusal}
use Rattle.model.specs.declared.Refusal.TheVariants.{Shape as NoShape, Length, Grade, Volume, Window, Limit, Head, Ahead, Late, Back, Block, Full, Trace, Day, Room, Order, Output}
use Rattle.model.specs.Reply.{number_of}
use Rattle.model.specs.Block.{late, interval, half_of}
use Rattle.model.specs.Words.{block_part, decode_block}
use Rattle.model.specs.Sound.{all_from, max_clock, sound_head, sound_block}
use Rattle.model.specs.Calls.{View, first_of, answered, opened, refusals, Outcome, outcome_of, settle, book_view, accept, perform}
use Rattle.model.specs.Ledger.{Ledger, ledger_view, note, enter}
use Rattle.laws.specs.Cond.{by_eq}

-- no refusal has the number 0
pub number_of_pos : (r : Refusal) → number_of r ≡ 0 → ⊥
number_of_pos NoShape e = omega arith
number_of_pos Length e = omega arith
number_of_pos Grade e = omega arith
number_of_pos Volume e = omega arith
number_of_pos Window e = omega arith
number_of_pos Limit e = omega arith
number_of_pos Head e = omega arith
number_of_pos Ahead e = omega arith
number_of_pos Late e = omega arith
number_of_pos Back e = omega arith
number_of_pos Block e = omega arith
number_of_pos Full e = omega arith
number_of_pos Trace e = omega arith
number_of_pos Day e = omega arith
number_of_pos Room e = omega arith
number_of_pos Order e = omega arith
number_of_pos Output e = omega arith

-- the view of words of this shape and this clock
abbrev pub view_of : Shape → ℕ → List ℕ → View
view_of s clock ws = record {
  lent = length ws;
  head_sound = sound_head ws;
  shape = s;
  clock = clock;
  block_sound = λ grade. sound_block s (block_part s grade ws);
  total = λ grade stamp. (half_of (interval s stamp) (decode_block s (block_part s grade ws))).total;
}

-- two lists of refusals with the same first one: the rest matters only if its condition does not hold
pub past : (a : Bool) (x : ℕ) {y z : ℕ} → (a ≡ false → y ≡ z) → cond a x y ≡ cond a x z
past true x h = refl
past false x h = h refl

-- a number other than the first one's comes from further down
pub further : (a : Bool) (x : ℕ) {y z : ℕ} → (x ≡ z → ⊥) → cond a x y ≡ z → (a ≡ false) × (y ≡ z)
further true x other h = absurd (other h)
further false x other h = (refl, h)

-- the number of an answer is that of the first refusal that holds
pub answered-number : (rs : List (Bool × ℕ)) (done : Reply) → done.number ≡ 0 → (answered rs done).number ≡ first_of rs
answered-number rs done h = by_eq (first_of rs) 0 (λ (r : Reply). r.number ≡ first_of rs) (λ none. h ∙ sym none) (λ some. refl)

module _ {A : Type 0} (rs : List (Bool × ℕ)) (before : A) (done : Outcome A) where
  pub settle-accepted : first_of rs ≡ 0 → settle rs before done ≡ done
  settle-accepted h = rw (eq-eqb (first_of rs) 0 h)

  -- the reply is that of what is done, or the first refusal
  pub settle_reply : (settle rs before done).reply ≡ answered rs done.reply
  settle_reply = go (eqb (first_of rs) 0)
    where
      go : (t : Bool) → (cond t done (outcome_of (refused (first_of rs)) before)).reply ≡ cond t done.reply (refused (first_of rs))
      go true = refl
      go false = refl

  settle-number : done.reply.number ≡ 0 → (settle rs before done).reply.number ≡ first_of rs
  settle-number h = ap (λ (r : Reply). r.number) settle_reply ∙ answered-number rs done.reply h

  pub settle-refused : (first_of rs ≡ 0 → ⊥) → settle rs before done ≡ outcome_of (refused (first_of rs)) before
  settle-refused h = rw (ne_eqb (first_of rs) 0 h)

-- the number of the reply to a call, by any book and by any ledger
pub perform-number : (ws : List ℕ) (call : Call) → (perform ws call).reply.number ≡ first_of (refusals (book_view ws) call)
unfolding perform
perform-number ws call = settle-number (refusals (book_view ws) call) ws (accept ws call) (zero call)
  where
    zero : (call : Call) → (accept ws call).reply.number ≡ 0
    zero (Make k n m g) = refl
    zero (Clock clock) = refl
    zero (Delivery grade stamp volume) = refl
    zero (Query grade window) = refl

pub enter-number : (lent : ℕ) (l : Ledger) (call : Call) → (enter lent l call).reply.number ≡ first_of (refusals (ledger_view lent l) call)
unfolding enter
enter-number lent l call = settle-number (refusals (ledger_view lent l) call) l (note l call) (zero call)
  where
    zero : (call : Call) → (note l call).reply.number ≡ 0
    zero (Make k n m g) = refl
    zero (Clock clock) = refl
    zero (Delivery grade stamp volume) = refl
    zero (Query grade window) = refl

-- ---- what follows if no refusal, or no earlier one, holds, for the view of a book or of a ledger

-- clock, delivery and question begin with the same refusals
opened_facts : (v : View) {y z : ℕ} → (2 ≡ z → ⊥) → (7 ≡ z → ⊥)
    → cond (ltb v.lent head_len) 2 (cond (not v.head_sound) 7 (cond (not (eqb v.lent (book_words v.shape))) 2 y)) ≡ z
    → (v.head_sound ≡ true) × (v.lent ≡ book_words v.shape) × (y ≡ z)
opened_facts v two seven h =
    let long = further (ltb v.lent head_len) 2 two h in
    let head = further (not v.head_sound) 7 seven long.1 in
    let size = further (not (eqb v.lent (book_words v.shape))) 2 two head.1 in
    (not-false _ head.0, eqb-true v.lent (book_words v.shape) (not-false _ size.0), size.1)

pub opened-accepted : (v : View) → first_of (opened v) ≡ 0 → (v.head_sound ≡ true) × (v.lent ≡ book_words v.shape)
opened-accepted v h = let f = opened_facts v {y = 0} (λ e. omega arith) (λ e. omega arith) h in (f.0, f.1)

pub record AcceptedDelivery (v : View) (grade stamp volume : ℕ) : Type 0 where
  pub head : v.head_sound ≡ true
  pub size : v.lent ≡ book_words v.shape
  pub inside : grade < v.shape.g
  pub some : 0 < volume
  pub low : stamp ≤ v.clock
  pub high : v.clock < stamp + 2 ^ v.shape.k
  pub sound : v.block_sound grade ≡ true
  pub room : v.total grade stamp + volume ≤ 2 ^ v.shape.m

not_none : (volume : ℕ) (b : Bool) → (eqb volume 0 || b) ≡ false → 0 < volume
not_none zero b h = absurd (true≢false h)
not_none (suc v) b h = omega arith

module _ (v : View) (grade stamp volume : ℕ) where
  -- the last refusals of a delivery: late, unsound, full
  abbrev last_of : ℕ
  last_of = cond (late v.shape v.clock stamp) 9 (cond (not (v.block_sound grade)) 11 (cond (ltb (2 ^ v.shape.m) (v.total grade stamp + volume)) 12 0))

  reached : (z : ℕ) → (2 ≡ z → ⊥) → (7 ≡ z → ⊥) → (3 ≡ z → ⊥) → (4 ≡ z → ⊥) → (8 ≡ z → ⊥) → first_of (refusals v (Delivery grade stamp volume)) ≡ z
      → (v.head_sound ≡ true) × (v.lent ≡ book_words v.shape) × (grade < v.shape.g) × (0 < volume) × (stamp ≤ v.clock) × (last_of ≡ z)
  unfolding refusals
  reached z two seven three four eight h =
      let start = opened_facts v two seven h in
      let inside = further (not (ltb grade v.shape.g)) 3 three start.2 in
      let amount = further (eqb volume 0 || ltb 65535 volume) 4 four inside.1 in
      let low = further (ltb v.clock stamp) 8 eight amount.1 in
      (start.0, start.1, ltb-true grade v.shape.g (not-false _ inside.0), not_none volume (ltb 65535 volume) amount.0, ltb-false v.clock stamp low.0, low.1)

  pub accepted_delivery : first_of (refusals v (Delivery grade stamp volume)) ≡ 0 → AcceptedDelivery v grade stamp volume
  accepted_delivery h =
      let there = reached 0 (λ e. omega arith) (λ e. omega arith) (λ e. omega arith) (λ e. omega arith) (λ e. omega arith) h in
      let high = further (late v.shape v.clock stamp) 9 (λ e. omega arith) there.5 in
      let sound = further (not (v.block_sound grade)) 11 (λ e. omega arith) high.1 in
      let room = further (ltb (2 ^ v.shape.m) (v.total grade stamp + volume)) 12 {y = 0} (λ e. omega arith) sound.1 in
      record {
        head = there.0;
        size = there.1;
        inside = there.2;
        some = there.3;
        low = there.4;
        high = leb-false (stamp + 2 ^ v.shape.k) v.clock high.0;
        sound = not-false _ sound.0;
        room = ltb-false (2 ^ v.shape.m) (v.total grade stamp + volume) room.0;
      }

  ended : (a b c : Bool) → ◌≡◌ {A = ℕ} (cond a 9 (cond b 11 (cond c 12 0))) 9 → a ≡ true
  ended true b c h = refl
  ended false true c h = absurd (omega arith)
  ended false false true h = absurd (omega arith)
  ended false false false h = absurd (omega arith)

  -- only late stamps are refused under 9
  pub late_delivery : first_of (refusals v (Delivery grade stamp volume)) ≡ 9 → late v.shape v.clock stamp ≡ true
  late_delivery h =
      ended (late v.shape v.clock stamp) (not (v.block_sound grade)) (ltb (2 ^ v.shape.m) (v.total grade stamp + volume))
      (reached 9 (λ e. omega arith) (λ e. omega arith) (λ e. omega arith) (λ e. omega arith) (λ e. omega arith) h).5

pub record AcceptedQuery (v : View) (grade window : ℕ) : Type 0 where
  pub head : v.head_sound ≡ true
  pub size : v.lent ≡ book_words v.shape
  pub inside : grade < v.shape.g
  pub short : window ≤ 2 ^ v.shape.k
  pub sound : v.block_sound grade ≡ true

pub accepted_query : (v : View) (grade window : ℕ) → first_of (refusals v (Query grade window)) ≡ 0 → AcceptedQuery v grade window
unfolding refusals
accepted_query v grade window h =
    let start = opened_facts v (λ e. omega arith) (λ e. omega arith) h in
    let inside = further (not (ltb grade v.shape.g)) 3 (λ e. omega arith) start.2 in
    let short = further (ltb (2 ^ v.shape.k) window) 5 (λ e. omega arith) inside.1 in
    let sound = further (not (v.block_sound grade)) 11 {y = 0} (λ e. omega arith) short.1 in
    record {
      head = start.0;
      size = start.1;
      inside = ltb-true grade v.shape.g (not-false _ inside.0);
      short = ltb-false (2 ^ v.shape.k) window short.0;
      sound = not-false _ sound.0;
    }

pub record AcceptedClock (v : View) (clock : ℕ) : Type 0 where
  pub head : v.head_sound ≡ true
  pub size : v.lent ≡ book_words v.shape
  pub early : clock ≤ max_clock
  pub later : v.clock ≤ clock
  pub sound : all_from v.block_sound 0 v.shape.g ≡ true

pub accepted-clock : (v : View) (clock : ℕ) → first_of (refusals v (Clock clock)) ≡ 0 → AcceptedClock v clock
unfolding refusals
accepted-clock v clock h =
    let start = opened_facts v (λ e. omega arith) (λ e. omega arith) h in
    let early = further (ltb max_clock clock) 6 (λ e. omega arith) start.2 in
    let later = further (ltb clock v.clock) 10 (λ e. omega arith) early.1 in
    let sound = further (not (all_from v.block_sound 0 v.shape.g)) 11 {y = 0} (λ e. omega arith) later.1 in
    record {
      head = start.0;
      size = start.1;
      early = ltb-false max_clock clock early.0;
      later = ltb-false clock v.clock later.0;
      sound = not-false _ sound.0;
    }

-- an accepted make depends only on its numbers and on how much is lent
pub accepted_make : (v : View) (k n m g : ℕ) → first_of (refusals v (Make k n m g)) ≡ 0 → (within k n m g ≡ true) × (v.lent ≡ book_words (shaped k n m g))
unfolding refusals
accepted_make v k n m g h =
    let inside = further (not (within k n m g)) 1 (λ e. omega arith) h in
    let size = further (not (eqb v.lent (book_words (shaped k n m g)))) 2 {y = 0} (λ e. omega arith) inside.1 in
    (not-false (within k n m g) inside.0, eqb-true v.lent (book_words (shaped k n m g)) (not-false _ size.0))
