-- The calls: the refusals of each in their order (SPECIFICATION 6), and what an accepted one does to the words (5). Assumes nothing.
use Rattle.std.specs.Prelude.{Bool, cond, not, ◌||◌, List, [], ◌∷◌, ◌++◌, ℕ, ◌+◌, ◌^◌, ltb, eqb, length, replicate}
use Rattle.shape.specs.declared.Shape.{Shape}
use Rattle.shape.specs.Layout.{head_len, book_words}
use Rattle.shape.specs.Limits.{Reply, refused, accepted, splitting, within, shaped}
use Rattle.model.specs.declared.Call.{Call}
use Rattle.model.specs.declared.Call.TheVariants.{Make, Clock, Delivery, Query}
use Rattle.model.specs.Block.{Block, empty_half, deliver, deliver_splits, advance, window_sum, late, interval, half_of, up_from}
use Rattle.model.specs.Words.{shape_of, clock_of, block_part, decode_block, encode_block, encode_head, with_block, join}
use Rattle.model.specs.Sound.{sound_head, sound_block, all_from, max_clock}

abbrev pub first_of : List (Bool × ℕ) → ℕ  -- SPECIFICATION 6.1: the number of the first condition that holds, 0 where none does
first_of [] = 0
first_of (r ∷ rs) = cond r.0 r.1 (first_of rs)

abbrev pub answered : List (Bool × ℕ) → Reply → Reply  -- SPECIFICATION 6.1: refused under that number, or this reply where it is 0
answered refusals done = let number = first_of refusals in cond (eqb number 0) done (refused number)

pub record Outcome (A : Type 0) : Type 0 where  -- SPECIFICATION 5.1: what a call answers and what it leaves, which is a book's words or a ledger
  pub reply : Reply
  pub left : A

abbrev pub outcome_of : {A : Type 0} → Reply → A → Outcome A
outcome_of reply left = record { reply = reply; left = left }

abbrev pub settle : {A : Type 0} → List (Bool × ℕ) → A → Outcome A → Outcome A  -- SPECIFICATION 5.1: a refused call changes nothing
settle refusals before done = let number = first_of refusals in cond (eqb number 0) done (outcome_of (refused number) before)

pub record View : Type 0 where  -- what the refusals depend on: the book takes it from its words, the ledger from its entries
  pub lent : ℕ
  pub head_sound : Bool
  pub shape : Shape
  pub clock : ℕ
  pub block_sound : ℕ → Bool  -- by grade
  pub total : ℕ → ℕ → ℕ  -- of a grade's half, by a stamp of its interval

abbrev pub opened : View → List (Bool × ℕ)  -- SPECIFICATION 6.3: how the refusals of clock, delivery and question begin
opened v = (ltb v.lent head_len, 2) ∷ (not v.head_sound, 7) ∷ (not (eqb v.lent (book_words v.shape)), 2) ∷ []

unfoldable pub refusals : View → Call → List (Bool × ℕ)  -- SPECIFICATION 6.2 and 6.3: the refusals of each call in their order
refusals v (Make k n m g) = (not (within k n m g), 1) ∷ (not (eqb v.lent (book_words (shaped k n m g))), 2) ∷ []
refusals v (Clock clock) =
    opened v ++ (ltb max_clock clock, 6) ∷ (ltb clock v.clock, 10) ∷ (not (all_from v.block_sound 0 v.shape.g), 11) ∷ []
refusals v (Delivery grade stamp volume) =
    opened v ++ (not (ltb grade v.shape.g), 3) ∷ (eqb volume 0 || ltb 65535 volume, 4)
    ∷ (ltb v.clock stamp, 8) ∷ (late v.shape v.clock stamp, 9) ∷ (not (v.block_sound grade), 11)
    ∷ (ltb (2 ^ v.shape.m) (v.total grade stamp + volume), 12) ∷ []
refusals v (Query grade window) =
    opened v ++ (not (ltb grade v.shape.g), 3) ∷ (ltb (2 ^ v.shape.k) window, 5) ∷ (not (v.block_sound grade), 11) ∷ []

abbrev pub block_at : List ℕ → ℕ → Block  -- the block of a grade
block_at ws grade = decode_block (shape_of ws) (block_part (shape_of ws) grade ws)

unfoldable pub book_view : List ℕ → View  -- what a book's words say to the refusals
book_view ws = record {
  lent = length ws;
  head_sound = sound_head ws;
  shape = shape_of ws;
  clock = clock_of ws;
  block_sound = λ grade. sound_block (shape_of ws) (block_part (shape_of ws) grade ws);
  total = λ grade stamp. (half_of (interval (shape_of ws) stamp) (block_at ws grade)).total;
}

unfoldable pub made : Shape → List ℕ  -- SPECIFICATION 5.2: clock 0 and nothing in any half
made s = encode_head s 0 ++ join (replicate s.g (encode_block s (record { even = empty_half s; odd = empty_half s })))

unfoldable pub clocked : Shape → ℕ → List ℕ → List ℕ  -- SPECIFICATION 5.3: the head with the new clock, and in every grade the halves emptied that the clock empties
clocked s clock ws = encode_head s clock ++ join (up_from (λ grade. encode_block s (advance s (clock_of ws) clock (block_at ws grade))) 0 s.g)

unfoldable pub delivered : Shape → ℕ → ℕ → ℕ → List ℕ → List ℕ  -- SPECIFICATION 5.4: the block of the grade with the delivery, and every other word as it was
delivered s grade stamp volume ws = with_block s grade (encode_block s (deliver s stamp volume (block_at ws grade))) ws

abbrev pub accept : List ℕ → Call → Outcome (List ℕ)  -- SPECIFICATION 5.2 to 5.5: an accepted call
accept ws (Make k n m g) = outcome_of (accepted []) (made (shaped k n m g))
accept ws (Clock clock) = outcome_of (accepted []) (clocked (shape_of ws) clock ws)
accept ws (Delivery grade stamp volume) = outcome_of (splitting (deliver_splits (shape_of ws) stamp volume (block_at ws grade))) (delivered (shape_of ws) grade stamp volume ws)
accept ws (Query grade window) = outcome_of (accepted (window_sum (shape_of ws) (clock_of ws) window (block_at ws grade) ∷ [])) ws

unfoldable pub perform : List ℕ → Call → Outcome (List ℕ)  -- SPECIFICATION 5: a call on words of any length and content
perform ws call = settle (refusals (book_view ws) call) ws (accept ws call)
