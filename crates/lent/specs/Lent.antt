-- How many words of its buffer the bench program lends to a call, and what a line does to the buffer: SPECIFICATION 11.2. Assumes nothing.
use Rattle.std.specs.Prelude.{Option, Some, None, cond, List, ◌++◌, ℕ, min, eqb, length, take, drop}
use Rattle.shape.specs.Limits.{Reply, within, shaped}
use Rattle.shape.specs.Layout.{book_words}
use Rattle.model.specs.declared.Call.{Call}
use Rattle.model.specs.declared.Call.TheVariants.{Make, Clock, Delivery, Query}
use Rattle.model.specs.Calls.{Outcome, outcome_of, perform}
use Rattle.text.specs.Text.{text_of, unread_text}

-- SPECIFICATION 11.2: the length that a shape within its limits needs, but at most the whole buffer; to any other make all of it
abbrev pub lent_to_make : ℕ → ℕ → ℕ → ℕ → ℕ → ℕ
lent_to_make all k n m g = cond (within k n m g) (min (book_words (shaped k n m g)) all) all

-- SPECIFICATION 11.2: every other call is lent as much as is lent now
abbrev pub lent_to : ℕ → ℕ → Call → ℕ
lent_to all lent (Make k n m g) = lent_to_make all k n m g
lent_to all lent (Clock clock) = lent
lent_to all lent (Delivery grade stamp volume) = lent
lent_to all lent (Query grade window) = lent

-- SPECIFICATION 11.2: what an accepted call was lent stays lent; a refused one changes nothing
abbrev pub lent_after : Reply → ℕ → ℕ → ℕ
lent_after reply before lent = cond (eqb reply.number 0) lent before

-- SPECIFICATION 11.2: a call on the front of the buffer; the words behind stay
unfoldable pub perform_on : ℕ → List ℕ → Call → Outcome (List ℕ)
perform_on lent ws call = let done = perform (take lent ws) call in outcome_of done.reply (done.left ++ drop lent ws)

pub record After : Type 0 where  -- after a line: the buffer, how much of it is lent, and what is printed
  pub words : List ℕ
  pub lent : ℕ
  pub text : List ℕ

abbrev pub after_call : List ℕ → ℕ → Call → After  -- SPECIFICATION 11.2 and 11.4: a line that is a call
after_call ws before call =
    let lent = lent_to (length ws) before call in
    let done = perform_on lent ws call in
    record { words = done.left; lent = lent_after done.reply before lent; text = text_of done.reply }

-- SPECIFICATION 11.2 to 11.4: a line that is unread changes nothing
unfoldable pub after_line : List ℕ → ℕ → Option Call → After
after_line ws before (Some call) = after_call ws before call
after_line ws before None = record { words = ws; lent = before; text = unread_text }
