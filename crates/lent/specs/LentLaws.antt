-- What a call is lent is within the buffer, and so is what stays lent. Assumes nothing.
use Rattle.std.specs.Prelude.{Err, Bool, true, false, cond, ◌≡◌, ℕ, min, ◌≤◌, eqb}
use Rattle.std.proofs.Common.{arith, ne_eqb}
use Rattle.shape.specs.Limits.{Reply, within, shaped}
use Rattle.shape.specs.Layout.{book_words}
use Rattle.model.specs.declared.Call.{Call}
use Rattle.model.specs.declared.Call.TheVariants.{Make, Clock, Delivery, Query}
use Rattle.model.specs.declared.Refusal.{Refusal}
use Rattle.model.specs.Reply.{number_of, reply_by, reply_of}
use Rattle.laws.specs.Refusals.{number_of_pos}
use Rattle.lent.specs.Lent.{lent_to, lent_after}

pub lent_inside : (all lent : ℕ) (call : Call) → lent ≤ all → lent_to all lent call ≤ all
lent_inside all lent (Make k n m g) h = go (within k n m g) (book_words (shaped k n m g))
  where
    go : (b : Bool) (words : ℕ) → cond b (min words all) all ≤ all
    go true words = omega arith
    go false words = omega arith
lent_inside all lent (Clock clock) h = h
lent_inside all lent (Delivery grade stamp volume) h = h
lent_inside all lent (Query grade window) h = h

pub after_inside : (all : ℕ) (reply : Reply) (before lent : ℕ) → before ≤ all → lent ≤ all → lent_after reply before lent ≤ all
after_inside all reply before lent b l = go (eqb reply.number 0)
  where
    go : (a : Bool) → cond a lent before ≤ all
    go true = l
    go false = b

-- after a refused call as much is lent as before it
pub refused-after : (why : Refusal) (before lent : ℕ) → lent_after (reply_of (Err why)) before lent ≡ before
unfolding reply_by
refused-after why before lent = rw (ne_eqb (number_of why) 0 (number_of_pos why))
