-- SPECIFICATION 8, the ledger, which adds exactly. It is told each call and how many words it is lent, and nothing else. Assumes nothing.
use Rattle.std.specs.Prelude.{Bool, true, cond, ◌&&◌, List, [], ◌∷◌, ℕ, ◌+◌, eqb}
use Rattle.shape.specs.declared.Shape.{Shape}
use Rattle.shape.specs.Limits.{accepted, shaped}
use Rattle.model.specs.declared.Call.{Call}
use Rattle.model.specs.declared.Call.TheVariants.{Make, Clock, Delivery, Query}
use Rattle.model.specs.Block.{covers, interval}
use Rattle.model.specs.Calls.{View, refusals, Outcome, outcome_of, settle}

pub record Entry : Type 0 where  -- SPECIFICATION 8: what an accepted delivery said
  pub grade : ℕ
  pub stamp : ℕ
  pub volume : ℕ

pub record Ledger : Type 0 where  -- SPECIFICATION 8: the latest entry stands first
  pub shape : Shape
  pub clock : ℕ
  pub entries : List Entry

abbrev pub ledger_of : Shape → ℕ → List Entry → Ledger
ledger_of s clock entries = record { shape = s; clock = clock; entries = entries }

abbrev pub volume_of : (Entry → Bool) → List Entry → ℕ  -- the sum of the volumes of the entries that satisfy a test
volume_of p [] = 0
volume_of p (e ∷ es) = cond (p e) e.volume 0 + volume_of p es

abbrev pub of_grade : ℕ → Entry → Bool  -- an entry of this grade
of_grade grade e = eqb e.grade grade

abbrev pub of_interval : Shape → (Entry → Bool) → ℕ → Entry → Bool  -- an entry that satisfies a test, in interval j
of_interval s p j e = p e && eqb (interval s e.stamp) j

abbrev pub of_window : ℕ → (Entry → Bool) → ℕ → Entry → Bool  -- an entry that satisfies a test, whose stamp the window covers
of_window clock p window e = p e && covers clock window e.stamp

abbrev pub exact_sum : Ledger → (Entry → Bool) → ℕ → ℕ  -- SPECIFICATION 8: the sum over a window of the entries that satisfy a test
exact_sum l p window = volume_of (of_window l.clock p window) l.entries

unfoldable pub ledger_view : ℕ → Ledger → View  -- SPECIFICATION 8: 7 and 11 never hold; a half's total is the sum of the ledger's own entries
ledger_view lent l = record {
  lent = lent;
  head_sound = true;
  shape = l.shape;
  clock = l.clock;
  block_sound = λ grade. true;
  total = λ grade stamp. volume_of (of_interval l.shape (of_grade grade) (interval l.shape stamp)) l.entries;
}

abbrev pub note : Ledger → Call → Outcome Ledger  -- SPECIFICATION 8: an accepted call
note l (Make k n m g) = outcome_of (accepted []) (ledger_of (shaped k n m g) 0 [])
note l (Clock clock) = outcome_of (accepted []) (ledger_of l.shape clock l.entries)
note l (Delivery grade stamp volume) =
    outcome_of (accepted []) (ledger_of l.shape l.clock (record { grade = grade; stamp = stamp; volume = volume } ∷ l.entries))
note l (Query grade window) = outcome_of (accepted (exact_sum l (of_grade grade) window ∷ [])) l

unfoldable pub enter : ℕ → Ledger → Call → Outcome Ledger  -- SPECIFICATION 8: a call that is lent so many words
enter lent l call = settle (refusals (ledger_view lent l) call) l (note l call)
