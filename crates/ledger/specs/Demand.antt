-- What the proof of the claim says of a call, of a single turn and of a run from the words of a ledger. Rests on the definitions alone.
use Rattle.std.specs.Prelude.{◌≡◌, List, ◌≤◌, length}
use Rattle.model.specs.declared.Call.{Call}
use Rattle.model.specs.Calls.{perform}
use Rattle.model.specs.Ledger.{Ledger, enter}
use Rattle.model.specs.Claim.{Turn, run_calls, ByCall, Bound, Grounds, Quiet, Short}
use Rattle.ledger.specs.State.{Good, words_of}

-- what a call leads to: the ledger afterwards, whose words are then the book's; within a span k stays and the clock does not fall
pub record Next (l : Ledger) (call : Call) : Type 0 where
  pub later : Ledger
  pub good : Good later
  pub book : (perform (words_of l) call).left ≡ words_of later
  pub exact : (enter (length (words_of l)) l call).left ≡ later
  pub span : ByCall ((perform (words_of l) call).reply.number ≡ 0 → ⊥) (Unit {0}) (λ _. Unit {0}) (λ _ _. Unit {0}) call
      → (later.shape.k ≡ l.shape.k) × (l.clock ≤ later.clock)

-- what `Kept` says of a single turn's answer, besides its number
pub record TurnKept (t : Turn) : Type 0 where
  pub bound : Bound t
  pub grounds : Grounds t
  pub quiet : Quiet t
  pub short : Short t

-- a run from the words of a ledger
abbrev pub grown : Ledger → List Call → List Turn
grown l calls = run_calls (words_of l) l calls
