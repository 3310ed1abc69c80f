-- SPECIFICATION 9, the claim (the customer's demand 3): one statement about a whole list of calls and replays, proved in `ledger`. Assumes
-- nothing.
use Rattle.std.specs.Prelude.{false, cond, ◌≡◌, List, [], ◌∷◌, ◌++◌, map, ℕ, ◌+◌, ◌-◌, ◌*◌, ◌^◌, ◌≤◌, ◌<◌, eqb, length, get_or}
use Rattle.shape.specs.Limits.{Reply, shaped}
use Rattle.model.specs.declared.Call.{Call}
use Rattle.model.specs.declared.Call.TheVariants.{Make, Clock, Delivery, Query}
use Rattle.model.specs.Block.{covers}
use Rattle.model.specs.Calls.{perform}
use Rattle.model.specs.Trace.{records_of, call_of, found_day}
use Rattle.model.specs.Replay.{with_answers, replay_calls, replay}
use Rattle.model.specs.Ground.{ground}
use Rattle.model.specs.Ledger.{Ledger, ledger_of, of_grade, exact_sum, enter}
use Rattle.model.specs.Stamps.{different_stamps}

pub record Turn : Type 0 where  -- SPECIFICATION 9.1, one call of a run: the words and the ledger before it, the book's reply and the ledger's
  pub call : Call
  pub words : List ℕ
  pub ledger : Ledger
  pub book : Reply
  pub exact : Reply

unfoldable pub run_calls : List ℕ → Ledger → List Call → List Turn  -- SPECIFICATION 9.1: calls one after another, each lent all of the words
run_calls ws l [] = []
run_calls ws l (call ∷ calls) =
    let done = perform ws call in
    let noted = enter (length ws) l call in
    record { call = call; words = ws; ledger = l; book = done.reply; exact = noted.reply } ∷ run_calls done.left noted.left calls

abbrev pub ledger_by : List ℕ → Ledger → List Call → Ledger  -- SPECIFICATION 9.1: the ledger after these calls; of the words it is told only how many each call is lent
ledger_by ws l [] = l
ledger_by ws l (call ∷ calls) = ledger_by (perform ws call).left (enter (length ws) l call).left calls

pub data Step : Type 0 where  -- SPECIFICATION 9.1, an element of the list: a call, or a replay of a day of a trace with these words for the answers
  once : Call → Step
  replayed : List ℕ → ℕ → List ℕ → Step

abbrev pub calls_of : Step → List Call  -- SPECIFICATION 9.1: the calls that a step counts as
calls_of (once call) = call ∷ []
calls_of (replayed trace day answers) = replay_calls trace day (length answers)

abbrev pub leaves : List ℕ → Step → List ℕ  -- SPECIFICATION 9.1: the words that a step leaves of the book's
leaves ws (once call) = (perform ws call).left
leaves ws (replayed trace day answers) = (replay ws trace day answers).book

unfoldable pub run : List ℕ → Ledger → List Step → List Turn  -- SPECIFICATION 9.1: a list of steps, each on the words that the one before left
run ws l [] = []
run ws l (step ∷ steps) = run_calls ws l (calls_of step) ++ run (leaves ws step) (ledger_by ws l (calls_of step)) steps

abbrev pub Each : {A : Type 0} → (A → Type 0) → List A → Type 0  -- P holds of each
Each P [] = Unit {0}
Each P (x ∷ xs) = P x × Each P xs

abbrev pub ByCall : Type 0 → Type 0 → (ℕ → Type 0) → (ℕ → ℕ → Type 0) → Call → Type 0  -- what is said of each kind of call: of a delivery by its stamp, of a question by grade and window
ByCall make clock delivery query (Make k n m g) = make
ByCall make clock delivery query (Clock to) = clock
ByCall make clock delivery query (Delivery grade stamp volume) = delivery stamp
ByCall make clock delivery query (Query grade window) = query grade window

abbrev pub OfQuery : (ℕ → ℕ → Type 0) → Call → Type 0  -- said of questions alone
OfQuery = ByCall (Unit {0}) (Unit {0}) (λ stamp. Unit {0})

pub record Admits (n k book exact : ℕ) : Type 0 where  -- SPECIFICATION 9.3: |book - exact| × (n - k - 1) ≤ 2 × (k + 1) × exact
  pub above : book * (n - (k + 1)) ≤ exact * (n - (k + 1)) + 2 * (k + 1) * exact
  pub below : exact * (n - (k + 1)) ≤ book * (n - (k + 1)) + 2 * (k + 1) * exact

abbrev pub Bound : Turn → Type 0  -- SPECIFICATION 9.3: an answered question keeps the bound where n is above k + 1, by the shape in force then
Bound t =
    let s = t.ledger.shape in
    OfQuery (λ grade window. t.book.number ≡ 0 → s.k + 1 < s.n → Admits s.n s.k (get_or t.book.values 0 0) (get_or t.exact.values 0 0)) t.call

pub record Near (limit x y : ℕ) : Type 0 where  -- SPECIFICATION 9.7: x and y differ by at most the limit
  pub above : x ≤ y + limit
  pub below : y ≤ x + limit

abbrev pub Grounds : Turn → Type 0  -- SPECIFICATION 9.7: an answered question has a ground, whose sum is within its limit of the ledger's sum of the grade's entries in the window, whatever n is
Grounds t =
    OfQuery (λ grade window. t.book.number ≡ 0 →
    let given = ground t.words grade window in
    (given.number ≡ 0) × Near (get_or given.values 2 0) (get_or given.values 0 0) (exact_sum t.ledger (of_grade grade) window)) t.call

abbrev pub Quiet : Turn → Type 0  -- SPECIFICATION 9.8: an answered question has the ledger's reply if the grade's entries, in the interval where its window opens, bear at most n different stamps from its opening on
Quiet t = OfQuery (λ grade window. t.book.number ≡ 0 → different_stamps t.ledger (of_grade grade) window ≤ t.ledger.shape.n → t.book ≡ t.exact) t.call

abbrev pub Short : Turn → Type 0  -- SPECIFICATION 9.8: an answered question with a window of at most n has the ledger's reply, whatever was delivered
Short t = OfQuery (λ grade window. t.book.number ≡ 0 → window ≤ t.ledger.shape.n → t.book ≡ t.exact) t.call

abbrev pub Span : (Turn → Type 0) → List Turn → Type 0  -- SPECIFICATION 9.4: P holds of every turn up to the next accepted make, which ends the span
Span P [] = Unit {0}
Span P (t ∷ ts) = let here = P t × Span P ts in ByCall ((t.book.number ≡ 0 → ⊥) → here) here (λ stamp. here) (λ grade window. here) t.call

abbrev pub Outside : ℕ → Turn → Type 0  -- SPECIFICATION 9.4: a question with a window of at most 2^k does not cover the stamp; of any grade, answered or not
Outside stamp t = OfQuery (λ grade window. window ≤ 2 ^ t.ledger.shape.k → covers t.ledger.clock window stamp ≡ false) t.call

abbrev pub Missed : List Turn → Type 0  -- SPECIFICATION 9.4: no such question later in the span covers the stamp of a delivery refused as late
Missed [] = Unit {0}
Missed (t ∷ ts) = ByCall (Unit {0}) (Unit {0}) (λ stamp. t.book.number ≡ 9 → Span (Outside stamp) ts) (λ grade window. Unit {0}) t.call × Missed ts

pub record Kept (turns : List Turn) : Type 0 where  -- what holds of a run
  pub same : Each (λ t. t.book.number ≡ t.exact.number) turns  -- SPECIFICATION 9.2: both accept, or both refuse under the same number
  pub bound : Each Bound turns
  pub missed : Missed turns
  pub grounds : Each Grounds turns
  pub quiet : Each Quiet turns
  pub short : Each Short turns

pub record ReplayTurns (ws : List ℕ) (turns : List Turn) (trace : List ℕ) (day : ℕ) (answers : List ℕ) : Type 0 where  -- SPECIFICATION 9.6, a replay
  -- its turns are the calls of the found day's records; a refused one has none
  pub calls : map (λ t. t.call) turns ≡ cond (eqb (replay ws trace day answers).reply.number 0) (map call_of (records_of (found_day trace day))) []
  -- it writes the number and the sum of each of its turns; the other words stay
  pub writes : (replay ws trace day answers).answers ≡ with_answers (map (λ t. t.book) turns) answers

abbrev pub AsTurns : List ℕ → List Turn → Step → Type 0  -- SPECIFICATION 9.6: said of replays alone
AsTurns ws turns (once call) = Unit {0}
AsTurns ws turns (replayed trace day answers) = ReplayTurns ws turns trace day answers

abbrev pub EachAsTurns : List ℕ → Ledger → List Step → Type 0  -- SPECIFICATION 9.6: of each replay of a run
EachAsTurns ws l [] = Unit {0}
EachAsTurns ws l (step ∷ steps) = AsTurns ws (run_calls ws l (calls_of step)) step × EachAsTurns (leaves ws step) (ledger_by ws l (calls_of step)) steps

unfoldable pub Claim : Type 0  -- SPECIFICATION 9.5: for every list of calls and replays, from the words that an accepted make left on any words, and from its ledger
Claim = (before : List ℕ) (k n m g : ℕ) → (perform before (Make k n m g)).reply.number ≡ 0 → (steps : List Step) →
    let ws = (perform before (Make k n m g)).left in
    let l = ledger_of (shaped k n m g) 0 [] in
    Kept (run ws l steps) × EachAsTurns ws l steps
