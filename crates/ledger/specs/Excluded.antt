-- What the bound of the claim (demand 3) excludes by itself: a book that answers every question with one number, and a book whose deliveries
-- store nothing. If the bound is claimed of all runs of such a book, a list of calls refutes it. Rests on the definitions alone.
use Rattle.std.specs.Prelude.{◌≡◌, refl, List, [], ◌∷◌, map, ℕ, ◌+◌, ◌*◌, ◌≤◌, length, replicate}
use Rattle.std.proofs.Common.{arith}
use Rattle.shape.specs.Limits.{within, shaped}
use Rattle.shape.specs.Layout.{book_words, block_words, block_start, level_start}
use Rattle.model.specs.declared.Call.{Call}
use Rattle.model.specs.declared.Call.TheVariants.{Make, Clock, Delivery, Query}
use Rattle.model.specs.Level.{unit, insert}
use Rattle.model.specs.Block.{empty_half, deliver_half, deliver, advance, answer, window_sum}
use Rattle.model.specs.Words.{decode_level, decode_half, decode_block, encode_level, encode_block}
use Rattle.model.specs.Sound.{sound_head, sound_level, sound_half, sound_block}
use Rattle.model.specs.Calls.{Outcome, outcome_of, refusals, book_view, made, clocked, delivered, perform}
use Rattle.model.specs.Ledger.{Ledger, ledger_of, ledger_view, enter}
use Rattle.model.specs.Claim.{Turn, run_calls, once, Each, Bound, Kept, Claim}
use Rattle.ledger.specs.Steps.{expand, expand_once, run-expand, each_as_turns}

-- a book is a way to perform calls
abbrev pub Book : Type 0
Book = List ℕ → Call → Outcome (List ℕ)

-- a run of such a book, what is said of all of its runs, and the claim about it
unfoldable pub run_of : Book → List ℕ → Ledger → List Call → List Turn
run_of book ws l [] = []
run_of book ws l (call ∷ calls) =
    let done = book ws call in
    let noted = enter (length ws) l call in
    record { call = call; words = ws; ledger = l; book = done.reply; exact = noted.reply } ∷ run_of book done.left noted.left calls

abbrev pub AllRuns : (List Turn → Type 0) → Book → Type 0
AllRuns P book = (before : List ℕ) (k n m g : ℕ) → (book before (Make k n m g)).reply.number ≡ 0 → (calls : List Call)
    → P (run_of book (book before (Make k n m g)).left (ledger_of (shaped k n m g) 0 []) calls)

abbrev pub ClaimOf : Book → Type 0
ClaimOf = AllRuns Kept

-- for the true book it is the claim itself: a replay counts as its calls
run_same : (ws : List ℕ) (l : Ledger) (calls : List Call) → run_of perform ws l calls ≡ run_calls ws l calls
unfolding run_of run_calls
run_same ws l [] = refl
run_same ws l (call ∷ calls) = rw (run_same (perform ws call).left (enter (length ws) l call).left calls)

pub claim_same : (Claim → ClaimOf perform) × (ClaimOf perform → Claim)
unfolding Claim
claim_same = (there, back)
  where
    there : Claim → ClaimOf perform
    there claim before k n m g h calls =
        let ws : List ℕ = (perform before (Make k n m g)).left in
        let l : Ledger = ledger_of (shaped k n m g) 0 [] in
        rw (run_same ws l calls) (rw (run-expand ws l (map once calls), expand_once calls) at (claim before k n m g h (map once calls)).0)

    back : ClaimOf perform → Claim
    back claim before k n m g h steps =
        let ws : List ℕ = (perform before (Make k n m g)).left in
        let l : Ledger = ledger_of (shaped k n m g) 0 [] in
        (rw (run-expand ws l steps) (rw (run_same ws l (expand steps)) at (claim before k n m g h (expand steps))), each_as_turns ws l steps)

-- ---- a constant sum

abbrev constant : ℕ → List ℕ → List ℕ
constant c [] = []
constant c (sum ∷ more) = c ∷ []

abbrev constant_sum : ℕ → Book
constant_sum c ws call =
    let done = perform ws call in
    outcome_of (record { number = done.reply.number; values = constant c done.reply.values; splits = done.reply.splits }) done.left

-- without deliveries the sum is 0, and after one decilitre 0 is wrong
pub constant_excluded : (c : ℕ) → AllRuns (Each Bound) (constant_sum c) → ⊥
unfolding run_of perform refusals book_view made clocked delivered sound_head sound_block sound_half sound_level within encode_block encode_level decode_block decode_half decode_level empty_half deliver deliver_half advance answer window_sum unit insert block_words book_words block_start level_start enter ledger_view
constant_excluded c bound =
    let kept = bound (replicate (book_words (shaped 2 10 2 1)) 0) 2 10 2 1 refl (Query 0 4 ∷ Delivery 0 0 1 ∷ Query 0 4 ∷ []) in
    let none : c * 7 ≤ 0 = (kept.0 refl (omega arith)).above in
    let one : 1 * 7 ≤ c * 7 + 2 * 3 * 1 = (kept.1.1.0 refl (omega arith)).below in
    omega arith

-- ---- a delivery that stores nothing

abbrev stores_nothing : Book
stores_nothing ws (Make k n m g) = perform ws (Make k n m g)
stores_nothing ws (Clock to) = perform ws (Clock to)
stores_nothing ws (Delivery grade stamp volume) = outcome_of (perform ws (Delivery grade stamp volume)).reply ws
stores_nothing ws (Query grade window) = perform ws (Query grade window)

pub nothing_excluded : AllRuns (Each Bound) stores_nothing → ⊥
unfolding run_of perform refusals book_view made clocked delivered sound_head sound_block sound_half sound_level within encode_block encode_level decode_block decode_half decode_level empty_half deliver deliver_half advance answer window_sum unit insert block_words book_words block_start level_start enter ledger_view
nothing_excluded bound =
    let kept = bound (replicate (book_words (shaped 2 10 2 1)) 0) 2 10 2 1 refl (Delivery 0 0 1 ∷ Query 0 4 ∷ []) in
    let one : 1 * 7 ≤ 0 * 7 + 2 * 3 * 1 = (kept.1.0 refl (omega arith)).below in
    omega arith
