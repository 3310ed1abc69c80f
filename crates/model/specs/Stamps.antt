-- SPECIFICATION 9.8, how many different stamps count for a window. Assumes nothing.
use Rattle.std.specs.Prelude.{Bool, false, cond, ◌&&◌, ◌||◌, List, [], ◌∷◌, ℕ, ◌+◌, leb, eqb}
use Rattle.model.specs.Block.{interval, opening}
use Rattle.model.specs.Ledger.{Entry, Ledger, of_interval}

abbrev pub from_opening : Ledger → (Entry → Bool) → ℕ → Entry → Bool  -- SPECIFICATION 9.8: an entry that satisfies a test, in the interval where a window opens, from its opening on
from_opening l p window e =
    let start = opening l.clock window in
    of_interval l.shape p (interval l.shape start) e && leb start e.stamp

abbrev pub stamps_of : (Entry → Bool) → List Entry → List ℕ  -- the stamps of the entries that satisfy a test
stamps_of p [] = []
stamps_of p (e ∷ es) = cond (p e) (e.stamp ∷ stamps_of p es) (stamps_of p es)

abbrev pub occurs : ℕ → List ℕ → Bool  -- x is one of these numbers
occurs x [] = false
occurs x (y ∷ ys) = eqb x y || occurs x ys

abbrev pub different : List ℕ → ℕ  -- how many different numbers these are: each counts only at its last place in the list
different [] = 0
different (x ∷ xs) = cond (occurs x xs) 0 1 + different xs

abbrev pub different_stamps : Ledger → (Entry → Bool) → ℕ → ℕ  -- SPECIFICATION 9.8: how many different stamps the entries that satisfy a test bear, in the interval where a window opens, from its opening on
different_stamps l p window = different (stamps_of (from_opening l p window) l.entries)
