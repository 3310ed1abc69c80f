-- The histogram of one grade: two halves, what delivery and clock do to them, the sum of a question. SPECIFICATION 3.4, 5. Assumes nothing.
use Rattle.std.specs.Prelude.{Bool, true, false, cond, ◌&&◌, List, [], ◌∷◌, ℕ, zero, suc, ◌+◌, ◌-◌, ◌/◌, ◌%◌, ◌^◌, leb, eqb}
use Rattle.shape.specs.declared.Shape.{Shape}
use Rattle.model.specs.Level.{Bucket, Level, level_of, insert, insert_splits, empty_level}

pub record Half : Type 0 where  -- SPECIFICATION 3.4: the total and the levels of one interval
  pub total : ℕ
  pub levels : List Level

pub record Block : Type 0 where  -- SPECIFICATION 3.3: the halves that serve the intervals of even and of odd number
  pub even : Half
  pub odd : Half

abbrev pub up_from : {A : Type 0} → (ℕ → A) → ℕ → ℕ → List A  -- the c values f i, f (i + 1), ..
up_from f i zero = []
up_from f i (suc c) = f i ∷ up_from f (suc i) c

unfoldable pub empty_half : Shape → Half  -- SPECIFICATION 3.7
empty_half s = record { total = 0; levels = up_from (empty_level s.k) 0 (suc s.last) }

abbrev pub interval : Shape → ℕ → ℕ  -- SPECIFICATION 2.3: the interval in which tick t lies
interval s t = t / 2 ^ s.k

abbrev pub offset_of : Shape → ℕ → ℕ  -- SPECIFICATION 2.3: its offset there
offset_of s t = t % 2 ^ s.k

abbrev pub opening : ℕ → ℕ → ℕ  -- SPECIFICATION 5.5: the stamp at which a window above 0 opens; `-` gives 0 where the window exceeds the clock
opening clock window = clock + 1 - window

abbrev pub covers : ℕ → ℕ → ℕ → Bool  -- SPECIFICATION 5.5: the stamps of a window run from its opening to the clock, both included; window 0 has none
covers clock window stamp = leb (opening clock window) stamp && leb stamp clock

abbrev pub late : Shape → ℕ → ℕ → Bool  -- SPECIFICATION 6.2, condition 9
late s clock stamp = leb (stamp + 2 ^ s.k) clock

abbrev pub half_of : ℕ → Block → Half  -- the half that serves interval j
half_of j b = cond (eqb (j % 2) 0) b.even b.odd

abbrev pub with_half : ℕ → Half → Block → Block  -- the block with another half for interval j
with_half j h b = cond (eqb (j % 2) 0) (record { even = h; odd = b.odd }) (record { even = b.even; odd = h })

abbrev pub insert_all : ℕ → ℕ → ℕ → ℕ → List Level → List Level  -- v decilitres at offset x into level i and each level after it
insert_all n i x v [] = []
insert_all n i x v (l ∷ ls) = insert n i x v l ∷ insert_all n (suc i) x v ls

unfoldable pub deliver_half : Shape → ℕ → ℕ → Half → Half  -- SPECIFICATION 5.4: v decilitres at offset x
deliver_half s x v h = record { total = h.total + v; levels = insert_all s.n 0 x v h.levels }

unfoldable pub deliver : Shape → ℕ → ℕ → Block → Block  -- SPECIFICATION 5.4: a delivery goes into the half of its stamp's interval
deliver s stamp v b = let j = interval s stamp in with_half j (deliver_half s (offset_of s stamp) v (half_of j b)) b

abbrev pub insert_all_splits : ℕ → ℕ → ℕ → ℕ → List Level → ℕ  -- SPECIFICATION 4.6: how many buckets `insert_all` splits, over all these levels
insert_all_splits n i x v [] = 0
insert_all_splits n i x v (l ∷ ls) = insert_splits n i x v l + insert_all_splits n (suc i) x v ls

unfoldable pub deliver_splits : Shape → ℕ → ℕ → Block → ℕ  -- SPECIFICATION 5.4: how many buckets `deliver` splits, in the half of the stamp's interval
deliver_splits s stamp v b = insert_all_splits s.n 0 (offset_of s stamp) v (half_of (interval s stamp) b).levels

abbrev pub empties : ℕ → ℕ → ℕ → Bool  -- SPECIFICATION 5.3: whether the clock empties the half of j. In the same interval none, in the next that of its parity, later both
empties from to j = cond (eqb to from) false (cond (eqb to (from + 1)) (eqb (j % 2) (to % 2)) true)

unfoldable pub advance : Shape → ℕ → ℕ → Block → Block  -- SPECIFICATION 5.3: the clock goes from `old` to `new`
advance s old new b = let gone = empties (interval s old) (interval s new) in record { even = cond (gone 0) (empty_half s) b.even; odd = cond (gone 1) (empty_half s) b.odd }

abbrev pub sum_from : ℕ → List Bucket → ℕ  -- SPECIFICATION 5.5: the weights of the buckets that start at a or later
sum_from a [] = 0
sum_from a (b ∷ bs) = cond (leb a b.offset) b.weight 0 + sum_from a bs

abbrev pub serving : ℕ → List Level → Level  -- SPECIFICATION 5.5: the finest level with F at most a, which is the first such one, since level 0 is the finest
serving a [] = level_of 0 []
serving a (l ∷ ls) = cond (leb l.first a) l (serving a ls)

abbrev pub serving_index : ℕ → List Level → ℕ  -- the number of that level
serving_index a [] = 0
serving_index a (l ∷ ls) = cond (leb l.first a) 0 (suc (serving_index a ls))

unfoldable pub answer : Shape → ℕ → ℕ → Block → ℕ  -- SPECIFICATION 5.5: the sum of a window that opens at stamp `start`
answer s clock start b =
    let from = interval s start in
    let sum = sum_from (offset_of s start) (serving (offset_of s start) (half_of from b).levels).buckets in
    cond (eqb from (interval s clock)) sum (sum + (half_of (interval s clock) b).total)

unfoldable pub window_sum : Shape → ℕ → ℕ → Block → ℕ  -- SPECIFICATION 5.5: the sum of a window, 0 for window 0
window_sum s clock window b = cond (eqb window 0) 0 (answer s clock (opening clock window) b)
