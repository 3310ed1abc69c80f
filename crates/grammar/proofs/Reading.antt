-- What the grammar says of a state and the bytes that are left: reading a byte does not change it. Assumes nothing.
use Rattle.std.specs.Prelude.{Bool, true, false, cond, not, ◌&&◌, List, [], ◌∷◌, ◌++◌, map, ◌≡◌, refl, ℕ, ◌+◌, ◌*◌, ◌-◌, ◌≤◌, ◌<◌, leb, eqb}
use Rattle.std.proofs.Common.{append-nil, ⊎_elim, sym, ap, ◌∙◌, zero-add, arith, eq-eqb, ne_eqb, le-leb}
use Rattle.std.proofs.Math.Seq.{append_snoc}
use Rattle.std.proofs.lemmas.Bool.{lt-leb}
use Rattle.shape.specs.Limits.{Reply}
use Rattle.shape.specs.LimitsLaws.{between_limits}
use Rattle.laws.specs.Cond.{eq_or_ne, lt_or_ge, and-false}
use Rattle.grammar.specs.declared.Numbers.{Numbers}
use Rattle.grammar.specs.declared.Numbers.TheVariants.{None, One, Two, Three}
use Rattle.grammar.specs.declared.State.{State}
use Rattle.grammar.specs.declared.State.TheVariants.{Start, Letter, Space, Number, Broken}
use Rattle.grammar.specs.Grammar.{first_field, later_fields, every, is_digit, value_from, value_of, largest, is_number, unread, called, ordered, grammar}
use Rattle.grammar.specs.Machine.{numbers_of, spaced, grows, moved, ended}

-- ---- a number, digit by digit

-- these digits may follow the value v
goes_on : ℕ → List ℕ → Bool
goes_on v [] = true
goes_on v (d ∷ ds) = grows v d && goes_on (10 * v + (d - 48)) ds

value_rises : (v : ℕ) (ds : List ℕ) → v ≤ value_from v ds
value_rises v [] = omega arith
value_rises v (d ∷ ds) = omega (arith, value_rises (10 * v + (d - 48)) ds)

none_after : (d g : Bool) → (d && false && g) ≡ false
none_after true g = refl
none_after false g = refl

regroup : (d a l : Bool) → (d && a && l) ≡ (d && true && (a && l))
regroup true a l = refl
regroup false a l = refl

-- a number's later digits are tested one by one
later : (v : ℕ) (ds : List ℕ) → 0 < v → v ≤ largest → (every is_digit ds && leb (value_from v ds) largest) ≡ goes_on v ds
unfolding goes_on
later v [] low high = le-leb v largest high
later v (d ∷ ds) low high =
    rw (ne_eqb v 0 (λ e. omega arith))
    (⊎_elim past (λ h. within h (later next ds (omega arith) h)) (lt_or_ge largest next))
  where
    next : ℕ
    next = 10 * v + (d - 48)

    Goal : Type 0
    Goal =
        (is_digit d && every is_digit ds && leb (value_from next ds) largest)
        ≡ (is_digit d && leb next largest && goes_on next ds)

    past : largest < next → Goal
    past h =
        rw (lt-leb next largest h, lt-leb (value_from next ds) largest (omega (arith, value_rises next ds)))
        (and-false (is_digit d && every is_digit ds) refl ∙ sym (none_after (is_digit d) (goes_on next ds)))

    within : next ≤ largest → (every is_digit ds && leb (value_from next ds) largest) ≡ goes_on next ds → Goal
    within h rest =
        rw (le-leb next largest h, ← rest)
        (regroup (is_digit d) (every is_digit ds) (leb (value_from next ds) largest))

-- a number is a digit and digits that may follow it
number-on : (d : ℕ) (ds : List ℕ) → is_number (d ∷ ds) ≡ (is_digit d && goes_on (d - 48) ds)
unfolding goes_on
number-on d [] = go (is_digit d) refl
  where
    go : (t : Bool) → is_digit d ≡ t → is_number (d ∷ []) ≡ (is_digit d && true)
    go false q = rw q
    go true q = let b = between_limits 48 d 57 q in rw q (le-leb (value_of (d ∷ [])) largest (omega arith))
number-on d (e ∷ ds) = go (is_digit d) refl
  where
    Goal : Bool → Type 0
    Goal t =
        (not (eqb d 48) && (t && every is_digit (e ∷ ds)) && leb (value_of (d ∷ e ∷ ds)) largest)
        ≡ (t && goes_on (d - 48) (e ∷ ds))

    leading : d ≡ 48 → Goal true
    leading h = rw (eq-eqb d 48 h, eq-eqb (d - 48) 0 (omega arith)) (sym (none_after (is_digit e) _))

    longer : is_digit d ≡ true → (d ≡ 48 → ⊥) → Goal true
    longer q h =
        let b = between_limits 48 d 57 q in
        rw (ne_eqb d 48 h, zero-add (d - 48)) (later (d - 48) (e ∷ ds) (omega arith) (omega arith))

    go : (t : Bool) → is_digit d ≡ t → Goal (is_digit d)
    go false q = rw q (ap (λ (t : Bool). t && leb (value_of (d ∷ e ∷ ds)) largest) (and-false (not (eqb d 48)) refl))
    go true q = rw q (⊎_elim leading (longer q) (eq_or_ne d 48))

-- ---- a line, byte by byte

-- the reply to fields that follow a letter and its first numbers
fields_of : ℕ → List ℕ → List (List ℕ) → Reply
fields_of letter numbers fields = cond (every is_number fields) (called letter (numbers ++ map value_of fields)) unread

-- the reply, if nothing more stands in the field
alone : List ℕ → Reply → Reply
alone [] reply = reply
alone (b ∷ bs) reply = unread

-- what the grammar says of a state and the bytes that are left
pub left : State → List ℕ → Reply
unfolding fields_of alone
left Start bs = grammar bs
left (Letter letter) bs = alone (first_field bs) (fields_of letter [] (later_fields bs))
left (Space letter kept) bs = fields_of letter (numbers_of kept) (first_field bs ∷ later_fields bs)
left (Number letter kept v) bs =
    cond (goes_on v (first_field bs)) (fields_of letter (numbers_of kept ++ value_from v (first_field bs) ∷ []) (later_fields bs)) unread
left Broken bs = unread

pub at_start : (bs : List ℕ) → left Start bs ≡ grammar bs
unfolding left
at_start bs = refl

pub at_end : (s : State) → left s [] ≡ ended s
unfolding left grammar goes_on
at_end Start = refl
at_end (Letter letter) = refl
at_end (Space letter kept) = refl
at_end (Number letter kept v) = ap (called letter) (append-nil (numbers_of kept ++ v ∷ []))
at_end Broken = refl

letter_on : (b : ℕ) (bs : List ℕ) (fields : List (List ℕ)) → ordered (b ∷ bs) fields ≡ alone bs (fields_of b [] fields)
unfolding fields_of alone
letter_on b [] fields = refl
letter_on b (c ∷ bs) fields = refl

within_both : (s t : Bool) (x u : Reply) → cond (s && t) x u ≡ cond s (cond t x u) u
within_both true t x u = refl
within_both false t x u = refl

either : (t : Bool) (u : Reply) → cond t u u ≡ u
either true u = refl
either false u = refl

space_on : (letter v : ℕ) (kept : Numbers) (bs : List ℕ)
    → fields_of letter (numbers_of kept ++ v ∷ []) (first_field bs ∷ later_fields bs) ≡ left (spaced letter kept v) bs
unfolding left
space_on letter v None bs = refl
space_on letter v (One a) bs = refl
space_on letter v (Two a b) bs = refl
space_on letter v (Three a b c) bs = either (every is_number (first_field bs ∷ later_fields bs)) unread

grow-on : (t : Bool) (letter next : ℕ) (kept : Numbers) (bs : List ℕ)
    → cond (t && goes_on next (first_field bs)) (fields_of letter (numbers_of kept ++ value_from next (first_field bs) ∷ []) (later_fields bs)) unread
    ≡ left (cond t (Number letter kept next) Broken) bs
unfolding left
grow-on true letter next kept bs = refl
grow-on false letter next kept bs = refl

digit_on : (t : Bool) (letter b : ℕ) (kept : Numbers) (bs : List ℕ) → is_digit b ≡ t
    → fields_of letter (numbers_of kept) ((b ∷ first_field bs) ∷ later_fields bs) ≡ left (cond t (Number letter kept (b - 48)) Broken) bs
unfolding left
digit_on false letter b kept bs q = rw (number-on b (first_field bs), q)
digit_on true letter b kept bs q =
    let f = first_field bs in
    let fs = later_fields bs in
    let ns = numbers_of kept in
    rw (number-on b f, q)
    (within_both (goes_on (b - 48) f) (every is_number fs) (called letter (ns ++ value_of (b ∷ f) ∷ map value_of fs)) unread
    ∙ ap (λ (l : List ℕ). cond (goes_on (b - 48) f) (cond (every is_number fs) (called letter l) unread) unread)
    (ap (λ (v : ℕ). ns ++ value_from v f ∷ map value_of fs) (zero-add (b - 48)) ∙ sym (append_snoc ns (value_from (b - 48) f) (map value_of fs))))

-- reading a byte keeps what the grammar says
pub one_byte : (s : State) (b : ℕ) (bs : List ℕ) → left s (b ∷ bs) ≡ left (moved s b) bs
unfolding left grammar goes_on
one_byte Start b bs =
    ⊎_elim (λ e. rw (eq-eqb b 32 e)) (λ e. rw (ne_eqb b 32 e) (letter_on b (first_field bs) (later_fields bs))) (eq_or_ne b 32)
one_byte (Letter letter) b bs = ⊎_elim (λ e. rw (eq-eqb b 32 e)) (λ e. rw (ne_eqb b 32 e)) (eq_or_ne b 32)
one_byte (Space letter kept) b bs =
    ⊎_elim (λ e. rw e) (λ e. rw (ne_eqb b 32 e) (digit_on (is_digit b) letter b kept bs refl)) (eq_or_ne b 32)
one_byte (Number letter kept v) b bs =
    ⊎_elim
    (λ e. rw (eq-eqb b 32 e) (space_on letter v kept bs))
    (λ e. rw (ne_eqb b 32 e) (grow-on (grows v b) letter (10 * v + (b - 48)) kept bs))
    (eq_or_ne b 32)
one_byte Broken b bs = refl
