-- Digits and texts: how long they are, how they are stored, and that the digits of a number have its value. Assumes nothing.
use Rattle.std.specs.Prelude.{Err, Bool, true, false, not, cond, List, [], ◌∷◌, ◌++◌, ◌≡◌, refl, ℕ, zero, suc, ◌+◌, ◌*◌, ◌-◌, ◌/◌, ◌%◌, ◌^◌, ◌≤◌, ◌<◌, eqb, set}
use Rattle.std.proofs.Math.Path.{sym}
use Rattle.std.proofs.Common.{ap, ◌∙◌, add-zero, zero-add, pow-suc, arith, lt-ltb, le-ltb, le-leb, ne_eqb}
use Rattle.std.proofs.Math.Nat.{div-add-mod}
use Rattle.std.proofs.Math.ListN.{length, length-append}
use Rattle.std.proofs.lemmas.List.Edits.{sets, sets-eq}
use Rattle.std.proofs.lemmas.Fmt.{decimal_digit, decimal_step}
use Rattle.std.specs.Fmt as Fmt
use Rattle.shape.specs.Limits.{Reply}
use Rattle.shape.specs.LimitsLaws.{both}
use Rattle.model.specs.Reply.{number_of, reply_by, reply_of}
use Rattle.model.specs.declared.Refusal.{Refusal}
use Rattle.model.specs.declared.Refusal.TheVariants.{Shape, Length, Grade, Volume, Window, Limit, Head, Ahead, Late, Back, Block, Full, Trace, Day, Room, Order, Output}
use Rattle.laws.specs.Cond.{by_lt, and-true}
use Rattle.grammar.specs.Grammar.{every, is_digit, value_from, value_of, is_decimal}
use Rattle.text.specs.Text.{digits_of, decimal, numbered, sum_word, refused_word, accepted_text, text_of, unread_text, written, stored}

-- storing a text and another after it
sets_append : (s t l : List ℕ) (i : ℕ) → sets l i (s ++ t) ≡ sets (sets l i s) (i + length s) t
sets_append [] t l i = rw add-zero
sets_append (a ∷ s) t l i =
    let e : suc i + length s ≡ i + suc (length s) = omega arith in
    sets_append s t (set l i a) (suc i) ∙ ap (λ (k : ℕ). sets (sets (set l i a) (suc i) s) k t) e

-- a buffer that is too short is left as it is
module _ (text out : List ℕ) (short : length out < 32) where
  pub written_none : 0 ≡ written text out
  unfolding written
  written_none = rw (lt-ltb (length out) 32 short)

  pub stored-none : out ≡ stored text out
  unfolding stored
  stored-none = rw (lt-ltb (length out) 32 short)

-- in any other buffer a text is stored from the front on
pub stored-front : (text out : List ℕ) {r : ℕ} {exit : List ℕ} → 32 ≤ length out → length text ≤ 32
    → (r ≡ length text) × (exit ≡ sets out 0 text) → (r ≡ written text out) × (exit ≡ stored text out)
unfolding written stored
stored-front text out room fits stored =
    rw (le-ltb (length out) 32 room)
    (stored.0, stored.1 ∙ sets-eq text out 0 (omega arith) ∙ rw zero-add)

pub digits_most : (most x : ℕ) → length (digits_of most x) ≤ most
digits_most zero x = omega arith
digits_most (suc most) x =
    by_lt x 10 (λ (ds : List ℕ). length ds ≤ suc most) (λ _. omega arith)
    (λ _. omega (arith, length-append (digits_of most (x / 10)) ((48 + x % 10) ∷ []), digits_most most (x / 10)))

div_small : (most x : ℕ) → x < 10 ^ suc most → x / 10 < 10 ^ most
div_small most x h = omega (arith, pow-suc 10 most)

-- the library prints a number's decimal digits
same_digits : (most x : ℕ) → x < 10 ^ suc most → x < 2 ^ 64 → Fmt.decimal x ≡ digits_of (suc most) x
same_digits zero x h fits =
    by_lt x 10 (λ (ds : List ℕ). Fmt.decimal x ≡ ds) (decimal_digit x) (λ big. absurd (omega (arith, pow-suc 10 0)))
same_digits (suc most) x h fits =
    by_lt x 10 (λ (ds : List ℕ). Fmt.decimal x ≡ ds) (decimal_digit x)
    (λ big. decimal_step x big fits ∙ ap (λ (ds : List ℕ). ds ++ (48 + x % 10) ∷ []) (same_digits most (x / 10) (div_small (suc most) x h) (omega arith)))

pub decimal_same : (x : ℕ) → x < 2 ^ 64 → Fmt.decimal x ≡ decimal x
unfolding decimal
decimal_same x h = same_digits 19 x (omega arith) h

-- a word, a number's digits and a newline, stored one after the other
module _ (word : List ℕ) (x : ℕ) where
  pub numbered-length : length (numbered word x) ≡ length word + (length (digits_of 20 x) + 1)
  unfolding decimal
  numbered-length = simp length-append

  pub numbered-stored : (l : List ℕ)
      → set (sets (sets l 0 word) (0 + length word) (digits_of 20 x)) (0 + length word + length (digits_of 20 x)) 10 ≡ sets l 0 (numbered word x)
  unfolding decimal
  numbered-stored l =
      sym (sets_append word (digits_of 20 x ++ 10 ∷ []) l 0 ∙ sets_append (digits_of 20 x) (10 ∷ []) (sets l 0 word) (0 + length word))

  pub numbered_fits : length word ≤ 8 → length (numbered word x) ≤ 32
  numbered_fits h = omega (arith, numbered-length, digits_most 20 x)

-- every text is short
pub text_short : (r : Reply) → length (text_of r) ≤ 32
unfolding text_of
text_short r = go (eqb r.number 0) r.values
  where
    go : (a : Bool) (values : List ℕ) → length (cond a (accepted_text values) (numbered refused_word r.number)) ≤ 32
    go true [] = omega arith
    go true (sum ∷ more) = numbered_fits sum_word sum (omega arith)
    go false values = numbered_fits refused_word r.number (omega arith)

pub unread_short : length unread_text ≤ 32
unfolding unread_text
unread_short = omega arith

pub written_short : (text out : List ℕ) {r : ℕ} → r ≡ written text out → length text ≤ 32 → r ≤ 32
unfolding written
written_short text out e h = rw e (by_lt (length out) 32 (λ (n : ℕ). n ≤ 32) (λ short. omega arith) (λ room. h))

-- the text of every refusal has its number
pub refused_text : (why : Refusal) → text_of (reply_of (Err why)) ≡ numbered refused_word (number_of why)
unfolding text_of reply_by
refused_text Shape = refl
refused_text Length = refl
refused_text Grade = refl
refused_text Volume = refl
refused_text Window = refl
refused_text Limit = refl
refused_text Head = refl
refused_text Ahead = refl
refused_text Late = refl
refused_text Back = refl
refused_text Block = refl
refused_text Full = refl
refused_text Trace = refl
refused_text Day = refl
refused_text Room = refl
refused_text Order = refl
refused_text Output = refl

-- ---- the digits of a number are decimal, and have its value

value_append : (v : ℕ) (ds : List ℕ) (d : ℕ) → value_from v (ds ++ d ∷ []) ≡ 10 * value_from v ds + (d - 48)
value_append v [] d = refl
value_append v (e ∷ ds) d = value_append (10 * v + (e - 48)) ds d

digits_value : (most x : ℕ) → x < 10 ^ most → value_of (digits_of most x) ≡ x
digits_value zero x h = omega arith
digits_value (suc most) x h =
    by_lt x 10 (λ (ds : List ℕ). value_of ds ≡ x) (λ _. omega arith)
    (λ _.
    value_append 0 (digits_of most (x / 10)) (48 + x % 10)
    ∙ rw (digits_value most (x / 10) (div_small most x h)) (omega (arith, div-add-mod x 10)))

digit_of : (x : ℕ) → x < 10 → is_digit (48 + x) ≡ true
digit_of x h = and-true (le-leb 48 (48 + x) (omega arith)) (le-leb (48 + x) 57 (omega arith))

every_append : (ds : List ℕ) (d : ℕ) → every is_digit ds ≡ true → is_digit d ≡ true → every is_digit (ds ++ d ∷ []) ≡ true
every_append [] d p q = rw q
every_append (e ∷ ds) d p q = let h = both {a = is_digit e} {b = every is_digit ds} p in and-true h.0 (every_append ds d h.1 q)

decimal-more : (ds : List ℕ) (d : ℕ) → is_decimal ds ≡ true → 0 < value_of ds → is_digit d ≡ true → is_decimal (ds ++ d ∷ []) ≡ true
decimal-more [] d p h q = absurd (omega arith)
decimal-more (e ∷ []) d p h q = rw (ne_eqb e 48 (λ z. omega arith)) (every_append (e ∷ []) d (and-true p refl) q)
decimal-more (e ∷ f ∷ ds) d p h q = let b = both {a = not (eqb e 48)} {b = every is_digit (e ∷ f ∷ ds)} p in and-true b.0 (every_append (e ∷ f ∷ ds) d b.1 q)

digits_decimal : (most x : ℕ) → x < 10 ^ suc most → is_decimal (digits_of (suc most) x) ≡ true
digits_decimal zero x h =
    by_lt x 10 (λ (ds : List ℕ). is_decimal ds ≡ true) (digit_of x) (λ big. absurd (omega (arith, pow-suc 10 0)))
digits_decimal (suc most) x h =
    by_lt x 10 (λ (ds : List ℕ). is_decimal ds ≡ true) (digit_of x)
    (λ big.
    let small = div_small (suc most) x h in
    decimal-more (digits_of (suc most) (x / 10)) (48 + x % 10) (digits_decimal most (x / 10) small)
    (omega (arith, digits_value (suc most) (x / 10) small)) (digit_of (x % 10) (omega arith)))

-- a number is printed in decimal digits without a leading zero, and they have its value
pub decimal_right : (x : ℕ) → x < 10 ^ 20 → (is_decimal (decimal x) ≡ true) × (value_of (decimal x) ≡ x)
unfolding decimal
decimal_right x h = (digits_decimal 19 x h, digits_value 20 x h)
