-- The test that all words are zero, by joining the bits of four parts and of the words after them. Assumes nothing.
use Rattle.std.specs.Prelude.{Bool, true, false, ◌&&◌, List, [], ◌∷◌, ◌≡◌, refl, ℕ, zero, suc, ◌+◌, ◌<◌, eqb, length, get_or, take, drop, fold}
use Rattle.std.proofs.Math.Bool.{and_assoc, and-true}
use Rattle.std.proofs.Common.{sym, ap, ◌∙◌, add-one, drop-cons, drop-drop}
use Rattle.std.specs.Int.Bits.{bit_or}
use Rattle.model.specs.Sound.{zeros}
use Rattle.words.specs.Bits.{or_tested}

zeros_step : (ws : List ℕ) (j : ℕ) → j < length ws → zeros (drop j ws) ≡ (eqb (get_or ws j 0) 0 && zeros (drop (j + 1) ws))
zeros_step ws j h = rw (drop-cons ws j 0, add-one)

-- the same tests in another order
regroup : (a v w s t : Bool) → (((a && v) && w) && (s && t)) ≡ (a && ((v && s) && (w && t)))
regroup false v w s t = refl
regroup true false w s t = refl
regroup true true true s t = refl
regroup true true false true t = refl
regroup true true false false t = refl

-- joining a word of each of two lists
zeros_pair : (low high : List ℕ) (all j : ℕ) → j < length low → j < length high
    → (eqb (bit_or (bit_or all (get_or low j 0)) (get_or high j 0)) 0 && (zeros (drop (j + 1) low) && zeros (drop (j + 1) high)))
    ≡ (eqb all 0 && (zeros (drop j low) && zeros (drop j high)))
zeros_pair low high all j h k =
    let v = get_or low j 0 in
    let w = get_or high j 0 in
    rw (or_tested (bit_or all v) w, or_tested all v, zeros_step low j h, zeros_step high j k)
    (regroup (eqb all 0) (eqb v 0) (eqb w 0) (zeros (drop (j + 1) low)) (zeros (drop (j + 1) high)))

zeros_parts : (ws : List ℕ) (n : ℕ) → zeros ws ≡ (zeros (take n ws) && zeros (drop n ws))
zeros_parts ws zero = refl
zeros_parts [] (suc n) = refl
zeros_parts (w ∷ ws) (suc n) =
    ap (λ (t : Bool). eqb w 0 && t) (zeros_parts ws n) ∙ sym (and_assoc (eqb w 0) (zeros (take n ws)) (zeros (drop n ws)))

-- the last two tests in the other order
swapped : (x u v : Bool) → ((x && v) && u) ≡ (x && (u && v))
swapped false u v = refl
swapped true true true = refl
swapped true true false = refl
swapped true false true = refl
swapped true false false = refl

-- joining a word of each of four lists
pub zeros-four : (a b c d : List ℕ) (all j : ℕ) → j < length a → j < length b → j < length c → j < length d
    → (eqb (bit_or (bit_or (bit_or (bit_or all (get_or a j 0)) (get_or b j 0)) (get_or c j 0)) (get_or d j 0)) 0
    && ((zeros (drop (j + 1) a) && zeros (drop (j + 1) b)) && (zeros (drop (j + 1) c) && zeros (drop (j + 1) d))))
    ≡ (eqb all 0 && ((zeros (drop j a) && zeros (drop j b)) && (zeros (drop j c) && zeros (drop j d))))
zeros-four a b c d all j ha hb hc hd =
    let two = bit_or (bit_or all (get_or a j 0)) (get_or b j 0) in
    let four = bit_or (bit_or two (get_or c j 0)) (get_or d j 0) in
    let next = zeros (drop (j + 1) a) && zeros (drop (j + 1) b) in
    let here = zeros (drop j c) && zeros (drop j d) in
    sym (swapped (eqb four 0) next (zeros (drop (j + 1) c) && zeros (drop (j + 1) d)))
    ∙ ap (λ (t : Bool). t && next) (zeros_pair c d two j hc hd)
    ∙ swapped (eqb two 0) next here ∙ sym (and_assoc (eqb two 0) next here)
    ∙ ap (λ (t : Bool). t && here) (zeros_pair a b all j ha hb)
    ∙ and_assoc (eqb all 0) (zeros (drop j a) && zeros (drop j b)) here

-- joining one more word
pub zeros-one : (ws : List ℕ) (all j : ℕ) → j < length ws → (eqb (bit_or all (get_or ws j 0)) 0 && zeros (drop (j + 1) ws)) ≡ (eqb all 0 && zeros (drop j ws))
zeros-one ws all j h = rw (or_tested all (get_or ws j 0), zeros_step ws j h) (and_assoc (eqb all 0) (eqb (get_or ws j 0) 0) (zeros (drop (j + 1) ws)))

-- joining one word after another
pub zeros-joined : (all : ℕ) (ws : List ℕ) → eqb (fold bit_or all ws) 0 ≡ (eqb all 0 && zeros ws)
zeros-joined all [] = sym (and-true (eqb all 0))
zeros-joined all (w ∷ ws) =
    zeros-joined (bit_or all w) ws ∙ ap (λ (t : Bool). t && zeros ws) (or_tested all w) ∙ and_assoc (eqb all 0) (eqb w 0) (zeros ws)

-- four parts of n words from `from` on; the fourth has all words to the end
module _ (ws : List ℕ) (from n all rest : ℕ) where
  abbrev two : ℕ
  two = from + n

  abbrev three : ℕ
  three = two + n

  abbrev four : ℕ
  four = three + n

  parted : (m : ℕ) → zeros (drop m ws) ≡ (zeros (take n (drop m ws)) && zeros (drop (m + n) ws))
  parted m = zeros_parts (drop m ws) n ∙ ap (λ (z : List ℕ). zeros (take n (drop m ws)) && zeros z) (drop-drop n m ws)

  pub zeros_quarters : (eqb all 0 && zeros (drop n (drop four ws)))
      ≡ ((zeros (take n (drop from ws)) && zeros (take n (drop two ws))) && (zeros (take n (drop three ws)) && zeros (drop four ws)))
      → eqb rest 0 ≡ zeros (drop (four + n) ws) → eqb (bit_or all rest) 0 ≡ zeros (drop from ws)
  zeros_quarters e r =
      let a = zeros (take n (drop from ws)) in
      let b = zeros (take n (drop two ws)) in
      or_tested all rest ∙ ap (λ (t : Bool). eqb all 0 && t) r ∙ ap (λ (z : List ℕ). eqb all 0 && zeros z) (sym (drop-drop n four ws)) ∙ e
      ∙ ap (λ (t : Bool). (a && b) && t) (sym (parted three)) ∙ and_assoc a b (zeros (drop three ws))
      ∙ ap (λ (t : Bool). a && t) (sym (parted two)) ∙ sym (parted from)
