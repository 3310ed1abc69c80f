-- Lists made of parts of one size: their length, reading one part, replacing one part; and what holds of each number from i on. Rests on
-- lists alone.
use Rattle.std.specs.Prelude.{Bool, true, cond, ◌≡◌, refl, ◌≢◌, ◌⊎◌, List, [], ◌∷◌, ◌++◌, map, ℕ, zero, suc, ◌+◌, ◌-◌, ◌*◌, ◌≤◌, ◌<◌, eqb, length, get_or, take, drop, replicate}
use Rattle.std.proofs.Common.{sym, ap, ◌∙◌, ⊎_elim, append_assoc, zero-add, add-zero, suc-add, zero-mul, suc-mul, mul-le-mul_right, arith, length-append, length-drop, drop-cons, length-take-le, take_at, drop_at, take-add, take-take, drop-drop, get_or-take, get_or-drop, eq-eqb, ne_eqb}
use Rattle.std.proofs.Math.Logic.{⊎_map}
use Rattle.std.proofs.lemmas.List.{take-append-le}
use Rattle.shape.specs.LimitsLaws.{both}
use Rattle.model.specs.Block.{up_from}
use Rattle.model.specs.Words.{join}
use Rattle.model.specs.Sound.{all_from}
use Rattle.laws.specs.Cond.{lt_or_ge, and-true}

-- P holds of the c numbers i, i + 1, ..
abbrev pub EachFrom : ℕ → ℕ → (ℕ → Type 0) → Type 0
EachFrom i c P = (j : ℕ) → i ≤ j → j < i + c → P j

each_first : (P : ℕ → Type 0) (i c : ℕ) → EachFrom i (suc c) P → P i
each_first P i c e = e i (omega arith) (omega arith)

each_rest : (P : ℕ → Type 0) (i c : ℕ) → EachFrom i (suc c) P → EachFrom (suc i) c P
each_rest P i c e j low high = e j (omega arith) (omega arith)

-- ---- all_from

module _ (p : ℕ → Bool) where
  -- all hold if each does
  pub all_from_intro : (i c : ℕ) → EachFrom i c (λ j. p j ≡ true) → all_from p i c ≡ true
  all_from_intro i zero e = refl
  all_from_intro i (suc c) e =
      and-true (each_first (λ j. p j ≡ true) i c e) (all_from_intro (suc i) c (each_rest (λ j. p j ≡ true) i c e))

  -- each holds if all do
  pub all_from_elim : (i c : ℕ) → all_from p i c ≡ true → EachFrom i c (λ j. p j ≡ true)
  all_from_elim i zero e j low high = absurd (omega arith)
  all_from_elim i (suc c) e j low high =
      let parts : (p i ≡ true) × (all_from p (suc i) c ≡ true) = both e in
      ⊎_elim
      (λ (l : i < j). all_from_elim (suc i) c parts.1 j l (omega arith))
      (λ (g : j ≤ i). let same : i ≡ j = omega arith in rw same at parts.0)
      (lt_or_ge i j)

  -- the same for tests that agree
  pub all_from_cong : (q : ℕ → Bool) (i c : ℕ) → EachFrom i c (λ j. p j ≡ q j) → all_from p i c ≡ all_from q i c
  all_from_cong q i zero e = refl
  all_from_cong q i (suc c) e =
      rw (each_first (λ j. p j ≡ q j) i c e, all_from_cong q (suc i) c (each_rest (λ j. p j ≡ q j) i c e))

-- ---- up_from

module _ {A : Type 0} (f : ℕ → A) where
  -- a function of each value
  pub map_up_from : {B : Type 0} (g : A → B) (i c : ℕ) → map g (up_from f i c) ≡ up_from (λ j. g (f j)) i c
  map_up_from g i zero = refl
  map_up_from g i (suc c) = rw (map_up_from g (suc i) c)

  -- the same values from functions that agree
  pub up_from_cong : (g : ℕ → A) (i c : ℕ) → EachFrom i c (λ j. f j ≡ g j) → up_from f i c ≡ up_from g i c
  up_from_cong g i zero e = refl
  up_from_cong g i (suc c) e =
      rw (each_first (λ j. f j ≡ g j) i c e, up_from_cong g (suc i) c (each_rest (λ j. f j ≡ g j) i c e))

  pub length_up_from : (i c : ℕ) → length (up_from f i c) ≡ c
  length_up_from i zero = refl
  length_up_from i (suc c) = omega (arith, length_up_from (suc i) c)

  pub get_or_up_from : (i c j : ℕ) (other : A) → j < c → get_or (up_from f i c) j other ≡ f (i + j)
  get_or_up_from i zero j other h = absurd (omega arith)
  get_or_up_from i (suc c) zero other h = rw add-zero
  get_or_up_from i (suc c) (suc j) other h = get_or_up_from (suc i) c j other (omega arith) ∙ ap f {x = suc i + j} {y = i + suc j} (omega arith)

  -- c values, then d more
  pub up_from_append : (i c d : ℕ) → up_from f i (c + d) ≡ up_from f i c ++ up_from f (i + c) d
  up_from_append i zero d = rw (zero-add, add-zero)
  up_from_append i (suc c) d =
      let next : suc i + c ≡ i + suc c = omega arith in
      rw (suc-add, ← next) (ap (λ (l : List A). f i ∷ l) (up_from_append (suc i) c d))

-- one value c times
pub replicate_up_from : {A : Type 0} (x : A) (i c : ℕ) → replicate c x ≡ up_from (λ _. x) i c
replicate_up_from x i zero = refl
replicate_up_from x i (suc c) = ap (λ l. x ∷ l) (replicate_up_from x (suc i) c)

-- ---- parts, joined

-- the words with x in place of the n words from a on
abbrev pub with_part : ℕ → ℕ → List ℕ → List ℕ → List ℕ
with_part a n x ws = take a ws ++ (x ++ drop (a + n) ws)

-- two joins of equal parts
pub append_cong : {a b c d : List ℕ} → a ≡ b → c ≡ d → a ++ c ≡ b ++ d
append_cong p q = cc

-- two lists of parts, one after the other
pub join_append : (xs ys : List (List ℕ)) → join (xs ++ ys) ≡ join xs ++ join ys
join_append [] ys = refl
join_append (x ∷ xs) ys = rw (join_append xs ys) (sym (append_assoc x (join xs) (join ys)))

module _ (i c d j : ℕ) (place : i + d ≡ j) (inside : d < c) where
  -- what comes before part j, the part, and what comes after
  join_parted : (f : ℕ → List ℕ) (rest : List ℕ)
      → join (up_from f i c) ++ rest ≡ join (up_from f i d) ++ (f j ++ (join (up_from f (suc j) (c - suc d)) ++ rest))
  join_parted f rest =
      let count : c ≡ d + suc (c - suc d) = omega arith in
      let parts : up_from f i c ≡ up_from f i d ++ (f j ∷ up_from f (suc j) (c - suc d)) =
      ap (up_from f i) count ∙ rw place at (up_from_append f i d (suc (c - suc d))) in
      rw (parts, join_append) (simp append_assoc)

module _ (f : ℕ → List ℕ) (size : ℕ) where
  -- the length of c parts of one size
  pub length-join : (i c : ℕ) → EachFrom i c (λ j. length (f j) ≡ size) → length (join (up_from f i c)) ≡ c * size
  length-join i zero e = sym (zero-mul size)
  length-join i (suc c) e =
      let first : length (f i) ≡ size = each_first (λ j. length (f j) ≡ size) i c e in
      let rest : length (join (up_from f (suc i) c)) ≡ c * size = length-join (suc i) c (each_rest (λ j. length (f j) ≡ size) i c e) in
      simp length-append (omega (arith, suc-mul c size))

  module _ (rest : List ℕ) (i c : ℕ) (sized : EachFrom i c (λ j. length (f j) ≡ size)) (d j : ℕ) (place : i + d ≡ j) (inside : d < c) where
    abbrev before : List ℕ
    before = join (up_from f i d)

    abbrev after : List ℕ
    after = join (up_from f (suc j) (c - suc d)) ++ rest

    length_before : length before ≡ d * size
    length_before = length-join i d (λ t low high. sized t low (omega arith))

    length_part : length (f j) ≡ size
    length_part = sized j (omega arith) (omega arith)

    -- reading part j
    pub take-drop-join : take size (drop (d * size) (join (up_from f i c) ++ rest)) ≡ f j
    take-drop-join =
        rw (join_parted i c d j place inside f rest, drop_at before (f j ++ after) (d * size) length_before) (take_at (f j) after size length_part)

    -- replacing part j
    pub with_part-join : (x : List ℕ)
        → with_part (d * size) size x (join (up_from f i c) ++ rest) ≡ join (up_from (λ t. cond (eqb t j) x (f t)) i c) ++ rest
    with_part-join x =
        let g : ℕ → List ℕ = λ t. cond (eqb t j) x (f t) in
        let below : up_from g i d ≡ up_from f i d = up_from_cong g f i d (λ t low high. rw (ne_eqb t j (omega arith))) in
        let above : up_from g (suc j) (c - suc d) ≡ up_from f (suc j) (c - suc d) =
        up_from_cong g f (suc j) (c - suc d) (λ t low high. rw (ne_eqb t j (omega arith))) in
        let there : g j ≡ x = rw (eq-eqb j j refl) in
        let new : join (up_from g i c) ++ rest ≡ before ++ (x ++ after) = rw (below, above, there) at (join_parted i c d j place inside g rest) in
        let upper : drop (d * size + size) (before ++ (f j ++ after)) ≡ after =
        rw (← append_assoc before (f j) after) (drop_at (before ++ f j) after (d * size + size) (simp length-append (omega (arith, length_before, length_part)))) in
        rw (join_parted i c d j place inside f rest, take_at before (f j ++ after) (d * size) length_before, upper) (sym new)

-- consecutive parts of any words, joined
pub join_consecutive : (size start : ℕ) (ws : List ℕ) (i c : ℕ)
    → join (up_from (λ j. take size (drop (start + j * size) ws)) i c) ≡ take (c * size) (drop (start + i * size) ws)
join_consecutive size start ws i zero = rw zero-mul
join_consecutive size start ws i (suc c) =
    let next : start + suc i * size ≡ start + i * size + size = omega (arith, suc-mul i size) in
    let count : suc c * size ≡ size + c * size = omega (arith, suc-mul c size) in
    rw (join_consecutive size start ws (suc i) c, next, count, take-add size (c * size)) (rw drop-drop)

-- a stretch of words, one by one
pub take_up_from : (ws : List ℕ) (i c : ℕ) → i + c ≤ length ws → take c (drop i ws) ≡ up_from (λ j. get_or ws j 0) i c
take_up_from ws i zero h = refl
take_up_from ws i (suc c) h = rw (drop-cons ws i 0 (omega arith)) (ap (λ (z : List ℕ). get_or ws i 0 ∷ z) (take_up_from ws (suc i) c (omega arith)))

-- ---- replacing one part of any words

-- the first word after i words
get_or-first : (i : ℕ) (ws : List ℕ) (d : ℕ) → get_or (drop i ws) 0 d ≡ get_or ws i d
get_or-first i ws d = rw add-zero at (get_or-drop i ws 0 d)

-- the last m of the first b + m words
drop-take : (b m : ℕ) (ws : List ℕ) → b ≤ length ws → drop b (take (b + m) ws) ≡ take m (drop b ws)
drop-take b m ws h = rw (take-add b m ws) (drop_at (take b ws) (take m (drop b ws)) b (length-take-le b ws h))

module _ (a n : ℕ) (x ws : List ℕ) (fits : a + n ≤ length ws) (size : length x ≡ n) where
  length_low : length (take a ws) ≡ a
  length_low = length-take-le a ws (omega arith)

  -- the number of words stays
  pub length-with_part : length (with_part a n x ws) ≡ length ws
  length-with_part = simp (length-append, length-drop) (omega (arith, length_low))

  -- the new part is there
  pub take-drop-with_part : take n (drop a (with_part a n x ws)) ≡ x
  take-drop-with_part = rw (drop_at (take a ws) (x ++ drop (a + n) ws) a length_low) (take_at x (drop (a + n) ws) n size)

  -- what is below and above it stays
  take-with_part : (b : ℕ) → b ≤ a → take b (with_part a n x ws) ≡ take b ws
  take-with_part b low =
      take-append-le b (take a ws) (x ++ drop (a + n) ws) (omega (arith, length_low)) ∙ take-take b a ws low

  drop-with_part : (b : ℕ) → a + n ≤ b → drop b (with_part a n x ws) ≡ drop b ws
  drop-with_part b high =
      let place : b ≡ a + n + (b - (a + n)) = omega arith in
      let p : List ℕ = take a ws ++ x in
      let above : drop (a + n) (with_part a n x ws) ≡ drop (a + n) ws =
      rw (← append_assoc (take a ws) x (drop (a + n) ws)) (drop_at p (drop (a + n) ws) (a + n) (simp length-append (omega (arith, length_low)))) in
      rw (place, ← drop-drop (b - (a + n)) (a + n) (with_part a n x ws), above) (drop-drop (b - (a + n)) (a + n) ws)

  -- a word below or above it stays
  pub get_or-with_part-below : (i d : ℕ) → i < a → get_or (with_part a n x ws) i d ≡ get_or ws i d
  get_or-with_part-below i d low =
      sym (get_or-take (suc i) (with_part a n x ws) i d (omega arith)) ∙ ap (λ (z : List ℕ). get_or z i d) (take-with_part (suc i) low) ∙ get_or-take (suc i) ws i d (omega arith)

  pub get_or-with_part-above : (i d : ℕ) → a + n ≤ i → get_or (with_part a n x ws) i d ≡ get_or ws i d
  get_or-with_part-above i d high =
      sym (get_or-first i (with_part a n x ws) d) ∙ ap (λ (z : List ℕ). get_or z 0 d) (drop-with_part i high) ∙ get_or-first i ws d

  -- another part stays
  part-below : (b m : ℕ) → b + m ≤ a → take m (drop b (with_part a n x ws)) ≡ take m (drop b ws)
  part-below b m low =
      sym (drop-take b m (with_part a n x ws) (omega (arith, length-with_part))) ∙ ap (drop b) (take-with_part (b + m) low) ∙ drop-take b m ws (omega arith)

  pub part-with_part : (b m : ℕ) → (b + m ≤ a) ⊎ (a + n ≤ b) → take m (drop b (with_part a n x ws)) ≡ take m (drop b ws)
  part-with_part b m = ⊎_elim (part-below b m) (λ high. ap (take m) (drop-with_part b high))

-- ---- places of parts of one size

-- a part ends where the next one starts, or before a later one
pub place_next : (base size i j : ℕ) → i < j → base + i * size + size ≤ base + j * size
place_next base size i j h = omega (arith, mul-le-mul_right {m = suc i} {n = j} size h, suc-mul i size)

-- two parts do not overlap
pub places_apart : (base size i j : ℕ) → i ≢ j → (base + i * size + size ≤ base + j * size) ⊎ (base + j * size + size ≤ base + i * size)
places_apart base size i j apart = ⊎_map (place_next base size i j) (λ g. place_next base size j i (omega arith)) (lt_or_ge i j)
