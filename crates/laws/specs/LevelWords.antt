-- A level and its words: decoding and encoding are inverse, and the words are sound exactly if the level is. Rests on lists alone.
use Rattle.std.specs.Prelude.{Bool, true, ◌&&◌, ◌≡◌, refl, List, [], ◌∷◌, ◌++◌, map, ℕ, zero, suc, ◌+◌, ◌-◌, ◌*◌, ◌≤◌, ◌<◌, leb, ltb, eqb, length, get_or, drop, replicate}
use Rattle.std.proofs.Common.{sym, ap, ◌∙◌, append_assoc, add-zero, arith, length-append, length-drop, get_or-append-add, drop-cons, drop_at, eqb-true, leb-true}
use Rattle.std.proofs.Math.Nat.{sub-zero}
use Rattle.std.proofs.lemmas.List.{length-replicate}
use Rattle.std.proofs.Math.Seq.{get_or-append_seam}
use Rattle.shape.specs.declared.Shape.{Shape}
use Rattle.shape.specs.Layout.{slot_len, slot_start, level_words}
use Rattle.shape.specs.LimitsLaws.{both}
use Rattle.model.specs.Level.{Bucket, Level, level_of}
use Rattle.model.specs.Words.{slot, slots, decode_level, encode_level, slot_words, join}
use Rattle.model.specs.Sound.{implies, zeros, weight_of, sound_buckets, sound_level}

-- the words of the slots of some buckets
abbrev pub flat : List Bucket → List ℕ
flat bs = join (map slot_words bs)

-- the words of the slots that are not used
abbrev pub blank : ℕ → ℕ → List ℕ
blank n count = replicate (slot_len * (n - count)) 0

-- three words to a bucket
pub length-flat : (bs : List Bucket) → length (flat bs) ≡ slot_len * length bs
length-flat [] = refl
length-flat (b ∷ bs) = omega (arith, length-flat bs)

-- the words of two lists of buckets are those of one, then those of the other
pub flat_append : (cs bs : List Bucket) → flat (cs ++ bs) ≡ flat cs ++ flat bs
flat_append [] bs = refl
flat_append (c ∷ cs) bs = ap (λ (z : List ℕ). slot_words c ++ z) (flat_append cs bs)

-- ---- slots one by one, as the loops read them

-- one slot, then the rest up to slot c
pub slots_step : (ws : List ℕ) (j c : ℕ) → j < c → slots ws j (c - j) ≡ slot ws j ∷ slots ws (j + 1) (c - (j + 1))
slots_step ws j c h = ap (slots ws j) {x = c - j} {y = suc (c - (j + 1))} (omega arith)

-- no slot is left
pub slots-none : (ws : List ℕ) (j c : ℕ) → c ≤ j → slots ws j (c - j) ≡ []
slots-none ws j c h = ap (slots ws j) {x = c - j} {y = 0} (omega arith)

-- at the start of a loop all slots are left
pub slots_all : (ws : List ℕ) (c : ℕ) → slots ws 0 (c - 0) ≡ slots ws 0 c
slots_all ws c = ap (slots ws 0) (sub-zero c)

-- there are as many buckets as slots
pub length-slots : (ws : List ℕ) (j c : ℕ) → length (slots ws j c) ≡ c
length-slots ws j zero = refl
length-slots ws j (suc c) = ap suc (length-slots ws (j + 1) c)

-- reading a slot whose words are at its place
pub slot_at : (u v : List ℕ) (b : Bucket) (j : ℕ) → length u ≡ slot_start j → slot (u ++ (slot_words b ++ v)) j ≡ b
slot_at u v b j h = rw (← h) (simp (get_or-append_seam, get_or-append-add))

-- reading slots whose words are at their places
slots-flat : (bs : List Bucket) (u v : List ℕ) (j : ℕ) → length u ≡ slot_start j → slots (u ++ (flat bs ++ v)) j (length bs) ≡ bs
slots-flat [] u v j h = refl
slots-flat (b ∷ bs) u v j h =
    let e : slots ((u ++ slot_words b) ++ (flat bs ++ v)) (j + 1) (length bs) ≡ bs =
    slots-flat bs (u ++ slot_words b) v (j + 1) (simp length-append (omega arith)) in
    let rest : slots (u ++ (slot_words b ++ (flat bs ++ v))) (j + 1) (length bs) ≡ bs = rw (← append_assoc u (slot_words b) (flat bs ++ v)) e in
    let first : slot (u ++ (slot_words b ++ (flat bs ++ v))) j ≡ b = slot_at u (flat bs ++ v) b j h in
    ap (λ (x : Bucket). x ∷ slots (u ++ (slot_words b ++ (flat bs ++ v))) (j + 1) (length bs)) first ∙ ap (λ (xs : List Bucket). b ∷ xs) rest

-- ---- encoding, then decoding

-- decoding gives the level back
pub decode_encode : (n : ℕ) (l : Level) → decode_level (encode_level n l) ≡ l
unfolding decode_level encode_level
decode_encode n l =
    ap (level_of l.first) (slots-flat l.buckets (length l.buckets ∷ l.first ∷ []) (blank n (length l.buckets)) 0 refl)

-- an encoded level has the length of the layout
pub length_encode : (n : ℕ) (l : Level) → length l.buckets ≤ n → length (encode_level n l) ≡ slot_start n
unfolding encode_level
length_encode n l h = simp (length-append, length-replicate, length-flat) (omega arith)

-- ---- decoding, then encoding

-- zeros pass the test for zeros
zeros-replicate : (c : ℕ) → zeros (replicate c 0) ≡ true
zeros-replicate zero = refl
zeros-replicate (suc c) = zeros-replicate c

-- words that pass the test for zeros are zeros
replicate-zeros : (ws : List ℕ) → zeros ws ≡ true → ws ≡ replicate (length ws) 0
replicate-zeros [] h = refl
replicate-zeros (w ∷ ws) h =
    let parts : (eqb w 0 ≡ true) × (zeros ws ≡ true) = both h in
    let e : w ≡ 0 = eqb-true w 0 parts.0 in
    rw e (ap (λ (z : List ℕ). 0 ∷ z) (replicate-zeros ws parts.1))

-- words are their first two and the rest
pub first_two : (ws : List ℕ) → 2 ≤ length ws → ws ≡ get_or ws 0 0 ∷ get_or ws 1 0 ∷ drop 2 ws
first_two ws h = drop-cons ws 0 0 (omega arith) ∙ ap (λ (z : List ℕ). get_or ws 0 0 ∷ z) (drop-cons ws 1 0 (omega arith))

-- the words from slot j on are slot j's and those from the next on
drop-slot : (ws : List ℕ) (j : ℕ) → slot_start (j + 1) ≤ length ws → drop (slot_start j) ws ≡ slot_words (slot ws j) ++ drop (slot_start (j + 1)) ws
drop-slot ws j h =
    let width : slot_start j + 1 ≡ suc (slot_start j) = omega arith in
    let weight : slot_start j + 2 ≡ suc (suc (slot_start j)) = omega arith in
    let next : slot_start (j + 1) ≡ suc (suc (suc (slot_start j))) = omega arith in
    rw (
      next,
      width,
      weight,
      drop-cons ws (slot_start j) 0 (omega arith),
      drop-cons ws (suc (slot_start j)) 0 (omega arith),
      drop-cons ws (suc (suc (slot_start j))) 0 (omega arith),
    )

-- the words of c slots from slot j on, and the words after them
flat-slots : (ws : List ℕ) (j c : ℕ) → slot_start (j + c) ≤ length ws → flat (slots ws j c) ++ drop (slot_start (j + c)) ws ≡ drop (slot_start j) ws
flat-slots ws j zero h = rw add-zero
flat-slots ws j (suc c) h =
    let e : j + suc c ≡ j + 1 + c = omega arith in
    rw (e, drop-slot ws j (omega arith)) (ap (λ (z : List ℕ). slot_words (slot ws j) ++ z) (flat-slots ws (j + 1) c (omega arith)))

-- encoding gives words back if their count is at most n and their unused slots are zero
encode_decode : (n : ℕ) (ws : List ℕ) → length ws ≡ slot_start n → get_or ws 0 0 ≤ n → zeros (drop (slot_start (get_or ws 0 0)) ws) ≡ true
    → encode_level n (decode_level ws) ≡ ws
unfolding encode_level decode_level
encode_decode n ws size few unused =
    let c : ℕ = get_or ws 0 0 in
    let left : length (drop (slot_start c) ws) ≡ slot_len * (n - c) = simp length-drop (omega arith) in
    let rest : blank n c ≡ drop (slot_start c) ws = sym (replicate-zeros (drop (slot_start c) ws) unused ∙ ap (λ (z : ℕ). replicate z 0) left) in
    let c_is : 0 + c ≡ c = omega arith in
    let body : flat (slots ws 0 c) ++ drop (slot_start c) ws ≡ drop 2 ws = rw c_is at (flat-slots ws 0 c (omega arith)) in
    rw (length-slots ws 0 c, rest, body) (sym (first_two ws (omega arith)))

-- ---- the words of a level are sound exactly if the level is

-- what `sound_level` asks of the level that the words stand for
abbrev pub sound_content : Shape → ℕ → ℕ → Level → Bool
sound_content s i total l =
    let bs = l.buckets in
    let first = l.first in
    leb (length bs) s.n && (leb (weight_of bs) total && (implies (eqb first 0) (eqb (weight_of bs) total)
    && (implies (ltb 0 first) (eqb (length bs) s.n) && sound_buckets s.k i first bs)))

-- the unused slots of encoded words are zero
encode_unused : (n : ℕ) (l : Level) → zeros (drop (slot_start (get_or (encode_level n l) 0 0)) (encode_level n l)) ≡ true
unfolding encode_level
encode_unused n l =
    let c : ℕ = length l.buckets in
    let e : length (c ∷ l.first ∷ flat l.buckets) ≡ slot_start c = omega (arith, length-flat l.buckets) in
    rw (drop_at (c ∷ l.first ∷ flat l.buckets) (blank n c) (slot_start c) e) (zeros-replicate (slot_len * (n - c)))

module _ (s : Shape) (i total : ℕ) where
  -- if the unused slots are zero, the rest of the test is about the level
  sound_level-content : (ws : List ℕ) → zeros (drop (slot_start (get_or ws 0 0)) ws) ≡ true → sound_level s i total ws ≡ sound_content s i total (decode_level ws)
  unfolding sound_level decode_level
  sound_level-content ws unused = rw (unused, length-slots ws 0 (get_or ws 0 0))

  -- the words of a level are sound exactly if the level is
  pub sound_level_encode : (l : Level) → sound_level s i total (encode_level s.n l) ≡ sound_content s i total l
  sound_level_encode l =
      sound_level-content (encode_level s.n l) (encode_unused s.n l) ∙ ap (sound_content s i total) (decode_encode s.n l)

  module _ (ws : List ℕ) (sound : sound_level s i total ws ≡ true) where
    -- the count is at most n, and the unused slots are zero
    sound_count : (get_or ws 0 0 ≤ s.n) × (zeros (drop (slot_start (get_or ws 0 0)) ws) ≡ true)
    unfolding sound_level
    sound_count =
        let few_rest = both sound in
        let zeros_rest = both few_rest.1 in
        (leb-true (get_or ws 0 0) s.n few_rest.0, zeros_rest.0)

    -- sound words stand for a sound level
    pub sound_level_decode : sound_content s i total (decode_level ws) ≡ true
    sound_level_decode = sym (sound_level-content ws sound_count.1) ∙ sound

    -- encoding gives sound words back
    pub encode_decode_sound : length ws ≡ level_words s → encode_level s.n (decode_level ws) ≡ ws
    encode_decode_sound size = encode_decode s.n ws size sound_count.0 sound_count.1
