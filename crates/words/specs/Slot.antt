-- The bucket that a slot's words stand for, and the slots after one that was read. Assumes nothing.
use Rattle.std.specs.Prelude.{List, ◌∷◌, ◌≡◌, refl, map, ℕ, zero, suc, ◌+◌, ◌-◌, ◌*◌, ◌<◌, ◌≤◌, length, get_or, take, drop}
use Rattle.std.proofs.Common.{sym, ap, ◌∙◌, add-zero, arith, length-drop, take_all, get_or-drop, drop-drop}
use Rattle.std.specs.Simd.{first_chunks}
use Rattle.std.proofs.lemmas.List.{get_or-take}
use Rattle.shape.specs.Layout.{slot_len, slot_start}
use Rattle.model.specs.Level.{Bucket, bucket_of}
use Rattle.model.specs.Words.{slot, slots}
use Rattle.laws.specs.LevelWords.{slots_step}
use Rattle.words.specs.declared.Slot.{Slot}

abbrev pub content : Slot → Bucket
content b = bucket_of b.offset b.width b.weight

abbrev pub front : List ℕ → Bucket  -- the slot at the front of words
front ws = bucket_of (get_or ws 0 0) (get_or ws 1 0) (get_or ws 2 0)

pub cons_same : {b c : Bucket} {bs cs : List Bucket} → b ≡ c → bs ≡ cs → b ∷ bs ≡ c ∷ cs
cons_same {b} {c} {bs} {cs} p q = ap (λ (z : Bucket). z ∷ bs) p ∙ ap (λ (z : List Bucket). c ∷ z) q

-- the slot at the front is in the first three words
front-taken : (ws : List ℕ) → front (take slot_len ws) ≡ front ws
front-taken ws =
    rw (get_or-take 3 ws 0 0 (omega arith), get_or-take 3 ws 1 0 (omega arith), get_or-take 3 ws 2 0 (omega arith))

pub front-slot : (ws : List ℕ) (j : ℕ) → front (drop (slot_start j) ws) ≡ slot ws j
front-slot ws j = simp (get_or-drop, add-zero)

-- the first c of k chunks
pub chunks_taken : (n k c : ℕ) (ws : List ℕ) → c ≤ k → take c (first_chunks n k ws) ≡ first_chunks n c ws
chunks_taken n k zero ws h = refl
chunks_taken n zero (suc c) ws h = absurd (omega (arith, h))
chunks_taken n (suc k) (suc c) ws h = ap (λ (z : List (List ℕ)). take n ws ∷ z) (chunks_taken n k c (drop n ws) (omega (arith, h)))

-- as many chunks as were asked for
pub length-chunks : (n c : ℕ) (ws : List ℕ) → length (first_chunks n c ws) ≡ c
length-chunks n zero ws = refl
length-chunks n (suc c) ws = ap suc (length-chunks n c (drop n ws))

-- the first c chunks of three words from slot j on are the words of the slots
pub chunks-slots : (ws : List ℕ) (j c : ℕ) → map front (first_chunks slot_len c (drop (slot_start j) ws)) ≡ slots ws j c
chunks-slots ws j zero = refl
chunks-slots ws j (suc c) =
    let first : front (take 3 (drop (slot_start j) ws)) ≡ slot ws j = front-taken (drop (slot_start j) ws) ∙ front-slot ws j in
    let next : drop 3 (drop (slot_start j) ws) ≡ drop (slot_start (j + 1)) ws =
    drop-drop 3 (slot_start j) ws ∙ ap (λ (n : ℕ). drop n ws) {x = slot_start j + 3} {y = slot_start (j + 1)} (omega arith) in
    cons_same first (ap (λ (z : List ℕ). map front (first_chunks 3 c z)) next ∙ chunks-slots ws (j + 1) c)

-- a part of words that reaches to their end
pub part_all : (ws : List ℕ) (n : ℕ) → take (length ws - n) (drop n ws) ≡ drop n ws
part_all ws n = take_all (length ws - n) (drop n ws) (omega (arith, length-drop n ws))

-- words from `a` on, and n words further
pub part-past : (rest ws : List ℕ) (a n : ℕ) → rest ≡ drop a ws → take (length rest - n) (drop n rest) ≡ drop (a + n) ws
part-past rest ws a n e = part_all rest n ∙ ap (drop n) e ∙ drop-drop n a ws

-- after slot j, slot j + 1 is at the front
pub front-moved : (rest ws : List ℕ) (j : ℕ) → rest ≡ drop (slot_start j) ws → take (length rest - slot_len) (drop slot_len rest) ≡ drop (slot_start (j + 1)) ws
front-moved rest ws j e =
    part-past rest ws (slot_start j) 3 e ∙ ap (λ (n : ℕ). drop n ws) {x = slot_start j + 3} {y = slot_start (j + 1)} (omega arith)

-- the slot that starts n words after slot j
pub front_at : (ws rest : List ℕ) (j n m : ℕ) → rest ≡ drop (slot_start j) ws → n + slot_len * j ≡ slot_len * m → front (drop n rest) ≡ slot ws m
front_at ws rest j n m e h =
    ap (λ (z : List ℕ). front (drop n z)) e ∙ ap front (drop-drop n (slot_start j) ws)
    ∙ ap (λ (z : ℕ). front (drop z ws)) {x = slot_start j + n} {y = slot_start m} (omega (arith, h)) ∙ front-slot ws m

-- if b was read at slot j, the slots from j on are b and those after it
pub slots_read : (ws : List ℕ) (j c : ℕ) (b : Slot) → content b ≡ slot ws j → j < c
    → slots ws j (c - j) ≡ content b ∷ slots ws (j + 1) (c - (j + 1))
slots_read ws j c b read h = slots_step ws j c h ∙ ap (λ (z : Bucket). z ∷ slots ws (j + 1) (c - (j + 1))) (sym read)
