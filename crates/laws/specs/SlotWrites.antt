-- Moving words up or down by one slot, and storing the words of one slot: what the loops and stores of the code leave. Rests on lists alone.
use Rattle.std.specs.Prelude.{◌≡◌, set}
use Rattle.std.proofs.Math.Path.{ap}
use Rattle.std.proofs.Common.{◌∙◌, add-zero, length-set, take-suc, drop-cons}
use mathlib.Core.List.{List, ◌++◌, append_assoc}
use Prim.Native.Nat.{ℕ, suc, ◌+◌, ◌-◌, ◌≤◌, ◌<◌}
use Rattle.std.proofs.Math.Numerals.{add-one, add-two}
use native.Mathlib.Omega.{arith}
use Rattle.std.proofs.Math.ListN.{length, get_or, take, drop, length-drop, get_or-append}
use Rattle.std.proofs.Math.Seq.{paste, paste-suc, paste-zero, length_paste_head, length-take-le, get_or-take, get_or-drop, get_or-append-add, drop_at, take-append-le, take-take, drop-drop, take-paste, drop-paste}
use Rattle.std.proofs.lemmas.List.Edits.{length-paste, sets-eq}
use Rattle.std.proofs.lemmas.List.{set_at}
use Rattle.shape.specs.Layout.{slot_len}
use Rattle.model.specs.Level.{Bucket}
use Rattle.model.specs.Words.{slot_words}

-- m words, from a on, moved up by one slot
unfoldable pub raise : List ℕ → ℕ → ℕ → List ℕ
raise ws a m = paste ws (a + slot_len) (drop a ws) m

-- m words, from one slot after a on, moved down by one slot
unfoldable pub lower : List ℕ → ℕ → ℕ → List ℕ
lower ws a m = paste ws a (drop (a + slot_len) ws) m

-- storing the words of a bucket from a on
unfoldable pub put_slot : List ℕ → ℕ → Bucket → List ℕ
put_slot ws a b = set (set (set ws a b.offset) (a + 1) b.width) (a + 2) b.weight

-- what the three stores leave
put_slot-is : (ws : List ℕ) (a : ℕ) (b : Bucket) → a + slot_len ≤ length ws → put_slot ws a b ≡ take a ws ++ slot_words b ++ drop (a + slot_len) ws
unfolding put_slot
put_slot-is ws a b h = rw (add-one a, add-two a) (sets-eq (slot_words b) ws a h)

-- the number of words stays
pub length-put_slot : (ws : List ℕ) (a : ℕ) (b : Bucket) → length (put_slot ws a b) ≡ length ws
unfolding put_slot
length-put_slot ws a b = simp length-set

-- ---- the loop that lowers: i words are moved

-- where the loop starts
pub lower-none : (ws : List ℕ) (a : ℕ) → ws ≡ lower ws a 0
unfolding lower
lower-none ws a = paste-zero ws a (drop (a + slot_len) ws)

-- the number of words stays
length-lower : (ws : List ℕ) (a m : ℕ) → a + slot_len + m ≤ length ws → length (lower ws a m) ≡ length ws
unfolding lower
length-lower ws a m h = length-paste ws a (drop (a + slot_len) ws) m (omega arith) (simp length-drop (omega arith))

module _ (ws : List ℕ) (a i : ℕ) (h : a + slot_len + i < length ws) where
  -- the word to move has not changed yet
  lower_read : get_or (lower ws a i) (a + slot_len + i) 0 ≡ get_or (drop (a + slot_len) ws) i 0
  unfolding lower
  lower_read =
      let moved : List ℕ = take a ws ++ take i (drop (a + slot_len) ws) in
      let e : length moved ≡ a + i = length_paste_head ws a (drop (a + slot_len) ws) i (omega arith) (simp length-drop (omega arith)) in
      let p : a + slot_len + i ≡ length moved + slot_len = omega arith in
      rw (p, get_or-append-add, get_or-drop (a + i) ws 3 0, get_or-drop (a + slot_len) ws i 0) (ap (λ (z : ℕ). get_or ws z 0) {x = a + i + 3} {y = a + slot_len + i} (omega arith))

  -- one turn of the loop
  pub lower-more : set (lower ws a i) (a + i) (get_or (lower ws a i) (a + slot_len + i) 0) ≡ lower ws a (i + 1)
  unfolding lower
  lower-more =
      rw (lower_read, add-one i) (paste-suc ws a (drop (a + slot_len) ws) i 0 (omega arith) (simp length-drop (omega arith)))

-- ---- the loop that raises: i words are left to move

-- all but the lowest i of m words, from a on, moved up by one slot
unfoldable pub raised_from : List ℕ → ℕ → ℕ → ℕ → List ℕ
raised_from ws a m i = raise ws (a + i) (m - i)

-- where the loop starts
pub raise-none : (ws : List ℕ) (a m : ℕ) → ws ≡ raised_from ws a m m
unfolding raised_from raise
raise-none ws a m = let e : m - m ≡ 0 = omega arith in rw e (paste-zero ws (a + m + slot_len) (drop (a + m) ws))

-- where the loop ends
pub raise_all : (ws : List ℕ) (a m : ℕ) → raised_from ws a m 0 ≡ raise ws a m
unfolding raised_from
raise_all ws a m = let e : m - 0 ≡ m = omega arith in rw (e, add-zero)

-- the number of words stays
length-raise : (ws : List ℕ) (a m : ℕ) → a + slot_len + m ≤ length ws → length (raise ws a m) ≡ length ws
unfolding raise
length-raise ws a m h = length-paste ws (a + slot_len) (drop a ws) m h (simp length-drop (omega arith))

-- storing the word before pasted words makes them one word longer
paste_back : (ws rest : List ℕ) (a m : ℕ) → a + slot_len < length ws
    → set (take (suc (a + slot_len)) ws ++ take m (drop (suc a) ws) ++ rest) (a + slot_len) (get_or ws a 0) ≡ take (a + slot_len) ws ++ take (suc m) (drop a ws) ++ rest
paste_back ws rest a m h =
    let front : List ℕ = take (a + slot_len) ws in
    let moved : List ℕ = take m (drop (suc a) ws) in
    let low : a < length ws = omega arith in
    rw (take-suc ws (a + slot_len) 0 h, drop-cons ws a 0 low)
    (simp append_assoc (set_at front (get_or ws (a + slot_len) 0) (moved ++ rest) (get_or ws a 0) (a + slot_len) (length-take-le (a + slot_len) ws (omega arith))))

module _ (ws : List ℕ) (a m i : ℕ) (h : a + slot_len + m ≤ length ws) (l : i < m) where
  -- the word at a + i has not changed yet
  raise_read : get_or (raised_from ws a m (i + 1)) (a + i) 0 ≡ get_or ws (a + i) 0
  unfolding raised_from raise
  raise_read =
      let front : List ℕ = take (a + (i + 1) + slot_len) ws in
      let e : length front ≡ a + (i + 1) + slot_len = length-take-le (a + (i + 1) + slot_len) ws (omega arith) in
      let inside : a + i < length front = omega arith in
      rw (append_assoc front) (get_or-append front _ 0 (a + i) inside ∙ get_or-take (a + (i + 1) + slot_len) ws (a + i) 0 (omega arith))

  -- one turn of the loop
  pub raise-more : set (raised_from ws a m (i + 1)) (a + slot_len + i) (get_or (raised_from ws a m (i + 1)) (a + i) 0) ≡ raised_from ws a m i
  unfolding raised_from raise
  raise-more =
      let e1 : a + (i + 1) + slot_len ≡ suc (a + i + slot_len) = omega arith in
      let e2 : a + (i + 1) ≡ suc (a + i) = omega arith in
      let e3 : a + slot_len + i ≡ a + i + slot_len = omega arith in
      let e4 : m - i ≡ suc (m - (i + 1)) = omega arith in
      let e5 : a + (i + 1) + slot_len + (m - (i + 1)) ≡ a + i + slot_len + (m - i) = omega arith in
      ap (set (raised_from ws a m (i + 1)) (a + slot_len + i)) raise_read
      ∙ rw (e5, e1, e2, e3, e4) (paste_back ws (drop (a + i + slot_len + suc (m - (i + 1))) ws) (a + i) (m - (i + 1)) (omega arith))

-- ---- storing a slot where words moved away

module _ (ws : List ℕ) (a m : ℕ) (b : Bucket) (h : a + slot_len + m ≤ length ws) where
  -- into the gap after moving up
  pub put_slot-raise : put_slot (raise ws a m) a b ≡ take a ws ++ (slot_words b ++ (take m (drop a ws) ++ drop (a + slot_len + m) ws))
  unfolding raise
  put_slot-raise =
      let front : List ℕ = take (a + slot_len) ws in
      let rest : List ℕ = take m (drop a ws) ++ drop (a + slot_len + m) ws in
      let size : length front ≡ a + slot_len = length-take-le (a + slot_len) ws (omega arith) in
      let parts : raise ws a m ≡ front ++ rest = append_assoc front (take m (drop a ws)) (drop (a + slot_len + m) ws) in
      let below : take a (front ++ rest) ≡ take a ws = take-append-le a front rest (omega arith) ∙ take-take a (a + slot_len) ws (omega arith) in
      put_slot-is (raise ws a m) a b (omega (arith, length-raise ws a m h))
      ∙ rw (parts, below, drop_at front rest (a + slot_len) size) (append_assoc (take a ws) (slot_words b) rest)

  -- after the words that moved down
  pub put_slot-lower : put_slot (lower ws a m) (a + m) b ≡ take a ws ++ (take m (drop (a + slot_len) ws) ++ (slot_words b ++ drop (a + m + slot_len) ws))
  unfolding lower
  put_slot-lower =
      let moved : List ℕ = drop (a + slot_len) ws in
      let size : m ≤ length moved = simp length-drop (omega arith) in
      let above : drop (a + m + slot_len) (lower ws a m) ≡ drop (a + m + slot_len) ws =
      rw (← drop-drop 3 (a + m) (lower ws a m), drop-paste ws a moved m (omega arith) size) (drop-drop 3 (a + m) ws) in
      put_slot-is (lower ws a m) (a + m) b (omega (arith, length-lower ws a m h))
      ∙ rw (above, take-paste ws a moved m (omega arith) size) (simp append_assoc)
