-- What stores and moves of words do to the words of a level: replacing a field, putting a bucket in, taking the lowest bucket out. Rests on
-- the codec of a level and on moved words.
use Rattle.std.specs.Prelude.{◌≡◌, List, [], ◌∷◌, ◌++◌, ℕ, suc, ◌+◌, ◌-◌, ◌*◌, ◌≤◌, length, get_or, drop, set, replicate}
use Rattle.std.proofs.Math.Path.{refl}
use Rattle.std.proofs.Common.{sym, ap, ◌∙◌, append_assoc, add-zero, zero-add, suc-add, arith, length-append, take_at, drop_at}
use Rattle.shape.specs.Layout.{level_head_len, slot_len, slot_start}
use Rattle.model.specs.Level.{Bucket, Level, bucket_of, level_of}
use Rattle.model.specs.Words.{slot, encode_level, slot_words}
use Rattle.laws.specs.LevelWords.{flat, blank, length-flat, flat_append, slot_at}
use Rattle.laws.specs.SlotWrites.{raise, lower, put_slot, put_slot-raise, put_slot-lower}

-- a store into the second of two lists
set_append_add : (u ws : List ℕ) (i v : ℕ) → set (u ++ ws) (length u + i) v ≡ u ++ set ws i v
set_append_add [] ws i v = rw zero-add
set_append_add (x ∷ u) ws i v = rw (suc-add (length u) i) (ap (λ (z : List ℕ). x ∷ z) (set_append_add u ws i v))

-- the words of a level before the slot that comes after the buckets `before`
abbrev lead : ℕ → ℕ → List Bucket → List ℕ
lead count f before = count ∷ f ∷ flat before

-- the words of a level, cut between two lists of buckets
encode_append : (n f : ℕ) (before after : List Bucket)
    → encode_level n (level_of f (before ++ after))
    ≡ lead (length before + length after) f before ++ (flat after ++ blank n (length before + length after))
unfolding encode_level
encode_append n f before after = rw (length-append before after, flat_append before after) (simp append_assoc)

-- ---- count and first

module _ (n : ℕ) (l : Level) where
  -- reading the count
  pub get_or_count : get_or (encode_level n l) 0 0 ≡ length l.buckets
  unfolding encode_level
  get_or_count = refl

  -- writing F
  pub set_first : (v : ℕ) → set (encode_level n l) 1 v ≡ encode_level n (level_of v l.buckets)
  unfolding encode_level
  set_first v = refl

-- ---- the bucket of slot j

module _ (n f : ℕ) (before after : List Bucket) where
  -- the words of a level with bucket b between two lists
  abbrev words_with : Bucket → List ℕ
  words_with b = encode_level n (level_of f (before ++ (b ∷ after)))

  module _ (j : ℕ) (place : length before ≡ j) where
    -- reading slot j
    pub slot_encode : (b : Bucket) → slot (words_with b) j ≡ b
    slot_encode b =
        rw (encode_append n f before (b ∷ after)) (slot_at (lead _ f before) (flat after ++ blank n _) b j (omega (arith, length-flat before)))

    -- a store within slot j
    set-slot : (i v : ℕ) (b c : Bucket) → ((rest : List ℕ) → set (slot_words b ++ rest) i v ≡ slot_words c ++ rest)
        → set (words_with b) (slot_start j + i) v ≡ words_with c
    set-slot i v b c stored =
        let count : ℕ = length before + suc (length after) in
        let u : List ℕ = lead count f before in
        let rest : List ℕ = flat after ++ blank n count in
        let e : slot_start j ≡ length u = omega (arith, length-flat before) in
        rw (encode_append n f before (b ∷ after), e, set_append_add u (slot_words b ++ rest) i v, stored rest) (sym (encode_append n f before (c ∷ after)))

    -- writing one field of slot j
    set_offset : (b : Bucket) (v : ℕ) → set (words_with b) (slot_start j) v ≡ words_with (bucket_of v b.width b.weight)
    set_offset b v = rw add-zero at (set-slot 0 v b (bucket_of v b.width b.weight) (λ rest. refl))

    set_width : (b : Bucket) (v : ℕ) → set (words_with b) (slot_start j + 1) v ≡ words_with (bucket_of b.offset v b.weight)
    set_width b v = set-slot 1 v b (bucket_of b.offset v b.weight) (λ rest. refl)

    pub set_weight : (b : Bucket) (v : ℕ) → set (words_with b) (slot_start j + 2) v ≡ words_with (bucket_of b.offset b.width v)
    set_weight b v = set-slot 2 v b (bucket_of b.offset b.width v) (λ rest. refl)

    -- writing all three words
    pub put_slot_encode : (b c : Bucket) → put_slot (words_with b) (slot_start j) c ≡ words_with c
    unfolding put_slot
    put_slot_encode b c =
        rw (set_offset b c.offset, set_width (bucket_of c.offset b.width b.weight) c.width) (set_weight (bucket_of c.offset c.width b.weight) c.weight)

    -- putting a bucket into slot j of a level that is not full: the slots from j on move up by one, and the count rises
    pub insert_encode : (b : Bucket) (m count : ℕ) → slot_len * length after ≡ m → suc (length before + length after) ≡ count → count ≤ n
        → set (put_slot (raise (encode_level n (level_of f (before ++ after))) (slot_start j) m) (slot_start j) b) 0 count ≡ words_with b
    insert_encode b m count moved one_more room =
        let old : ℕ = length before + length after in
        let a : ℕ = slot_start j in
        let u : List ℕ = lead old f before in
        let rest : List ℕ = blank n count in
        let free : List ℕ = 0 ∷ 0 ∷ 0 ∷ [] in
        let ws : List ℕ = u ++ (flat after ++ (free ++ rest)) in
        let unused : slot_len * (n - old) ≡ suc (suc (suc (slot_len * (n - count)))) = omega arith in
        let words : encode_level n (level_of f (before ++ after)) ≡ ws = encode_append n f before after ∙ ap (λ (z : ℕ). u ++ (flat after ++ replicate z 0)) unused in
        let start : length u ≡ a = omega (arith, length-flat before) in
        let size : length (flat after) ≡ m = omega (arith, length-flat after) in
        let upper : drop a ws ≡ flat after ++ (free ++ rest) = drop_at u (flat after ++ (free ++ rest)) a start in
        let end : length (u ++ (flat after ++ free)) ≡ a + slot_len + m = simp length-append (omega arith) in
        let regroup : ws ≡ (u ++ (flat after ++ free)) ++ rest = simp append_assoc in
        let top : drop (a + slot_len + m) ws ≡ rest = rw regroup (drop_at (u ++ (flat after ++ free)) rest (a + slot_len + m) end) in
        let fits : a + slot_len + m ≤ length ws = simp length-append (omega arith) in
        let count_is : length before + suc (length after) ≡ count = omega arith in
        let new : encode_level n (level_of f (before ++ (b ∷ after))) ≡ lead count f before ++ (slot_words b ++ (flat after ++ rest)) =
        rw count_is at (encode_append n f before (b ∷ after)) in
        rw (words, put_slot-raise ws a m b fits, top, upper, take_at u (flat after ++ (free ++ rest)) a start, take_at (flat after) (free ++ rest) m size) (sym new)

    -- putting a bucket into slot j after the lowest was taken out: the slots up to j move down by one, and the count stays
    pub shift_encode : (lowest b : Bucket) → put_slot (lower (encode_level n (level_of f (lowest ∷ (before ++ after)))) level_head_len (slot_len * j)) (slot_start j) b ≡ words_with b
    shift_encode lowest b =
        let count : ℕ = suc (length before) + length after in
        let u : List ℕ = lead count f (lowest ∷ before) in
        let rest : List ℕ = flat after ++ blank n count in
        let end : length u ≡ slot_start j + slot_len = omega (arith, length-flat before) in
        let size : length (flat before) ≡ slot_len * j = omega (arith, length-flat before) in
        let fits : level_head_len + slot_len + slot_len * j ≤ length (u ++ rest) = simp length-append (omega (arith, length-flat before)) in
        let count_is : length before + suc (length after) ≡ count = omega arith in
        rw (encode_append n f (lowest ∷ before) after, put_slot-lower (u ++ rest) level_head_len (slot_len * j) b fits, drop_at u rest (slot_start j + slot_len) end, take_at (flat before) rest (slot_len * j) size)
        (sym (rw count_is at (encode_append n f before (b ∷ after))))
