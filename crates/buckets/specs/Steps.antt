-- What putting a bucket in, and splitting one, require of the words and leave. Rests on the laws of one round.
use Rattle.std.specs.Prelude.{cond, List, [], ◌∷◌, ◌++◌, ◌≡◌, ℕ, suc, ◌+◌, ◌-◌, ◌*◌, ◌/◌, ◌^◌, ◌≤◌, ◌<◌, ltb, eqb, length, get_or, set}
use Rattle.std.specs.List.{copy_within}
use Rattle.std.proofs.Common.{ap, ◌∙◌, arith, lt-ltb, le-ltb, length-append, get_or-set_other}
use Rattle.shape.specs.Layout.{level_head_len, slot_len, slot_start}
use Rattle.model.specs.Level.{Bucket, bucket_of, level_of, evict}
use Rattle.model.specs.Words.{slot, encode_level}
use Rattle.laws.specs.Bucket.{halves}
use Rattle.laws.specs.SlotWrites.{raise, lower, put_slot, length-put_slot}
use Rattle.laws.specs.LevelWords.{length_encode}
use Rattle.laws.specs.LevelWrites.{put_slot_encode, shift_encode}
use Rattle.laws.specs.Evict.{head_offset, get_d_head, count_parts, Passed, put_room, put_lowest, put_shift}

-- the words of a level of n slots can take a bucket at slot j
pub record Takes (n j : ℕ) (ws : List ℕ) : Type 0 where
  pub size : length ws ≡ slot_start n
  pub some : 0 < n
  pub most : n ≤ 1024
  pub few : get_or ws 0 0 ≤ n
  pub inside : j ≤ get_or ws 0 0
  pub lowest : 0 < j → get_or ws 2 0 < 2 ^ 31

-- at slot j of level i the buckets `new` have taken the place of `old`, and the lowest was evicted if there was no room; `up` is the slot
-- after the first of the new ones
pub record Becomes (n i j : ℕ) (old new : List Bucket) (ws ws' : List ℕ) (up : ℕ) : Type 0 where
  pub slot-after : up ≡ cond (ltb (get_or ws 0 0) n) (j + 1) j
  pub words : (f : ℕ) (before after : List Bucket) → length before ≡ j → ws ≡ encode_level n (level_of f (before ++ (old ++ after)))
      → ws' ≡ encode_level n (evict n i f (before ++ (new ++ after)))

pub takes_at : (n f x : ℕ) (before after : List Bucket) (ws : List ℕ) (j : ℕ) → length before ≡ j → ws ≡ encode_level n (level_of f (before ++ after))
    → length (before ++ after) ≤ n → Passed x before → x < 2 ^ 31 → 0 < n → n ≤ 1024 → Takes n j ws
takes_at n f x before after ws j place held few passed small some most =
    let count = count_parts n f before after ws held in
    let all = length-append before after in
    let head : get_or ws 2 0 ≡ head_offset (before ++ after) = ap (λ (z : List ℕ). get_or z 2 0) held ∙ get_d_head n f (before ++ after) in
    record {
      size = ap length held ∙ length_encode n (level_of f (before ++ after)) few;
      some = some;
      most = most;
      few = omega arith;
      inside = omega arith;
      lowest = λ h. omega (arith, below before place passed h);
    }
  where
    below : (before : List Bucket) → length before ≡ j → Passed x before → 0 < j → head_offset (before ++ after) ≤ x
    below [] place passed h = absurd (omega arith)
    below (c ∷ before) place passed h = omega (arith, passed.0)

-- ---- slots moved by one

-- what `copy_within` leaves is what the laws say of the slots from j to `count` moved up
pub raised : (ws : List ℕ) (j count : ℕ) → copy_within ws (slot_start j) (slot_start count) (slot_start (j + 1)) ≡ raise ws (slot_start j) (slot_len * (count - j))
unfolding raise
raised ws j count =
    let to : slot_start (j + 1) ≡ slot_start j + slot_len = omega arith in
    let size : slot_start count - slot_start j ≡ slot_len * (count - j) = omega arith in
    rw (to, size)

-- and of the slots from 1 to j moved down
pub lowered : (ws : List ℕ) (j : ℕ) → copy_within ws (slot_start 1) (slot_start (j + 1)) (slot_start 0) ≡ lower ws level_head_len (slot_len * j)
unfolding lower
lowered ws j = let size : slot_start (j + 1) - slot_start 1 ≡ slot_len * j = omega arith in rw size

-- ---- a bucket put in

module _ {n j : ℕ} {ws : List ℕ} (t : Takes n j ws) (i : ℕ) (b : Bucket) where
  pub put_in_room : get_or ws 0 0 < n
      → Becomes n i j [] (b ∷ []) ws (set (put_slot (raise ws (slot_start j) (slot_len * (get_or ws 0 0 - j))) (slot_start j) b) 0 (get_or ws 0 0 + 1)) (j + 1)
  put_in_room room = record {
    slot-after = rw (lt-ltb (get_or ws 0 0) n room);
    words = λ f before after place held.
        let count = get_or ws 0 0 in
        ap (λ (z : List ℕ). set (put_slot (raise z (slot_start j) (slot_len * (count - j))) (slot_start j) b) 0 (count + 1)) held
        ∙ put_room n i f b after before j count place (count_parts n f before after ws held) room;
  }

  module _ (none : n ≤ get_or ws 0 0) where
    pub put_in_lowest : j ≡ 0 → (0 < i → j < get_or ws 0 0)
        → Becomes n i j [] (b ∷ []) ws (set ws 1 (cond (eqb i 0) (b.offset + 1) (get_or ws 2 0))) j
    put_in_lowest first some = record { slot-after = rw (le-ltb (get_or ws 0 0) n none); words = λ f before after. leaves f after before }
      where
        leaves : (f : ℕ) (after before : List Bucket) → length before ≡ j → ws ≡ encode_level n (level_of f (before ++ after))
            → set ws 1 (cond (eqb i 0) (b.offset + 1) (get_or ws 2 0)) ≡ encode_level n (evict n i f (before ++ b ∷ after))
        leaves f after [] place held =
            let count = count_parts n f [] after ws held in
            let full : length after ≡ n = omega (arith, t.few) in
            let next : get_or ws 2 0 ≡ head_offset after = ap (λ (z : List ℕ). get_or z 2 0) held ∙ get_d_head n f after in
            rw (next, held) (put_lowest n i f b after full (λ h. omega (arith, some h)))
        leaves f after (c ∷ before) place held = absurd (omega arith)

    pub put_in_shifted : 0 < j → {ws' : List ℕ} → ws' ≡ put_slot (lower ws level_head_len (slot_len * (j - 1))) (slot_start (j - 1)) b
        → Becomes n i j [] (b ∷ []) ws (set ws' 1 (cond (eqb i 0) (get_or ws 2 0 + 1) (get_or ws' 2 0))) j
    put_in_shifted past {ws'} shifted = record { slot-after = rw (le-ltb (get_or ws 0 0) n none); words = λ f before after. leaves f after before }
      where
        leaves : (f : ℕ) (after before : List Bucket) → length before ≡ j → ws ≡ encode_level n (level_of f (before ++ after))
            → set ws' 1 (cond (eqb i 0) (get_or ws 2 0 + 1) (get_or ws' 2 0)) ≡ encode_level n (evict n i f (before ++ b ∷ after))
        leaves f after [] place held = absurd (omega arith)
        leaves f after (c ∷ before) place held =
            let count = count_parts n f (c ∷ before) after ws held in
            let one_less : length before ≡ j - 1 = omega arith in
            let full : suc (length before + length after) ≡ n = omega (arith, t.few) in
            let lowest : get_or ws 2 0 ≡ c.offset = ap (λ (z : List ℕ). get_or z 2 0) held ∙ get_d_head n f (c ∷ (before ++ after)) in
            let moved = shifted ∙ ap (λ (z : List ℕ). put_slot (lower z level_head_len (slot_len * (j - 1))) (slot_start (j - 1)) b) held in
            let next : get_or ws' 2 0 ≡ head_offset (before ++ b ∷ after) =
            ap (λ (z : List ℕ). get_or z 2 0) (moved ∙ shift_encode n f before after (j - 1) one_less c b) ∙ get_d_head n f (before ++ b ∷ after) in
            rw (lowest, next, moved) (put_shift n i f b after c before (j - 1) one_less full)

-- ---- a bucket split

-- the words below the stored slot stay
put_slot-below : (ws : List ℕ) (at : ℕ) (b : Bucket) (i : ℕ) → i < at → get_or (put_slot ws at b) i 0 ≡ get_or ws i 0
unfolding put_slot
put_slot-below ws at b i h =
    get_or-set_other (set (set ws at b.offset) (at + 1) b.width) (at + 2) i b.weight 0 (λ e. omega arith)
    ∙ get_or-set_other (set ws at b.offset) (at + 1) i b.width 0 (λ e. omega arith)
    ∙ get_or-set_other ws at i b.offset 0 (λ e. omega arith)

module _ (j : ℕ) (ws : List ℕ) (b : Bucket) {mid : List ℕ} (stored : mid ≡ put_slot ws (slot_start j) b) where
  stored-below : (at : ℕ) → at < slot_start j → get_or mid at 0 ≡ get_or ws at 0
  stored-below at h = ap (λ (z : List ℕ). get_or z at 0) stored ∙ put_slot-below ws (slot_start j) b at h

  pub stored_takes : {n : ℕ} → Takes n j ws → Takes n j mid
  stored_takes t =
      let count = stored-below 0 (omega arith) in
      record {
        size = ap length stored ∙ length-put_slot ws (slot_start j) b ∙ t.size;
        some = t.some;
        most = t.most;
        few = omega (arith, t.few);
        inside = omega (arith, t.inside);
        lowest = λ h. omega (arith, t.lowest h, stored-below 2 (omega arith));
      }

  pub stored_count : get_or mid 0 0 ≡ get_or ws 0 0
  stored_count = stored-below 0 (omega arith)

-- the upper half stands in the bucket's place, and the lower half is put in before it
pub split_becomes : {n i j half weight : ℕ} {ws mid ws' : List ℕ} {up : ℕ} → half ≡ (slot ws j).width / 2
    → mid ≡ put_slot ws (slot_start j) (bucket_of ((slot ws j).offset + half) half weight)
    → Becomes n i j [] (bucket_of (slot ws j).offset half weight ∷ []) mid ws' up → weight ≡ 2 ^ i
    → Becomes n i j (slot ws j ∷ []) (halves i (slot ws j)) ws ws' up
split_becomes {n} {j} {half} {weight} {ws} half_is stored t weight_is =
    let hi = bucket_of ((slot ws j).offset + half) half weight in
    let count = stored_count j ws hi stored in
    rw (← half_is, ← weight_is)
    (record {
      slot-after = rw count at t.slot-after;
      words = λ f before after place held.
          t.words f before (hi ∷ after) place
          (stored ∙ ap (λ (z : List ℕ). put_slot z (slot_start j) hi) held ∙ put_slot_encode n f before after j place (slot ws j) hi);
    })
