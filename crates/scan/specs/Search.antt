-- What the search for the slot of an offset relies on. Assumes nothing.
use Rattle.std.specs.Prelude.{Bool, true, false, ◌&&◌, List, [], ◌≡◌, map, ℕ, zero, suc, ◌+◌, ◌-◌, ◌≤◌, ◌<◌, leb, ltb}
use Rattle.std.specs.Prelude.{length, get_or, take, drop}
use Rattle.std.specs.List.Sorted.{IsPartitionedBy, IsPartitionPoint}
use Rattle.std.proofs.Common.{ap, sym, inl, inr, ◌∙◌, add-zero, arith, length-drop, get_or-drop, leb-true, leb-false, ltb-true, ltb-false, le-leb}
use Rattle.std.proofs.lemmas.Bool.{cases_lt}
use Rattle.std.proofs.lemmas.List.{get_or-take, get_or-map, length-take}
use Rattle.shape.specs.LimitsLaws.{both}
use Rattle.model.specs.Level.{Bucket}
use Rattle.model.specs.Words.{slot, slots, decode_level}
use Rattle.laws.specs.SlotOf.{slot_of, end_of, EndsRise, slot-most, slot-least}
use Rattle.words.specs.Slot.{front}
use Rattle.scan.specs.declared.Span.{Span}

abbrev pub is_past : List ℕ → ℕ → ℕ → ℕ → Bool  -- there is a slot `step` below `high`, and its bucket ends after offset x
is_past ws high step x = leb step high && ltb x (end_of (slot ws (high - step)))

abbrev pub Spans : ℕ → List ℕ → Span → Type 0  -- the slot of offset x is in the span
Spans x ws r = let p = slot_of x (decode_level ws).buckets in (r.low ≤ p) × (p ≤ r.high) × (r.high ≤ get_or ws 0 0)

module _ (ws : List ℕ) (high step x : ℕ) (some : 0 < step) (few : high ≤ get_or ws 0 0) where
  pub past-most : is_past ws high step x ≡ true → (step ≤ high) × (slot_of x (decode_level ws).buckets ≤ high - step)
  past-most e =
      let past = both {a = leb step high} e in
      let there = leb-true step high past.0 in
      (there, slot-most ws x (high - step) (omega arith) (ltb-true x (end_of (slot ws (high - step))) past.1))

  pub past-least : EndsRise 0 (decode_level ws).buckets → is_past ws high step x ≡ false → step ≤ high
      → high - step < slot_of x (decode_level ws).buckets
  past-least rises e there =
      slot-least ws x (high - step) (omega arith) rises (ltb-false x (end_of (slot ws (high - step))) (rw (le-leb step high there) at e))

-- bucket m of the slots from slot j on
slots-at : (ws : List ℕ) (j c m : ℕ) (none : Bucket) → m < c → get_or (slots ws j c) m none ≡ slot ws (j + m)
slots-at ws j zero m none h = absurd (omega arith)
slots-at ws j (suc c) zero none h = rw (add-zero j)
slots-at ws j (suc c) (suc m) none h = let e : j + suc m ≡ j + 1 + m = omega arith in rw e (slots-at ws (j + 1) c m none (omega arith))

abbrev pub ends_by : ℕ → List ℕ → Bool  -- the bucket of a slot's words ends at or before offset x
ends_by x words = leb (end_of (front words)) x

-- `all` is the words of a level's slots, and the search is in the part of them from `low` to `high`
module _ (ws : List ℕ) (x : ℕ) (all : List (List ℕ)) (low high : ℕ) (read : map front all ≡ slots ws 0 (get_or ws 0 0))
    (whole : length all ≡ get_or ws 0 0) (inside : high ≤ length all) where
  at : (m : ℕ) (d : List ℕ) → low + m < high → end_of (front (get_or (take (high - low) (drop low all)) m d)) ≡ end_of (slot ws (low + m))
  at m d h =
      let k = low + m in
      let there : front (get_or all k d) ≡ slot ws k =
      sym (get_or-map front all k d (front d) (omega arith))
      ∙ ap (λ (bs : List Bucket). get_or bs k (front d)) read
      ∙ slots-at ws 0 (get_or ws 0 0) k (front d) (omega arith) ∙ ap (slot ws) {x = 0 + k} {y = k} (omega arith) in
      ap end_of (ap front (get_or-take (high - low) (drop low all) m d (omega arith) ∙ get_or-drop low all m d) ∙ there)

  -- in the part, the buckets that end at or before x come before the others
  pub parted : EndsRise 0 (decode_level ws).buckets → IsPartitionedBy (ends_by x) (take (high - low) (drop low all))
  parted rises i j d le lt e =
      let few = length-take (high - low) (drop low all) in
      let long = length-drop low all in
      let last = slot-least ws x (low + j) (omega arith) rises (omega (arith, at j d (omega arith), leb-true _ x e)) in
      elim (cases_lt x (end_of (slot ws (low + i)))) [
        | inl past ↦ absurd (omega (arith, slot-most ws x (low + i) (omega arith) past))
        | inr ended ↦ le-leb _ x (omega (arith, at i d (omega arith)))
      ]

  -- so if the slot of x is in the part, it comes after those
  pub found : EndsRise 0 (decode_level ws).buckets → (i : ℕ)
      → low ≤ slot_of x (decode_level ws).buckets → slot_of x (decode_level ws).buckets ≤ high
      → i ≤ length (take (high - low) (drop low all))
      → IsPartitionPoint (λ w. ends_by x w ≡ true) (λ w. ends_by x w ≡ false) (take (high - low) (drop low all)) i
      → low + i ≡ slot_of x (decode_level ws).buckets
  found rises i above below most point =
      let few = length-take (high - low) (drop low all) in
      let long = length-drop low all in
      let p = slot_of x (decode_level ws).buckets in
      let least : (k : ℕ) → k < i → low + k < p =
      λ k h. slot-least ws x (low + k) (omega arith) rises (omega (arith, at k [] (omega arith), leb-true _ x (point.0 k [] (omega arith) h))) in
      let greatest : i < high - low → p ≤ low + i =
      λ h. slot-most ws x (low + i) (omega arith) (omega (arith, at i [] (omega arith), leb-false _ x (point.1 i [] (omega arith) (omega arith)))) in
      elim (cases_lt p (low + i)) [
        | inl less ↦ absurd (omega (arith, least (i - 1) (omega arith)))
        | inr more ↦ elim (cases_lt (low + i) p) [
          | inl over ↦ absurd (omega (arith, greatest (omega arith)))
          | inr equal ↦ omega arith
        ]
      ]
