-- The records of a day as a loop goes through them, and words written one after another. Assumes nothing.
use Rattle.std.specs.Prelude.{true, ◌≡◌, List, [], ◌∷◌, ◌++◌, ℕ, suc, ◌+◌, ◌-◌, ◌/◌, ◌%◌, ◌≤◌, ◌<◌, length, take, set}
use Rattle.std.proofs.Common.{ap, ◌∙◌, append_assoc, add-one, arith, length-set, take-suc-set, eqb-true}
use Rattle.std.proofs.Math.Nat.{sub-zero}
use Rattle.shape.specs.LimitsLaws.{both}
use Rattle.model.specs.declared.Record.{Record}
use Rattle.model.specs.Block.{up_from}
use Rattle.model.specs.Trace.{record_words, record_at, records_of, sound_day}
use Rattle.laws.specs.Parts.{length_up_from}

-- ---- the records from record i on

abbrev pub record_count : List ℕ → ℕ
record_count day = length day / record_words

abbrev pub records_from : List ℕ → ℕ → List Record
records_from day i = up_from (record_at day) i (record_count day - i)

pub records_from-start : (day : List ℕ) → records_from day 0 ≡ records_of day
records_from-start day = ap (up_from (record_at day) 0) (sub-zero (record_count day))

module _ (day : List ℕ) (i : ℕ) where
  pub records_from_step : i < record_count day → records_from day i ≡ record_at day i ∷ records_from day (i + 1)
  records_from_step h =
      let left : record_count day - i ≡ suc (record_count day - (i + 1)) = omega arith in
      ap (up_from (record_at day) i) left ∙ rw (← add-one i)

  pub records_from_end : record_count day ≤ i → records_from day i ≡ []
  records_from_end h =
      let left : record_count day - i ≡ 0 = omega arith in
      ap (up_from (record_at day) i) left

-- how many records the words have
pub length_records : (day : List ℕ) → length (records_of day) ≡ record_count day
length_records day = length_up_from (record_at day) 0 (record_count day)

-- ---- two words written, and four

module _ (ws : List ℕ) (to x y : ℕ) (room : to + 2 ≤ length ws) where
  pub take-two : take (to + 2) (set (set ws to x) (to + 1) y) ≡ take to ws ++ (x ∷ y ∷ [])
  take-two =
      let two : to + 2 ≡ suc (to + 1) = omega arith in
      let one : to + 1 ≡ suc to = omega arith in
      let high : to + 1 < length (set ws to x) = rw length-set (omega arith) in
      rw (two, take-suc-set (set ws to x) (to + 1) y high, one, take-suc-set ws to x (omega arith)) (append_assoc (take to ws) (x ∷ []) (y ∷ []))

pub take-four : (ws : List ℕ) (to w x y z : ℕ) → to + 4 ≤ length ws
    → take (to + 4) (set (set (set (set ws to w) (to + 1) x) (to + 2) y) (to + 3) z) ≡ take to ws ++ (w ∷ x ∷ y ∷ z ∷ [])
take-four ws to w x y z room =
    let l : List ℕ = set (set ws to w) (to + 1) x in
    let size : length l ≡ length ws = length-set (set ws to w) (to + 1) x ∙ length-set ws to w in
    let four : to + 2 + 2 ≡ to + 4 = omega arith in
    let three : to + 2 + 1 ≡ to + 3 = omega arith in
    rw (four, three) at (take-two l (to + 2) y z (omega arith)) ∙ rw (take-two ws to w x (omega arith)) (append_assoc (take to ws) (w ∷ x ∷ []) (y ∷ z ∷ []))

-- a sound day is whole records
pub day_whole : (day : List ℕ) → sound_day day ≡ true → length day % record_words ≡ 0
unfolding sound_day
day_whole day h = eqb-true (length day % record_words) 0 (both h).0
