-- The quick pass over four rows at a time, of four slots each: what it collects. Assumes nothing.
use Rattle.std.specs.Prelude.{List, [], ◌∷◌, ◌≡◌, ℕ, zero, suc, ◌+◌, ◌-◌, ◌*◌, ◌%◌, ◌^◌, ◌≤◌, get_or, drop}
use Rattle.std.specs.Int.Bits.{bit_or, bit_xor}
use Rattle.model.specs.Level.{Bucket}
use Rattle.model.specs.Words.{slots}
use Rattle.words.specs.Slot.{front}
use Rattle.quick_laws.specs.Quick.{fresh, quick_all, quick_each}
use Rattle.quick_laws.specs.declared.Quick.{Quick}
use Rattle.quick_laws.specs.declared.Rows.{Rows}

abbrev pub open_row : Quick → ℕ → Quick  -- a row takes its first offset as its start, which must be within reach; `seam` links the rows
open_row t offset = record { end = offset; faults = t.faults; reach = bit_or t.reach offset; extra = t.extra }

abbrev pub row_slots : List ℕ → ℕ → List Bucket  -- the four slots from word `at` on
row_slots ws at = front (drop at ws) ∷ (front (drop (at + 3) ws) ∷ (front (drop (at + 6) ws) ∷ (front (drop (at + 9) ws) ∷ [])))

abbrev pub quick_row : ℕ → ℕ → Quick → List ℕ → ℕ → Quick
quick_row least most t ws at = quick_all least most (open_row t (get_or ws at 0)) (row_slots ws at)

abbrev pub end_at : List ℕ → ℕ → ℕ  -- where the bucket at word `at` ends
end_at ws at = (get_or ws at 0 + get_or ws (at + 1) 0) % 2 ^ 32

abbrev pub seam_at : List ℕ → ℕ → ℕ  -- 0 if the bucket at word `at` ends at the offset of the next
seam_at ws at = bit_xor (end_at ws at) (get_or ws (at + 3) 0)

-- a turn of sixteen slots: each row for itself, and whether it starts where the one before ends
unfoldable pub quick_turn : ℕ → ℕ → Rows → List ℕ → Rows
quick_turn least most t ws = record {
  one = quick_row least most t.one ws 0;
  two = quick_row least most t.two ws 12;
  three = quick_row least most t.three ws 24;
  four = quick_row least most t.four ws 36;
  gap = bit_or (bit_or (bit_or (bit_or t.gap (bit_xor t.end (get_or ws 0 0))) (seam_at ws 9)) (seam_at ws 21)) (seam_at ws 33);
  end = end_at ws 45;
}

abbrev pub quick_turns : ℕ → ℕ → ℕ → Rows → List ℕ → Rows  -- n turns, from the front of the words on
quick_turns least most zero t ws = t
quick_turns least most (suc n) t ws = quick_turn least most (quick_turns least most n t ws) (drop (48 * n) ws)

abbrev pub begun : ℕ → ℕ → Rows  -- before the first bucket, which must start at `first` and has this width
begun first width = record { one = fresh first width; two = fresh 0 1; three = fresh 0 1; four = fresh 0 1; gap = 0; end = first }

abbrev pub join_rows : Rows → Quick  -- what all rows collected; where the next bucket must start has to be within reach
join_rows t = record {
  end = t.end;
  faults = bit_or (bit_or (bit_or (bit_or t.one.faults t.two.faults) t.three.faults) t.four.faults) t.gap;
  reach = bit_or (bit_or (bit_or (bit_or t.one.reach t.two.reach) t.three.reach) t.four.reach) t.end;
  extra = bit_or (bit_or (bit_or t.one.extra t.two.extra) t.three.extra) t.four.extra;
}

-- some turns read the slots before slot `at` of a level's words; how many turns is left open
pub record ReadRows (least most : ℕ) (ws : List ℕ) (count : ℕ) (t : Rows) (at : ℕ) : Type 0 where
  pub turned : ℕ
  pub reads : at ≡ 16 * turned
  pub within : at ≤ count
  pub rows : t ≡ quick_turns least most turned (begun (get_or ws 1 0) (get_or ws 3 0)) (drop 2 ws)

-- some turns, and then the slots after them one by one
pub record ByRows (least most : ℕ) (ws : List ℕ) (count : ℕ) (r : Quick) : Type 0 where
  pub turned : ℕ
  pub within : 16 * turned ≤ count
  pub same : r ≡ quick_each least most (join_rows (quick_turns least most turned (begun (get_or ws 1 0) (get_or ws 3 0)) (drop 2 ws)))
      (slots ws (16 * turned) (count - 16 * turned))
