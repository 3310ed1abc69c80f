-- What a delivery into a block requires, and what it then requires of each level. Rests on the delivery as writes of levels.
use Rattle.std.specs.Prelude.{◌≡◌, List, ℕ, suc, ◌+◌, ◌%◌, ◌^◌, ◌≤◌, ◌<◌, get_or}
use Rattle.std.proofs.Common.{sym, ◌∙◌, arith}
use Rattle.shape.specs.declared.Shape.{Shape}
use Rattle.model.specs.Level.{insert, insert_splits}
use Rattle.model.specs.Block.{interval, offset_of, deliver, deliver_splits}
use Rattle.model.specs.Words.{level_part, decode_level, encode_level, decode_block, encode_block}
use Rattle.laws.specs.BlockWrites.{with_level}
use Rattle.laws.specs.Proper.{Insertable, Whole}
use Rattle.laws.specs.DeliverSplits.{splits_from, splits_from_step, splits_from_end}
use Rattle.laws.specs.Deliver.{delivering, delivering_all, length-delivering, level_part-delivering, level_insertable}
use Rattle.block.specs.Steps.{LevelIn}

-- a sound block whose half for the stamp has room for the volume
pub record Deliverable (s : Shape) (stamp v : ℕ) (ws : List ℕ) : Type 0 where
  pub whole : Whole s ws
  pub some : 0 < v
  pub room : get_or ws (interval s stamp % 2) 0 + v ≤ 2 ^ s.m

-- the same, with the parity and the offset of the stamp
pub record Fills (s : Shape) (stamp parity x v : ℕ) (ws : List ℕ) : Type 0 where
  pub deliverable : Deliverable s stamp v ws
  pub half : parity ≡ interval s stamp % 2
  pub place : x ≡ offset_of s stamp

module _ (s : Shape) (stamp parity x v : ℕ) (ws : List ℕ) (f : Fills s stamp parity x v ws) (i : ℕ) (low : i ≤ s.last) where
  abbrev t : Deliverable s stamp v ws
  t = f.deliverable

  -- once the levels below it are written, level i is in its place and can take the volume
  pub level_in : LevelIn s parity i (delivering s stamp v ws i)
  level_in = record {
    sized = record { proper = t.whole.proper; size = length-delivering s stamp v ws t.whole i (omega arith) };
    half = omega (arith, f.half);
    index = low;
  }

  pub delivering_insertable : Insertable s i x v (level_part s parity i (delivering s stamp v ws i))
  delivering_insertable = rw (f.half, f.place, level_part-delivering s stamp v ws t.whole i low) (level_insertable s stamp v ws t.whole t.some t.room i low)

  -- after that the levels up to i are written
  pub level_filled : with_level s parity i (encode_level s.n (insert s.n i x v (decode_level (level_part s parity i (delivering s stamp v ws i))))) (delivering s stamp v ws i)
      ≡ delivering s stamp v ws (suc i)
  level_filled = rw (f.half, f.place, level_part-delivering s stamp v ws t.whole i low)

  -- its splits and those of the levels after it add up to `splits_from i`
  pub level_splits_on : insert_splits s.n i x v (decode_level (level_part s parity i (delivering s stamp v ws i))) + splits_from s stamp v ws (suc i) ≡ splits_from s stamp v ws i
  level_splits_on = rw (f.half, f.place, level_part-delivering s stamp v ws t.whole i low) (sym (splits_from_step s stamp v ws i low))

-- the levels below i have the volume: the words then, and the splits so far with those of the levels that are left
pub record Filling (s : Shape) (stamp v i splits : ℕ) (ws new : List ℕ) : Type 0 where
  pub words : new ≡ delivering s stamp v ws i
  pub count : splits + splits_from s stamp v ws i ≡ deliver_splits s stamp v (decode_block s ws)

-- all levels have it
pub filled : {s : Shape} {stamp v splits : ℕ} {ws new : List ℕ} → Filling s stamp v (suc s.last) splits ws new → Whole s ws
    → (new ≡ encode_block s (deliver s stamp v (decode_block s ws))) × (splits ≡ deliver_splits s stamp v (decode_block s ws))
filled {s} {stamp} {v} {ws = ws} t w = (t.words ∙ delivering_all s stamp v ws w, omega (arith, t.count, splits_from_end s stamp v ws))
