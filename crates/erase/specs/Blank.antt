-- The words of a level of an empty half. Assumes nothing.
use Rattle.std.specs.Prelude.{◌≡◌, ℕ, zero, suc, ◌-◌, ◌*◌, ◌^◌, ◌≤◌, ◌<◌, set, replicate}
use Rattle.std.proofs.Common.{ap, arith}
use Rattle.shape.specs.Layout.{slot_len, slot_start}
use Rattle.model.specs.Words.{encode_level}
use Rattle.model.specs.Level.{empty_level}

-- level 0 of an empty half is all zeros
pub empty_lowest : (n k : ℕ) → replicate (slot_start n) 0 ≡ encode_level n (empty_level k 0)
unfolding encode_level
empty_lowest n k = ap (λ (z : ℕ). replicate z 0) {x = slot_start n} {y = suc (suc (slot_len * (n - 0)))} (omega arith)

-- each other level has one bucket, over the whole interval
pub empty_upper : (n k i : ℕ) → 1 ≤ n → 0 < i → set (set (replicate (slot_start n) 0) 0 1) 3 (2 ^ k) ≡ encode_level n (empty_level k i)
unfolding encode_level
empty_upper n k zero some h = absurd (omega arith)
empty_upper n k (suc j) some h =
    ap (λ (z : ℕ). set (set (replicate z 0) 0 1) 3 (2 ^ k)) {x = slot_start n} {y = suc (suc (suc (suc (suc (slot_len * (n - 1))))))} (omega arith)
