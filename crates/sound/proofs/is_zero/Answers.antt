-- The four parts and the words after them are all words from `from` on.
use mathlib.Core.Path.{◌≡◌, ap, ◌∙◌}
use lib.Dec.{eqb}
use Rattle.model.specs.Sound.{zeros}
use Prim.Native.Nat.{ℕ, ◌+◌, ◌-◌, ◌/◌, ◌≤◌}
use native.Mathlib.Nat.{add-sub_cancel_left}
use native.Mathlib.Omega.{arith}
use lib.ListN.{length, drop, drop_of_length-le, length-drop}
use lib.Seq.{length-take-le}
use Rattle.words.specs.Slot.{part_all}
use Rattle.sound.specs.Zeros.{zeros-joined, zeros_quarters}
use Rattle.sound.proofs.is_zero.Goals as goal

pub returns-then-len-from : goal.returns-then-len-from
returns-then-len-from c = let a = c.args in rw (drop_of_length-le a.level.now c.if-len-from.true)

pub returns : goal.returns
returns c =
    let j = c.joined-all in
    let a = c.args in
    let ws = a.level.now in
    let part = (length ws - a.from) / 4 in
    let two = a.from + part in
    let three = two + part in
    let four = three + part in
    let long : part ≤ length (drop a.from ws) = omega (arith, length-drop a.from ws) in
    let parts = rw (part_all ws four, add-sub_cancel_left, add-sub_cancel_left, add-sub_cancel_left, length-take-le part (drop a.from ws) long) at j.ensures in
    let rest : eqb c.bits_from.result 0 ≡ zeros (drop (four + part) ws) =
    ap (λ (z : ℕ). eqb z 0) c.bits_from.ensures ∙ zeros-joined 0 (drop (four + part) ws) in
    zeros_quarters ws a.from part j.result c.bits_from.result parts rest
