-- The three branches are the three cases of what the clock empties.
use mathlib.Core.Path.{◌≡◌, sym, ap, ◌∙◌}
use Prim.Native.Nat.{ℕ, ◌+◌, ◌%◌}
use native.Mathlib.Omega.{arith}
use Rattle.model.specs.Block.{interval}
use Rattle.model.specs.Words.{decode_block}
use Rattle.laws.specs.BlockWords.{encode_decode_block}
use Rattle.laws.specs.HalfWrites.{advance_same, advance_far, emptied_next}
use Rattle.stamp.specs.Interval.{interval-small}
use Rattle.erase.proofs.advance.Goals as goal

pub returns-then-to-from : goal.returns-then-to-from
returns-then-to-from c =
    let a = c.args in
    let b = decode_block a.s a.block.now in
    let same : interval a.s a.new ≡ interval a.s a.old = cc in
    rw (advance_same a.s a.old a.new b same) (sym (encode_decode_block a.s a.block.now c.requires.sound c.requires.size))

pub overflow_add-from : goal.overflow_add-from
overflow_add-from c = omega (arith, interval-small c.args.s c.args.old (omega arith) (omega arith))

pub returns-then-to-from-2 : goal.returns-then-to-from-2
returns-then-to-from-2 c =
    let a = c.args in
    let next : interval a.s a.new ≡ interval a.s a.old + 1 = omega arith in
    let p = c.parity in
    let half : p.result ≡ interval a.s a.new % 2 = p.ensures ∙ ap (λ (j : ℕ). j % 2) c.interval-to.ensures in
    c.clear_half.ensures ∙ rw half (emptied_next a.s a.block.now c.requires a.old a.new next)

pub returns : goal.returns
returns c =
    let a = c.args in
    rw (advance_far a.s a.old a.new (decode_block a.s a.block.now) (λ q. omega arith) (λ q. omega arith)) c.clear.ensures
