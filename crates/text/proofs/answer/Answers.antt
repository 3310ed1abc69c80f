-- A short buffer is left alone. In any other, each case stores its own text from the front on.
use Rattle.std.proofs.Common.{Ok, ◌≡◌}
use Rattle.model.specs.Reply.{reply_by, reply_of}
use Rattle.model.specs.declared.Answer.TheVariants.{Done, Splits, Sum}
use Rattle.text.specs.Text.{sum_word, refused_word, numbered, text_of}
use Rattle.text.specs.TextLaws.{written_none, stored-none, stored-front, numbered_fits, refused_text}
use native.Mathlib.Omega.{arith}
use Rattle.text.proofs.answer.Goals as goal

pub returns-then-out-lt32 : goal.returns-then-out-lt32
returns-then-out-lt32 c = record { value = written_none _ _ c.if-out-lt32.true; out_after = stored-none _ _ c.if-out-lt32.true }

pub returns-in-Ok-Done : goal.returns-in-Ok-Done
unfolding text_of reply_by
returns-in-Ok-Done c =
    let is-Done : c.in-Ok-Done.field-0 ≡ Done = rw c.in-Ok-Done.is at c.in-Ok-Done.field-0-is in
    rw (c.in-Ok-Done.is, is-Done)
    (let p = stored-front (text_of (reply_of (Ok Done))) c.args.out.now c.if-out-lt32.false (omega arith) (c.copy.ensures.value, c.copy.ensures.out_after) in record { value = p.0; out_after = p.1 })

pub returns-in-Ok-Splits : goal.returns-in-Ok-Splits
unfolding text_of reply_by
returns-in-Ok-Splits c =
    let is-Splits : c.in-Ok-Splits.field-0 ≡ Splits c.in-Ok-Splits.field-0-0 = rw c.in-Ok-Splits.is at c.in-Ok-Splits.field-0-is in
    rw (c.in-Ok-Splits.is, is-Splits)
    (let p = stored-front (text_of (reply_of (Ok Done))) c.args.out.now c.if-out-lt32.false (omega arith) (c.copy-in-Ok-Splits.ensures.value, c.copy-in-Ok-Splits.ensures.out_after) in record { value = p.0; out_after = p.1 })

pub returns-in-Ok-Sum : goal.returns-in-Ok-Sum
unfolding text_of reply_by
returns-in-Ok-Sum c =
    let sum = c.in-Ok-Sum.sum in
    let is-Sum : c.in-Ok-Sum.field-0 ≡ Sum sum = rw c.in-Ok-Sum.is at c.in-Ok-Sum.field-0-is in
    rw (c.in-Ok-Sum.is, is-Sum)
    (let p = stored-front (text_of (reply_of (Ok (Sum sum)))) c.args.out.now c.if-out-lt32.false (numbered_fits sum_word sum (omega arith)) (c.line_of.ensures.value, c.line_of.ensures.out_after) in record { value = p.0; out_after = p.1 })

pub returns-in-Err : goal.returns-in-Err
returns-in-Err c =
    let why = c.in-Err.why in
    let number = c.from.result in
    rw (c.in-Err.is, refused_text why, ← c.number.ensures, ← c.from.ensures)
    (let p = stored-front (numbered refused_word number) c.args.out.now c.if-out-lt32.false (numbered_fits refused_word number (omega arith)) (c.line_of-in-Err.ensures.value, c.line_of-in-Err.ensures.out_after) in record { value = p.0; out_after = p.1 })
