-- A short buffer is left alone. In any other, the text is stored from the front on.
use Rattle.text.specs.Text.{unread_text}
use Rattle.text.specs.TextLaws.{written_none, stored-none, stored-front}
use native.Mathlib.Omega.{arith}
use Rattle.text.proofs.unread.Goals as goal

pub returns-then-out-lt32 : goal.returns-then-out-lt32
returns-then-out-lt32 c = record { value = written_none unread_text _ c.if-out-lt32.true; out_after = stored-none unread_text _ c.if-out-lt32.true }

pub returns : goal.returns
unfolding unread_text
returns c =
    let p = stored-front unread_text c.args.out.now c.if-out-lt32.false (omega arith) (c.copy.ensures.value, c.copy.ensures.out_after) in record { value = p.0; out_after = p.1 }
