-- Storing the word, the digits and the newline one after the other is storing the whole line.
use Rattle.std.proofs.Common.{arith, ◌≡◌, ◌∙◌}
use Rattle.text.specs.Text.{digits_of, decimal}
use Rattle.text.specs.TextLaws.{decimal_same, numbered-length, numbered-stored}
use Rattle.text.proofs.line_of.Goals as goal

pub returns : goal.returns
unfolding decimal
returns c =
    let a = c.args in
    let digits : c.as_bytes.result.now ≡ digits_of 20 a.x = c.as_bytes.ensures.value ∙ c.format.ensures.text ∙ decimal_same a.x (omega arith) in
    let start = c.copy-at.ensures in
    let end = c.copy-end.ensures in record {
      value = rw (c.copy.ensures.value, end.value, digits, start.value) (omega (arith, numbered-length a.word.now a.x));
      out_after = rw (c.copy.ensures.out_after, end.value, end.out_after, digits, start.value, start.out_after) (numbered-stored a.word.now a.x a.out.now);
    }
