-- The match says whether the line is read; what the three calls give is what the line leaves.
use mathlib.Core.Path.{sym, ap, ◌∙◌}
use Prim.Native.Nat.{◌≤◌}
use lib.ListN.{length}
use Rattle.model.specs.Reply.{reply_of}
use Rattle.lent.specs.Lent.{after_line}
use Rattle.lent.specs.Said.{said_text}
use Rattle.lent.specs.LentLaws.{lent_inside, after_inside}
use Rattle.lent.specs.SaidLaws.{after_read}
use Rattle.lent.proofs.answer_line.Goals as goal

pub perform_on-answer-requires : goal.perform_on-answer-requires
perform_on-answer-requires c =
    rw c.lent_to-lent.ensures (lent_inside (length c.args.book.now) c.args.before c.in-Some.call c.requires)

pub returns-in-Some : goal.returns-in-Some
returns-in-Some c =
    let ws = c.args.book.now in
    let before = c.args.before in
    let lent : c.lent_to-lent.result ≤ length ws = rw c.lent_to-lent.ensures (lent_inside (length ws) before c.in-Some.call c.requires) in record {
      book_after = after_read ws c.perform_on-answer.new.book before c.lent_to-lent.result c.lent_after-after.result c.in-Some.call c.perform_on-answer.result
          c.lent_to-lent.ensures c.perform_on-answer.ensures c.lent_after-after.ensures
          ∙ ap (after_line ws before) (sym c.in-Some.is);
      lent_in_bounds = rw c.lent_after-after.ensures (after_inside (length ws) (reply_of c.perform_on-answer.result) before c.lent_to-lent.result c.requires lent);
    }

pub returns-in-None : goal.returns-in-None
unfolding after_line said_text
returns-in-None c =
    record { book_after = ap (after_line c.args.book.now c.args.before) (sym c.in-None.is); lent_in_bounds = c.requires }
