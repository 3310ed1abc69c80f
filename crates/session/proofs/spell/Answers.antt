-- The match says which answer it is.
use mathlib.Core.Path.{sym, ap, ◌∙◌}
use Rattle.text.specs.Text.{written, stored}
use Rattle.std.proofs.Common.{Option, Result}
use Rattle.model.specs.declared.Answer.{Answer}
use Rattle.model.specs.declared.Refusal.{Refusal}
use Rattle.lent.specs.Said.{said_text}
use Rattle.session.proofs.spell.Goals as goal

pub returns-in-Some : goal.returns-in-Some
unfolding said_text
returns-in-Some c =
    let out = c.args.out.now in record {
      value = c.answer.ensures.value ∙ ap (λ (s : Option (Result Answer Refusal)). written (said_text s) out) (sym c.in-Some.is);
      out_after = c.answer.ensures.out_after ∙ ap (λ (s : Option (Result Answer Refusal)). stored (said_text s) out) (sym c.in-Some.is);
    }

pub returns-in-None : goal.returns-in-None
unfolding said_text
returns-in-None c =
    let out = c.args.out.now in record {
      value = c.unread.ensures.value ∙ ap (λ (s : Option (Result Answer Refusal)). written (said_text s) out) (sym c.in-None.is);
      out_after = c.unread.ensures.out_after ∙ ap (λ (s : Option (Result Answer Refusal)). stored (said_text s) out) (sym c.in-None.is);
    }
