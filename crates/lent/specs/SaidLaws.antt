-- What the parts of the code give is what the line leaves. Assumes nothing.
use Rattle.std.specs.Prelude.{Result, Some, List, ◌≡◌, ℕ, length}
use Rattle.model.specs.declared.Call.{Call}
use Rattle.model.specs.declared.Answer.{Answer}
use Rattle.model.specs.declared.Refusal.{Refusal}
use Rattle.model.specs.Reply.{reply_of}
use Rattle.model.specs.Calls.{outcome_of}
use Rattle.lent.specs.Lent.{lent_to, lent_after, perform_on, after_line}
use Rattle.lent.specs.Said.{said_text, after_of}

pub after_read : (ws left : List ℕ) (before lent after : ℕ) (call : Call) (a : Result Answer Refusal)
    → lent ≡ lent_to (length ws) before call → outcome_of (reply_of a) left ≡ perform_on lent ws call → after ≡ lent_after (reply_of a) before lent
    → after_of (record { said = Some a; lent = after }) left ≡ after_line ws before (Some call)
unfolding after_line said_text
after_read ws left before lent after call a p q r = rw (r, ← p, ← q)
