-- The text of the code's answer to a line, and what the line leaves. Assumes nothing.
use Rattle.std.specs.Prelude.{Option, Result, Some, None, List, ℕ}
use Rattle.model.specs.Reply.{reply_of}
use Rattle.text.specs.Text.{text_of, unread_text}
use Rattle.model.specs.declared.Answer.{Answer}
use Rattle.model.specs.declared.Refusal.{Refusal}
use Rattle.lent.specs.declared.Answered.{Answered}
use Rattle.lent.specs.Lent.{After}

unfoldable pub said_text : Option (Result Answer Refusal) → List ℕ  -- SPECIFICATION 11.4: the line of an answer
said_text (Some a) = text_of (reply_of a)
said_text None = unread_text

abbrev pub after_of : Answered → List ℕ → After  -- what a line leaves, by the code's answer and the words afterwards
after_of r ws = record { words = ws; lent = r.lent; text = said_text r.said }
