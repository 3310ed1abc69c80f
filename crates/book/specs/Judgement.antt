-- What opening a book and judging a call answer, as number and values: SPECIFICATION 6.5. Assumes nothing.
use Rattle.std.specs.Prelude.{Result, cond, List, [], ◌∷◌, ◌++◌, ℕ, eqb}
use Rattle.shape.specs.Limits.{Reply, refused, accepted, values_of}
use Rattle.model.specs.declared.Call.{Call}
use Rattle.model.specs.Words.{shape_of, clock_of}
use Rattle.model.specs.Calls.{first_of, opened, refusals, book_view}
use Rattle.model.specs.declared.Refusal.{Refusal}
use Rattle.model.specs.Reply.{reply_by}
use Rattle.book.specs.declared.head.Opened.{Opened}

-- the number and the values of the answer: the shape's values and the clock, or the refusal's number
abbrev pub opened_of : Result Opened Refusal → Reply
opened_of = reply_by (λ o. accepted (values_of o.shape ++ o.clock ∷ []))

-- the answer that is due for these words, if this is the number of the first refusal that applies; 0 means that none does
unfoldable pub judgement : ℕ → List ℕ → Reply
judgement number ws = cond (eqb number 0) (accepted (values_of (shape_of ws) ++ clock_of ws ∷ [])) (refused number)

-- the number of the first of the refusals with which every call but make begins
unfoldable pub opened_number : List ℕ → ℕ
opened_number ws = first_of (opened (book_view ws))

-- the number of the first refusal of a call
abbrev pub first_refusal : List ℕ → Call → ℕ
first_refusal ws call = first_of (refusals (book_view ws) call)
