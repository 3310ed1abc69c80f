-- The reader's answer and its values determine each other. Assumes nothing.
use Rattle.std.specs.Prelude.{Option, Some, None, Bool, true, false, cond, List, [], ◌∷◌, map, ◌≡◌, refl, ℕ}
use Rattle.std.proofs.Common.{sym, subst}
use Rattle.shape.specs.Limits.{Reply, accepted}
use Rattle.model.specs.declared.Call.{Call}
use Rattle.model.specs.declared.Call.TheVariants.{Make, Clock, Delivery, Query}
use Rattle.laws.specs.Cond.{by_eq}
use Rattle.grammar.specs.Grammar.{first_field, later_fields, every, is_number, value_of, unread, asks, called, ordered, grammar, reading_of}
use Rattle.session.specs.Protocol.{parsed_of}

pub parsed_reading : (p : Option Call) → parsed_of (reading_of p) ≡ p
unfolding parsed_of reading_of
parsed_reading (Some (Make k n m g)) = refl
parsed_reading (Some (Clock clock)) = refl
parsed_reading (Some (Delivery grade stamp volume)) = refl
parsed_reading (Some (Query grade window)) = refl
parsed_reading None = refl

-- a reply that is the same after it was turned into a call and back
abbrev Reread : Reply → Type 0
Reread reply = reading_of (parsed_of reply) ≡ reply

kept_unread : Reread unread
unfolding parsed_of reading_of
kept_unread = refl

kept_asks : (wanted letter : ℕ) (numbers : List ℕ) → Reread (accepted (wanted ∷ numbers)) → Reread (asks wanted letter numbers)
kept_asks wanted letter numbers kept =
    by_eq letter wanted Reread (λ e. subst (λ (x : ℕ). Reread (accepted (x ∷ numbers))) (sym e) kept) (λ _. kept_unread)

kept_called : (letter : ℕ) (numbers : List ℕ) → Reread (called letter numbers)
unfolding parsed_of reading_of
kept_called letter [] = refl
kept_called letter (clock ∷ []) = kept_asks 99 letter (clock ∷ []) refl
kept_called letter (grade ∷ window ∷ []) = kept_asks 113 letter (grade ∷ window ∷ []) refl
kept_called letter (grade ∷ stamp ∷ volume ∷ []) = kept_asks 100 letter (grade ∷ stamp ∷ volume ∷ []) refl
kept_called letter (k ∷ n ∷ m ∷ g ∷ []) = kept_asks 109 letter (k ∷ n ∷ m ∷ g ∷ []) refl
kept_called letter (a ∷ b ∷ c ∷ d ∷ e ∷ more) = refl

kept_ordered : (first : List ℕ) (fields : List (List ℕ)) → Reread (ordered first fields)
kept_ordered [] fields = kept_unread
kept_ordered (letter ∷ []) fields = go (every is_number fields)
  where
    go : (t : Bool) → Reread (cond t (called letter (map value_of fields)) unread)
    go true = kept_called letter (map value_of fields)
    go false = kept_unread
kept_ordered (letter ∷ b ∷ bs) fields = kept_unread

-- turning the grammar's reply into a call loses nothing
pub reading_parsed : (line : List ℕ) → reading_of (parsed_of (grammar line)) ≡ grammar line
unfolding grammar
reading_parsed line = kept_ordered (first_field line) (later_fields line)
