-- What a caller gets of a result is what it gets of the reply. Assumes nothing.
use Rattle.std.specs.Prelude.{Option, Some, None, MatchOption, Result, Ok, Err, cond, ◌≡◌, List, [], ◌∷◌, ℕ}
use Rattle.std.specs.Result.{result_unwrap_or}
use Rattle.std.proofs.Math.Path.{refl, sym, ap}
use Rattle.std.proofs.Common.{◌∙◌, ne_eqb}
use Rattle.shape.specs.declared.Shape.{Shape}
use Rattle.shape.specs.Limits.{Reply, accepted, within, shaped, checked, reply_of}
use Rattle.shape.specs.LimitsLaws.{checked-within, checked_outside}
use Rattle.shape.specs.Layout.{book_words}
use Rattle.model.specs.declared.Ground.{Ground}
use Rattle.model.specs.declared.Refusal.{Refusal}
use Rattle.model.specs.Reply.{number_of, reply_by, splits_reply}
use Rattle.model.specs.Calls.{Outcome, outcome_of}
use Rattle.model.specs.Ground.{ground_values, ground_reply}
use Rattle.laws.specs.Refusals.{number_of_pos}
use Rattle.capi.specs.Told.{delivery_of, ground_told}

-- the number and the splits of a delivery
pub told_splits : (r : Result ℕ Refusal) (ws : List ℕ) → ((reply_by (λ (_ : ℕ). accepted []) r).number, ws, result_unwrap_or r 0) ≡ delivery_of (outcome_of (splits_reply r) ws)
unfolding reply_by
told_splits (Ok splits) ws = refl
told_splits (Err why) ws = refl

-- the words of a shape, or 0
pub told_words : (k n m g : ℕ) (o : Option Shape) (words : ℕ) → reply_of o ≡ checked k n m g → MatchOption o (words ≡ 0) (λ s. words ≡ book_words s)
    → words ≡ cond (within k n m g) (book_words (shaped k n m g)) 0
told_words k n m g (Some s) words new h = let t = checked-within k n m g s new in h ∙ ap book_words t.1 ∙ rw t.0
told_words k n m g None words new h = h ∙ rw (checked_outside k n m g new)

-- a ground that is given, and one that is refused
module _ {a : Result Ground Refusal} {r : Reply} (held : List ℕ) (done : ground_reply a ≡ r) where
  pub told_given : (g : Ground) → a ≡ Ok g → (0, ground_values g) ≡ ground_told r held
  unfolding reply_by
  told_given g is = sym (ap (λ (z : Result Ground Refusal). ground_told (ground_reply z) held) is) ∙ ap (λ (z : Reply). ground_told z held) done

  pub told_refused : (why : Refusal) → a ≡ Err why → (number_of why, held) ≡ ground_told r held
  unfolding reply_by
  told_refused why is =
      let same : ground_told (ground_reply (Err why)) held ≡ (number_of why, held) = rw (ne_eqb (number_of why) 0 (number_of_pos why)) in
      sym same ∙ sym (ap (λ (z : Result Ground Refusal). ground_told (ground_reply z) held) is) ∙ ap (λ (z : Reply). ground_told z held) done
