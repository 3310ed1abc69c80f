-- What the code answers for a ground, by the number of the question's first refusal. Rests on the laws of grounds.
use Rattle.std.specs.Prelude.{Err, List, ◌≡◌, ℕ}
use Rattle.std.proofs.Common.{sym, ap, ◌∙◌}
use Rattle.shape.specs.declared.Shape.{Shape}
use Rattle.shape.specs.Limits.{refused, accepted}
use Rattle.model.specs.declared.Call.TheVariants.{Query}
use Rattle.model.specs.declared.Refusal.{Refusal}
use Rattle.model.specs.Words.{block_part, decode_block}
use Rattle.model.specs.Reply.{number_of, reply_by}
use Rattle.model.specs.Ground.{ground_of, ground_values, ground_reply, ground}
use Rattle.laws.specs.Refusals.{number_of_pos}
use Rattle.laws.specs.GroundLaws.{ground_given, ground-refused}
use Rattle.book.specs.Judgement.{first_refusal}
use Rattle.judge.specs.Judge.{Open}

pub refused_reply : (ws : List ℕ) (grade window : ℕ) (why : Refusal) → first_refusal ws (Query grade window) ≡ number_of why
    → ground_reply (Err why) ≡ ground ws grade window
unfolding reply_by
refused_reply ws grade window why h = sym (ground-refused ws grade window (λ e. number_of_pos why (sym h ∙ e)) ∙ ap refused h)

pub given_reply : (ws : List ℕ) (s : Shape) (clock grade window : ℕ) → Open ws s clock → first_refusal ws (Query grade window) ≡ 0
    → accepted (ground_values (ground_of s clock window (decode_block s (block_part s grade ws)))) ≡ ground ws grade window
given_reply ws s clock grade window o h = rw (o.same, o.now) (sym (ground_given ws grade window h))
