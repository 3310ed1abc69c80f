-- A reply has at most k × last splits, on words of any content. Rests on the splits of a delivery.
use Rattle.std.specs.Prelude.{◌≡◌, List, ℕ, ◌*◌, ◌≤◌}
use native.Mathlib.Omega.{arith}
use Rattle.model.specs.declared.Call.{Call}
use Rattle.model.specs.declared.Call.TheVariants.{Make, Clock, Delivery, Query}
use Rattle.model.specs.Words.{shape_of, block_part}
use Rattle.model.specs.Calls.{Outcome, first_of, refusals, book_view, accept, perform}
use Rattle.laws.specs.Cond.{by_eq}
use Rattle.laws.specs.BookWords.{whole_block}
use Rattle.laws.specs.Refusals.{accepted_delivery}
use Rattle.laws.specs.DeliverSplits.{deliver_splits_lem}

module _ (ws : List ℕ) where
  accept_splits : (call : Call) → first_of (refusals (book_view ws) call) ≡ 0 → (accept ws call).reply.splits ≤ (shape_of ws).k * (shape_of ws).last
  unfolding book_view
  accept_splits (Make k n m g) h = omega arith
  accept_splits (Clock clock) h = omega arith
  accept_splits (Delivery grade stamp volume) h =
      let facts = accepted_delivery (book_view ws) grade stamp volume h in
      deliver_splits_lem (shape_of ws) stamp volume (block_part (shape_of ws) grade ws) (whole_block ws grade facts.head facts.size facts.inside facts.sound)
  accept_splits (Query grade window) h = omega arith

  -- whatever the words are, which shape their head names, and whether the call is accepted
  pub perform_splits : (call : Call) → (perform ws call).reply.splits ≤ (shape_of ws).k * (shape_of ws).last
  unfolding perform
  perform_splits call =
      by_eq (first_of (refusals (book_view ws) call)) 0 (λ (o : Outcome (List ℕ)). o.reply.splits ≤ (shape_of ws).k * (shape_of ws).last) (accept_splits call) (λ _. omega arith)
