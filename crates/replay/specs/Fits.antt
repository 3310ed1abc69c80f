-- The sum of an answered question fits a word, on words of any content. Rests on what the check of a block gives.
use Rattle.std.specs.Prelude.{◌≡◌, List, ℕ, ◌%◌, ◌^◌, ◌≤◌, ◌<◌}
use native.Mathlib.Omega.{arith}
use Rattle.std.proofs.Math.ListN.{get_or}
use Rattle.shape.specs.declared.Shape.{Shape}
use Rattle.model.specs.declared.Call.{Call}
use Rattle.model.specs.declared.Call.TheVariants.{Make, Clock, Delivery, Query}
use Rattle.model.specs.Block.{interval, offset_of, opening, sum_from, serving, serving_index, answer, window_sum}
use Rattle.model.specs.Words.{shape_of, clock_of, block_part, decode_half, decode_block}
use Rattle.model.specs.Calls.{Outcome, first_of, refusals, book_view, accept, perform}
use Rattle.laws.specs.Cond.{by_eq}
use Rattle.laws.specs.Proper.{Whole}
use Rattle.laws.specs.BookWords.{whole_block}
use Rattle.laws.specs.Refusals.{accepted_query}
use Rattle.block.specs.Steps.{index_serves, total_small, sum-small, answer_decode}

module _ (s : Shape) (ws : List ℕ) (w : Whole s ws) where
  -- a half's total at most, from the serving level, and the total of the other half
  answer-small : (clock start : ℕ) → answer s clock start (decode_block s ws) ≤ 2 ^ 25
  answer-small clock start =
      let a : ℕ = offset_of s start in
      let parity : ℕ = interval s start % 2 in
      let i : ℕ = serving_index a (decode_half s parity ws).levels in
      let served = index_serves s ws w parity (omega arith) a in
      let sum : sum_from a (serving a (decode_half s parity ws).levels).buckets ≤ 2 ^ 24 =
      rw served.1 at (sum-small s ws w parity (omega arith) i served.0 a) in
      let total : get_or ws (interval s clock % 2) 0 ≤ 2 ^ 24 = total_small s ws w (interval s clock % 2) (omega arith) in
      rw (answer_decode s clock start ws) (by_eq (interval s start) (interval s clock) (λ (z : ℕ). z ≤ 2 ^ 25) (λ _. omega arith) (λ _. omega arith))

  window_small : (clock window : ℕ) → window_sum s clock window (decode_block s ws) ≤ 2 ^ 25
  unfolding window_sum
  window_small clock window = by_eq window 0 (λ (z : ℕ). z ≤ 2 ^ 25) (λ _. omega arith) (λ _. answer-small clock (opening clock window))

module _ (ws : List ℕ) where
  accept_fits : (call : Call) → first_of (refusals (book_view ws) call) ≡ 0 → get_or (accept ws call).reply.values 0 0 < 2 ^ 32
  unfolding book_view
  accept_fits (Make k n m g) h = omega arith
  accept_fits (Clock clock) h = omega arith
  accept_fits (Delivery grade stamp volume) h = omega arith
  accept_fits (Query grade window) h =
      let facts = accepted_query (book_view ws) grade window h in
      let whole = whole_block ws grade facts.head facts.size facts.inside facts.sound in
      omega (arith, window_small (shape_of ws) (block_part (shape_of ws) grade ws) whole (clock_of ws) window)

  pub perform_fits : (call : Call) → get_or (perform ws call).reply.values 0 0 < 2 ^ 32
  unfolding perform
  perform_fits call =
      by_eq (first_of (refusals (book_view ws) call)) 0 (λ (o : Outcome (List ℕ)). get_or o.reply.values 0 0 < 2 ^ 32) (accept_fits call) (λ _. omega arith)
