-- Invariant: after each turn one more block is rewritten, and the others are as they were.
use mathlib.Core.Path.{◌≡◌}
use mathlib.Core.List.{List}
use Prim.Native.Nat.{ℕ}
use Rattle.model.specs.Words.{block_part}
use Rattle.laws.specs.BookWrites.{swept}
use Rattle.sweep.specs.Sweeps.{Rewrites}
use Rattle.sweep.proofs.rewrite_blocks.Given as goal

abbrev pub invariant-loop-grade : goal.invariant-loop-grade
invariant-loop-grade g l =
    (f : List ℕ → List ℕ) → Rewrites (goal.F-post g l.rewrite) l.s l.initial.book f
    → l.book ≡ swept l.s (λ grade. f (block_part l.s grade l.initial.book)) l.grade l.initial.book
