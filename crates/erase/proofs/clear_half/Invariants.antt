-- Invariant: after each turn one more level is written.
use mathlib.Core.Path.{◌≡◌}
use Rattle.laws.specs.HalfWrites.{with_levels, empty_words}
use Rattle.erase.proofs.clear_half.Given as goal

abbrev pub invariant-loop-i : goal.invariant-loop-i
invariant-loop-i l = l.block ≡ with_levels l.s l.parity (empty_words l.s) l.i l.initial.block
