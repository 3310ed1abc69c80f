-- Invariant: the bits so far are 0 and the words of all four parts from `at` on are zero exactly if all are.
use mathlib.Core.Bool.{◌&&◌}
use mathlib.Core.Path.{◌≡◌}
use lib.Dec.{eqb}
use lib.ListN.{drop}
use Rattle.model.specs.Sound.{zeros}
use Rattle.sound.proofs.joined.Given as goal

abbrev pub invariant-loop-at : goal.invariant-loop-at
invariant-loop-at l =
    (eqb l.all 0 && ((zeros (drop l.at l.a) && zeros (drop l.at l.b)) && (zeros (drop l.at l.c) && zeros (drop l.at l.d))))
    ≡ ((zeros l.a && zeros l.b) && (zeros l.c && zeros l.d))
