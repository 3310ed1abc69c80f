-- The limit of error (SPECIFICATION 20.3): the sum of the finest level that serves offset a differs from the exact one by at most the limit
-- of this level, whatever n is. Rests on the error of a level. Assumes nothing.
use Rattle.std.proofs.Common.{sym, mul_comm, arith, ne_eqb}
use Rattle.std.specs.Prelude.{List, ℕ, zero, suc, ◌+◌, ◌*◌, ◌^◌, ◌≤◌, ◌<◌}
use Rattle.model.specs.Level.{Level}
use Rattle.model.specs.Block.{up_from, sum_from, serving, serving_index}
use Rattle.model.specs.Ground.{error_limit}
use Rattle.model.specs.Claim.{Near}
use Rattle.laws.specs.InsertSound.{sound_serves}
use Rattle.laws.specs.BlockSound.{serving-index}
use Rattle.theory.specs.Fed.{Event, fed, counted, Inside, fed-sound, fed_exact}
use Rattle.theory.proofs.FedLaws.{fed_near}

module _ (k n : ℕ) (two : 2 ≤ n) (es : List Event) (inside : Inside k es) (a : ℕ) (low : a < 2 ^ k) where
  abbrev Limited : ℕ → Level → Type 0
  Limited i l = Near (error_limit k i) (sum_from a l.buckets) (counted es a)

  -- level 0 is exact; the error of another level is at most k + 1 times 2 ^ i
  held_limited : (i : ℕ) → (fed k n i es).first ≤ a → Limited i (fed k n i es)
  held_limited zero held = omega (arith, fed_exact k n two es inside a held)
  held_limited (suc j) held =
      rw (ne_eqb (suc j) 0 (λ e. omega arith), mul_comm (2 ^ suc j) (k + 1)) (fed_near k n (suc j) two es inside a held (omega arith))

  -- levels 0 to `last`, of which the last has evicted nothing
  pub fed_limited : (last : ℕ) → counted es 0 < n * 2 ^ last
      → let levels = up_from (λ i. fed k n i es) 0 (suc last) in Limited (serving_index a levels) (serving a levels)
  fed_limited last small =
      let r = serving-index a (λ i. fed k n i es) last (sound_serves two (fed-sound k n last two es inside) small) in
      rw (sym r.1) (held_limited _ r.0.held)
