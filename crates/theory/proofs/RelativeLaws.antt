-- The relative bound: the sum of the finest level that serves offset a differs from the exact one by at most the factor of SPECIFICATION
-- 9.3. Rests on the error of a level and on how much the next finer one has counted. Assumes nothing.
use Rattle.std.specs.Prelude.{◌≡◌, List, ℕ, zero, suc, ◌+◌, ◌-◌, ◌*◌, ◌^◌, ◌≤◌, ◌<◌}
use Rattle.std.proofs.Common.{sym, arith}
use Rattle.model.specs.Level.{Level}
use Rattle.model.specs.Block.{sum_from, serving, up_from}
use Rattle.model.specs.Claim.{Admits, Near}
use Rattle.laws.specs.Unit.{Tracks}
use Rattle.laws.specs.InsertSound.{sound_serves}
use Rattle.laws.specs.BlockSound.{serving-index}
use Rattle.theory.specs.Near.{tracks_crowded}
use Rattle.theory.specs.Fed.{Event, fed, counted, Inside, fed_tracks, fed-sound}
use Rattle.theory.specs.Relative.{ratio}
use Rattle.theory.proofs.NearLaws.{tracks_near}

-- levels 0, 1 and so on that follow the same counts
module _ (k n total : ℕ) (c : ℕ → ℕ) (l : ℕ → Level) (tracks : (i : ℕ) → Tracks k n i total c (l i)) (room : k + 1 < n)
    (a : ℕ) (inside : a < 2 ^ k) where
  -- what the level answers at a keeps the bound
  abbrev Answers : Level → Type 0
  Answers z = Admits n k (sum_from a z.buckets) (c a)

  -- the level just below i, if there is one, does not serve a
  abbrev Gone : ℕ → Type 0
  Gone zero = Unit {0}
  Gone (suc j) = a < (l j).first

  held_answers : (i : ℕ) → Gone i → (l i).first ≤ a → Answers (l i)
  held_answers zero gone held = rw ((tracks 0).follows.1 a held) (omega arith)
  held_answers (suc j) gone held =
      let twice : 2 ^ suc j ≡ 2 * 2 ^ j = omega arith in
      ratio (sum_from a (l (suc j)).buckets) (c a) (2 ^ j) k n (omega arith)
      (rw twice at (tracks_near (tracks (suc j)) a held (omega arith))) (tracks_crowded (tracks j) (omega arith) a gone)

  -- of levels 0 to `last`, of which the last has evicted nothing, the one that serves a
  serving_answers : (last : ℕ) → (l last).first ≡ 0 → Answers (serving a (up_from l 0 (suc last)))
  serving_answers last whole =
      let r = serving-index a l last whole in
      rw (sym r.1) (held_answers _ (gone _ r.0.past) r.0.held)
    where
      gone : (i : ℕ) → ((j : ℕ) → j < i → a < (l j).first) → Gone i
      gone zero past = tt
      gone (suc j) past = past j (omega arith)

-- levels 0 to `last`, of which the last has evicted nothing: the finest that serves a keeps the bound
pub relative : (k n last : ℕ) (es : List Event) → Inside k es → k + 1 < n → counted es 0 < n * 2 ^ last → (a : ℕ) → a < 2 ^ k
    → Admits n k (sum_from a (serving a (up_from (λ i. fed k n i es) 0 (suc last))).buckets) (counted es a)
relative k n last es inside room small a h =
    let two : 2 ≤ n = omega arith in
    let whole : (fed k n last es).first ≡ 0 = sound_serves two (fed-sound k n last two es inside) small in
    serving_answers k n (counted es 0) (counted es) (λ i. fed k n i es) (λ i. fed_tracks k n i two es inside) room a h last whole

-- the same as nearness: the error times n - k - 1 is at most 2 * (k + 1) times the exact sum
pub relative_near : (k n last : ℕ) (es : List Event) → Inside k es → k + 1 < n → counted es 0 < n * 2 ^ last → (a : ℕ) → a < 2 ^ k
    → let book = sum_from a (serving a (up_from (λ i. fed k n i es) 0 (suc last))).buckets in
    Near (2 * (k + 1) * counted es a) (book * (n - (k + 1))) (counted es a * (n - (k + 1)))
relative_near k n last es inside room small a h =
    let r = relative k n last es inside room small a h in
    record { above = r.above; below = r.below }
