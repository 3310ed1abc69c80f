-- A level fed a list of events, the latest first, is sound and follows their counts. Assumes nothing.
use Rattle.std.specs.Prelude.{◌≡◌, refl, List, [], ◌∷◌, ℕ, ◌^◌, ◌≤◌, ◌<◌}
use Rattle.std.proofs.Common.{arith}
use Rattle.model.specs.Level.{Level, insert, empty_level}
use Rattle.model.specs.Block.{sum_from}
use Rattle.model.specs.Claim.{Each}
use Rattle.laws.specs.SumFrom.{more, share_all}
use Rattle.laws.specs.Unit.{Tracks, tracks_same, insert_tracks, empty_tracks}
use Rattle.laws.specs.SoundLevel.{SoundLevel}
use Rattle.laws.specs.InsertSound.{tracks_sound}

-- `vol` decilitres at offset `at`
pub record Event : Type 0 where
  pub at : ℕ
  pub vol : ℕ

-- level i after the events
abbrev pub fed : ℕ → ℕ → ℕ → List Event → Level
fed k n i [] = empty_level k i
fed k n i (e ∷ es) = insert n i e.at e.vol (fed k n i es)

-- the volume at offset t or above
abbrev pub counted : List Event → ℕ → ℕ
counted [] t = 0
counted (e ∷ es) t = more e.at e.vol (counted es) t

-- the events lie in an interval of 2 ^ k ticks
abbrev pub Inside : ℕ → List Event → Type 0
Inside k = Each (λ e. e.at < 2 ^ k)

module _ (k n i : ℕ) (two : 2 ≤ n) where
  pub fed_tracks : (es : List Event) → Inside k es → Tracks k n i (counted es 0) (counted es) (fed k n i es)
  fed_tracks [] h = empty_tracks k n i two
  fed_tracks (e ∷ es) h =
      tracks_same (omega (arith, share_all e.at e.vol 0 (omega arith))) (λ _. refl)
      (insert_tracks k n i two (counted es 0) (counted es) e.at e.vol (fed k n i es) h.0 (fed_tracks es h.1))

  module _ (es : List Event) (inside : Inside k es) where
    pub fed-sound : SoundLevel k n i (counted es 0) (fed k n i es)
    fed-sound = tracks_sound (fed_tracks es inside)

-- level 0 is exact
pub fed_exact : (k n : ℕ) → 2 ≤ n → (es : List Event) → Inside k es
    → (t : ℕ) → (fed k n 0 es).first ≤ t → sum_from t (fed k n 0 es).buckets ≡ counted es t
fed_exact k n two es inside t h = (fed_tracks k n 0 two es inside).follows.1 t h
