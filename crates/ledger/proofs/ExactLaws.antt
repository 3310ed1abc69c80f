-- Which answers are the ledger's own: those to windows with at most n different stamps from the opening on, in the interval where the window
-- opens. Rests on level 0 holding such an opening.
use Rattle.std.proofs.Math.Bool.{Bool}
use Rattle.std.proofs.Common.{◌∙◌, arith, le-leb}
use Rattle.std.proofs.Math.Path.{◌≡◌, refl, sym, ap}
use mathlib.Core.List.{List}
use Prim.Native.Nat.{ℕ, ◌+◌, ◌-◌, ◌*◌, ◌^◌, ◌≤◌}
use Rattle.shape.specs.declared.Shape.{Shape}
use Rattle.model.specs.Block.{interval, offset_of, opening, window_sum}
use Rattle.model.specs.Ledger.{Entry, Ledger, volume_of, of_interval, of_window}
use Rattle.model.specs.Stamps.{from_opening, stamps_of, occurs, different_stamps}
use Rattle.theory.specs.Fed.{Event, fed, fed_exact}
use Rattle.theory.specs.Count.{count_from, count_shift}
use Rattle.theory.specs.Quiet.{quiet_holds}
use Rattle.ledger.specs.Time.{tick_split}
use Rattle.ledger.specs.Grown.{events, events_inside, half_fed, counted-events}
use Rattle.ledger.specs.Book.{block_for}
use Rattle.ledger.specs.State.{Good}
use Rattle.ledger.specs.Exact.{along, interval_end, no_volume}
use Rattle.ledger.proofs.WindowLaws.{sum_relates}

module _ (l : Ledger) (good : Good l) (p : Entry → Bool) (window : ℕ) where
  abbrev s : Shape
  s = l.shape

  abbrev clock : ℕ
  clock = l.clock

  abbrev es : List Entry
  es = l.entries

  abbrev start : ℕ
  start = opening clock window

  abbrev j : ℕ
  j = interval s start

  abbrev a : ℕ
  a = offset_of s start

  abbrev in_interval : Entry → Bool
  in_interval = of_interval s p j

  abbrev counts : Entry → Bool
  counts = from_opening l p window

  abbrev stamps : List ℕ
  stamps = stamps_of counts es

  -- where at most n different stamps count, the book's sum is the ledger's
  pub sum_exact : window ≤ 2 ^ s.k → different_stamps l p window ≤ s.n
      → window_sum s clock window (block_for s clock es p) ≡ volume_of (of_window clock p window) es
  unfolding half_fed
  sum_exact w few =
      let vs : List Event = events s in_interval es in
      let inside = events_inside s in_interval es in
      let two = good.limits.low_n in
      let borne : ℕ → Bool = λ t. occurs (j * 2 ^ s.k + t) stamps in
      let same : count_from borne a (2 ^ s.k - a) ≡ different_stamps l p window =
      sym (count_shift (λ t. occurs t stamps) (j * 2 ^ s.k) a (2 ^ s.k - a))
      ∙ ap (λ (z : ℕ). count_from (λ t. occurs t stamps) z (2 ^ s.k - a)) (tick_split s start)
      ∙ along l good p window (2 ^ s.k - a) (λ e _. interval_end l good p window e) in
      let held : (fed s.k s.n 0 vs).first ≤ a = quiet_holds s.k s.n two vs inside a borne (no_volume l good p window) (omega (arith, same, few)) in
      sum_relates l good ◌≡◌ (λ x y more e. rw e) refl p window w
      (λ _. rw (le-leb (fed s.k s.n 0 vs).first a held, ← counted-events s in_interval a es) (fed_exact s.k s.n two vs inside a held))
