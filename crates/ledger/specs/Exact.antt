-- How many different stamps count for a window, from its opening on in the interval where it opens: they can be counted along the ticks, and a
-- window of at most n has at most n. Assumes nothing.
use Rattle.std.proofs.Math.Bool.{Bool}
use Rattle.std.specs.Prelude.{true, false, cond, ◌&&◌, leb, eqb}
use Rattle.std.proofs.Common.{true≢false, ◌∙◌, ⊎_elim, arith, le-leb, leb-true, eq-eqb, ne_eqb, eqb-true}
use Rattle.std.proofs.Math.Path.{◌≡◌, refl, sym, ap}
use mathlib.Core.List.{List, [], ◌∷◌}
use Prim.Native.Nat.{ℕ, suc, ◌+◌, ◌-◌, ◌*◌, ◌^◌, ◌≤◌, ◌<◌}
use Rattle.shape.specs.declared.Shape.{Shape}
use Rattle.shape.specs.LimitsLaws.{both}
use Rattle.model.specs.Block.{interval, offset_of, opening}
use Rattle.model.specs.Ledger.{Entry, Ledger, of_interval}
use Rattle.model.specs.Stamps.{from_opening, stamps_of, occurs, different_stamps}
use Rattle.model.specs.Claim.{Each}
use Rattle.laws.specs.Cond.{eq_or_ne, and-true}
use Rattle.theory.specs.Fed.{counted}
use Rattle.theory.specs.Count.{count_from, count_most, count_different}
use Rattle.ledger.specs.Time.{tick_split, offset_lt}
use Rattle.ledger.specs.Grown.{events, volume_of_cong, counted-events}
use Rattle.ledger.specs.State.{Good}
use Rattle.ledger.specs.Window.{leb_same, from_offset}

-- ---- stamps and entries

-- the entries that satisfy a test
module _ (p : Entry → Bool) where
  -- what holds of each of their stamps
  stamps_each : (Q : Entry → Type 0) (P : ℕ → Type 0) → ((e : Entry) → Q e → p e ≡ true → P e.stamp) → (es : List Entry) → Each Q es → Each P (stamps_of p es)
  stamps_each Q P f [] h = tt
  stamps_each Q P f (e ∷ es) h = go (p e) refl (stamps_each Q P f es h.1)
    where
      go : (here : Bool) → p e ≡ here → Each P (stamps_of p es) → Each P (cond here (e.stamp ∷ stamps_of p es) (stamps_of p es))
      go true is rest = (f e h.0 is, rest)
      go false is rest = rest

  -- an entry that satisfies the test does not bear this stamp
  abbrev Unborne : ℕ → Entry → Type 0
  Unborne stamp e = p e ≡ true → stamp ≡ e.stamp → ⊥

  stamps-none : (P : Entry → Type 0) (stamp : ℕ) → ((e : Entry) → Unborne stamp e → P e) → (es : List Entry) → occurs stamp (stamps_of p es) ≡ false → Each P es
  stamps-none P stamp f [] h = tt
  stamps-none P stamp f (e ∷ es) h = go (p e) refl (stamps-none P stamp f es) h
    where
      go : (here : Bool) → p e ≡ here → (occurs stamp (stamps_of p es) ≡ false → Each P es)
          → occurs stamp (cond here (e.stamp ∷ stamps_of p es) (stamps_of p es)) ≡ false → Each P (e ∷ es)
      go false is rest none = (f e (λ yes. absurd (true≢false (sym yes ∙ is))), rest none)
      go true is rest none =
          ⊎_elim
          (λ (same : stamp ≡ e.stamp). absurd (true≢false (rw (eq-eqb stamp e.stamp same) at none)))
          (λ (other : stamp ≡ e.stamp → ⊥). (f e (λ _. other), rest (rw (ne_eqb stamp e.stamp other) at none)))
          (eq_or_ne stamp e.stamp)

-- ---- the answers

module _ (l : Ledger) (good : Good l) (p : Entry → Bool) (window : ℕ) where
  abbrev s : Shape
  s = l.shape

  abbrev clock : ℕ
  clock = l.clock

  abbrev es : List Entry
  es = l.entries

  abbrev start : ℕ
  start = opening clock window

  abbrev j : ℕ
  j = interval s start

  abbrev a : ℕ
  a = offset_of s start

  abbrev in_interval : Entry → Bool
  in_interval = of_interval s p j

  abbrev counts : Entry → Bool
  counts = from_opening l p window

  abbrev stamps : List ℕ
  stamps = stamps_of counts es

  stamp_low : (e : Entry) → counts e ≡ true → start ≤ e.stamp
  stamp_low e h = leb-true start e.stamp (both {a = in_interval e} {b = leb start e.stamp} h).1

  interval-is : (e : Entry) → in_interval e ≡ true → interval s e.stamp ≡ j
  interval-is e h = eqb-true (interval s e.stamp) j (both {a = p e} {b = eqb (interval s e.stamp) j} h).1

  -- the different stamps can be counted from the opening on
  pub along : (c : ℕ) → ((e : Entry) → e.stamp ≤ clock → counts e ≡ true → e.stamp < start + c)
      → count_from (λ t. occurs t stamps) start c ≡ different_stamps l p window
  along c high =
      count_different start c stamps
      (stamps_each counts (λ e. e.stamp ≤ clock) (λ x. (start ≤ x) × (x < start + c)) (λ e past h. (stamp_low e h, high e past h)) es good.past)

  -- up to the end of the interval
  pub interval_end : (e : Entry) → counts e ≡ true → e.stamp < start + (2 ^ s.k - a)
  interval_end e h =
      let here : interval s e.stamp ≡ j = interval-is e (both {a = in_interval e} {b = leb start e.stamp} h).0 in
      omega (arith, ap (λ (z : ℕ). z * 2 ^ s.k) here, tick_split s start, tick_split s e.stamp, offset_lt s start, offset_lt s e.stamp)

  -- where a stamp from the opening on does not occur, no volume was delivered
  module _ (t : ℕ) (low : a ≤ t) where
    abbrev stamp : ℕ
    stamp = j * 2 ^ s.k + t

    abbrev Same : Entry → Type 0
    Same e = from_offset s p j t e ≡ from_offset s p j (suc t) e

    entry_same : (e : Entry) → Unborne counts stamp e → Same e
    entry_same e unborne = go (in_interval e) refl
      where
        x : ℕ
        x = offset_of s e.stamp

        other : in_interval e ≡ true → x ≡ t → ⊥
        other is same =
            let at : stamp ≡ e.stamp = omega (arith, ap (λ (z : ℕ). z * 2 ^ s.k) (interval-is e is), tick_split s e.stamp) in
            unborne (and-true is (le-leb start e.stamp (omega (arith, low, at, tick_split s start)))) at

        go : (here : Bool) → in_interval e ≡ here → (here && leb t x) ≡ (here && leb (suc t) x)
        go false is = refl
        go true is = leb_same t x (suc t) x (λ h. omega (arith, h, other is)) (λ h. omega arith)

    pub no_volume : occurs stamp stamps ≡ false → counted (events s in_interval es) t ≡ counted (events s in_interval es) (suc t)
    no_volume none =
        counted-events s in_interval t es
        ∙ volume_of_cong s (from_offset s p j t) (from_offset s p j (suc t)) es (stamps-none counts Same stamp entry_same es none)
        ∙ sym (counted-events s in_interval (suc t) es)

  -- a window of at most n has no more stamps than ticks, since none is past the clock
  pub short_few : window ≤ s.n → different_stamps l p window ≤ s.n
  short_few w = omega (arith, count_most (λ t. occurs t stamps) start window, along window (λ e past h. omega arith))
