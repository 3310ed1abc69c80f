-- The half and the block that a list of entries stands for. A half is a fold over the entries that satisfy a test. Assumes nothing.
use Rattle.std.specs.Prelude.{Bool, true, false, cond, ◌&&◌, ◌≡◌, refl, ℕ, suc, ◌+◌, leb}
use Rattle.std.proofs.Common.{sym, ◌∙◌, add_comm, zero-add, arith, le-leb}
use Rattle.std.proofs.Math.Path.{ap₂}
use mathlib.Core.List.{List, [], ◌∷◌}
use Rattle.shape.specs.declared.Shape.{Shape}
use Rattle.model.specs.Level.{Level}
use Rattle.model.specs.Block.{Half, up_from, offset_of, empty_half, deliver_half}
use Rattle.model.specs.Ledger.{Entry, volume_of}
use Rattle.model.specs.Claim.{Each}
use Rattle.ledger.specs.Time.{offset_lt}
use Rattle.laws.specs.BlockSound.{insert_all_up_from}
use Rattle.theory.specs.Fed.{Event, fed, counted, Inside}

-- the entries that satisfy a test, as events of an interval
abbrev pub events : Shape → (Entry → Bool) → List Entry → List Event
events s p [] = []
events s p (e ∷ es) = cond (p e) (record { at = offset_of s e.stamp; vol = e.volume } ∷ events s p es) (events s p es)

-- their offsets lie within the interval
pub events_inside : (s : Shape) (p : Entry → Bool) (es : List Entry) → Inside s.k (events s p es)
events_inside s p [] = tt
events_inside s p (e ∷ es) = go (p e) (events_inside s p es)
  where
    go : (t : Bool) → Inside s.k (events s p es) → Inside s.k (cond t (record { at = offset_of s e.stamp; vol = e.volume } ∷ events s p es) (events s p es))
    go true h = (offset_lt s e.stamp, h)
    go false h = h

-- a half that was fed these events
unfoldable pub half_fed : Shape → ℕ → List Event → Half
half_fed s total vs = record { total = total; levels = up_from (λ i. fed s.k s.n i vs) 0 (suc s.last) }

abbrev pub half_for : Shape → (Entry → Bool) → List Entry → Half
half_for s p es = half_fed s (volume_of p es) (events s p es)

-- ---- what a half depends on

-- two tests that agree on every entry
module _ (s : Shape) (p q : Entry → Bool) where
  pub volume_of_cong : (es : List Entry) → Each (λ e. p e ≡ q e) es → volume_of p es ≡ volume_of q es
  volume_of_cong [] h = refl
  volume_of_cong (e ∷ es) h = rw (h.0, volume_of_cong es h.1)

-- no entry satisfies the test
module _ (s : Shape) (p : Entry → Bool) where
  events-none : (es : List Entry) → Each (λ e. p e ≡ false) es → events s p es ≡ []
  events-none [] h = refl
  events-none (e ∷ es) h = rw h.0 (events-none es h.1)

  volume_of-none : (es : List Entry) → Each (λ e. p e ≡ false) es → volume_of p es ≡ 0
  volume_of-none [] h = refl
  volume_of-none (e ∷ es) h = rw h.0 (omega (arith, volume_of-none es h.1))

  pub half_for-none : (es : List Entry) → Each (λ e. p e ≡ false) es → half_for s p es ≡ empty_half s
  unfolding half_fed empty_half
  half_for-none es h =
      let none : half_fed s (volume_of p es) (events s p es) ≡ half_fed s 0 [] = ap₂ (half_fed s) (volume_of-none es h) (events-none es h) in
      none

-- ---- one more entry

deliver_half-fed : (s : Shape) (total x v : ℕ) (vs : List Event)
    → deliver_half s x v (half_fed s total vs) ≡ half_fed s (v + total) (record { at = x; vol = v } ∷ vs)
unfolding half_fed deliver_half
deliver_half-fed s total x v vs =
    ap₂ (λ (t : ℕ) (ls : List Level). record { total = t; levels = ls })
    (add_comm total v)
    (insert_all_up_from s.n x v (λ i. fed s.k s.n i vs) 0 (suc s.last))

module _ (s : Shape) (p : Entry → Bool) (e : Entry) (es : List Entry) where
  -- it satisfies the test: a delivery into the half
  pub half_for-more : p e ≡ true → half_for s p (e ∷ es) ≡ deliver_half s (offset_of s e.stamp) e.volume (half_for s p es)
  half_for-more h = rw h (sym (deliver_half-fed s (volume_of p es) (offset_of s e.stamp) e.volume (events s p es)))

  -- it does not satisfy the test: the half stays
  pub half_for_other : p e ≡ false → half_for s p (e ∷ es) ≡ half_for s p es
  half_for_other h = rw (h, zero-add (volume_of p es))

-- ---- what is counted of a half

and-true_right : (a : Bool) → (a && true) ≡ a
and-true_right true = refl
and-true_right false = refl

pub counted-events : (s : Shape) (p : Entry → Bool) (a : ℕ) (es : List Entry)
    → counted (events s p es) a ≡ volume_of (λ e. p e && leb a (offset_of s e.stamp)) es
counted-events s p a [] = refl
counted-events s p a (e ∷ es) = go (counted-events s p a es) (p e)
  where
    go : counted (events s p es) a ≡ volume_of (λ d. p d && leb a (offset_of s d.stamp)) es → (t : Bool)
        → counted (cond t (record { at = offset_of s e.stamp; vol = e.volume } ∷ events s p es) (events s p es)) a
        ≡ cond (t && leb a (offset_of s e.stamp)) e.volume 0 + volume_of (λ d. p d && leb a (offset_of s d.stamp)) es
    go h true = omega arith
    go h false = omega arith

pub counted_all : (s : Shape) (p : Entry → Bool) (es : List Entry) → counted (events s p es) 0 ≡ volume_of p es
counted_all s p es = counted-events s p 0 es ∙ volume_of_cong s (λ e. p e && leb 0 (offset_of s e.stamp)) p es (all es)
  where
    all : (es : List Entry) → Each (λ e. (p e && leb 0 (offset_of s e.stamp)) ≡ p e) es
    all [] = tt
    all (e ∷ es) = (rw (le-leb 0 (offset_of s e.stamp) (omega arith)) (and-true_right (p e)), all es)
