-- What a window covers, by interval and offset, and the ledger's sum over it. Assumes nothing.
use Rattle.std.proofs.Math.Bool.{Bool}
use Rattle.std.specs.Prelude.{true, false, cond, ◌&&◌, ◌≡◌, refl, List, [], ◌∷◌, leb}
use Rattle.std.proofs.Common.{sym, ◌∙◌, ⊎_elim, le-leb, eq-eqb, ne_eqb}
use Prim.Native.Nat.{ℕ, ◌+◌, ◌≤◌, ◌<◌}
use native.Mathlib.Omega.{arith}
use Rattle.std.proofs.lemmas.Bool.{lt-leb}
use Rattle.shape.specs.declared.Shape.{Shape}
use Rattle.model.specs.Block.{interval, offset_of, opening}
use Rattle.model.proofs.BlockLaws.{covers-none}
use Rattle.model.specs.Ledger.{Entry, volume_of, of_interval, of_window}
use Rattle.model.specs.Claim.{Each, Near}
use Rattle.laws.specs.Cond.{lt_or_ge, eq_or_ne, and-false}
use Rattle.ledger.specs.Time.{interval_mono, interval_lt, offset_le, tick_le}
use Rattle.ledger.specs.Grown.{volume_of_cong}

-- two comparisons that hold in the same cases
pub leb_same : (x y u v : ℕ) → (x ≤ y → u ≤ v) → (u ≤ v → x ≤ y) → leb x y ≡ leb u v
leb_same x y u v f g =
    ⊎_elim
    (λ (l : y < x). lt-leb x y l ∙ sym (lt-leb u v (⊎_elim (λ (p : v < u). p) (λ (q : u ≤ v). absurd (omega (arith, g q))) (lt_or_ge v u))))
    (λ (h : x ≤ y). le-leb x y h ∙ sym (le-leb u v (f h)))
    (lt_or_ge y x)

module _ (s : Shape) (start stamp : ℕ) where
  -- in the interval in which the window opens, a stamp is covered by its offset
  opens_within : interval s stamp ≡ interval s start → leb start stamp ≡ leb (offset_of s start) (offset_of s stamp)
  opens_within e = leb_same start stamp (offset_of s start) (offset_of s stamp) (offset_le s start stamp (sym e)) (tick_le s start stamp (sym e))

  -- a stamp of a later interval is covered, and one of an earlier interval is not
  opens_before : interval s start < interval s stamp → leb start stamp ≡ true
  opens_before h = le-leb start stamp (omega (arith, interval_lt s start stamp h))

  opens_after : interval s stamp < interval s start → leb start stamp ≡ false
  opens_after h = lt-leb start stamp (interval_lt s stamp start h)

-- ---- the ledger's sum by interval and offset

-- an entry that satisfies a test, in interval j and from offset a on
abbrev pub from_offset : Shape → (Entry → Bool) → ℕ → ℕ → Entry → Bool
from_offset s p j a e = of_interval s p j e && leb a (offset_of s e.stamp)

-- if each entry counts for p what it counts for q and r together, so do the sums
volume_of-sum : (p q r : Entry → Bool) (es : List Entry) → Each (λ e. cond (p e) e.volume 0 ≡ cond (q e) e.volume 0 + cond (r e) e.volume 0) es
    → volume_of p es ≡ volume_of q es + volume_of r es
volume_of-sum p q r [] h = refl
volume_of-sum p q r (e ∷ es) h = omega (arith, h.0, volume_of-sum p q r es h.1)

-- no entry is in window 0
pub window_none : (clock : ℕ) (p : Entry → Bool) (es : List Entry) → volume_of (of_window clock p 0) es ≡ 0
window_none clock p [] = refl
window_none clock p (e ∷ es) = rw (and-false (p e) (covers-none clock e.stamp), window_none clock p es)

module _ (s : Shape) (clock : ℕ) (p : Entry → Bool) (window : ℕ) where
  abbrev start : ℕ
  start = opening clock window

  abbrev a : ℕ
  a = offset_of s start

  abbrev current : ℕ
  current = interval s clock

  -- a window that opens in the current interval
  module _ (same : interval s start ≡ current) where
    own : (e : Entry) → e.stamp ≤ clock → of_window clock p window e ≡ from_offset s p current a e
    own e past =
        ⊎_elim
        (λ (here : interval s e.stamp ≡ current).
        rw (le-leb e.stamp clock past, opens_within s start e.stamp (here ∙ sym same), eq-eqb (interval s e.stamp) current here)
        (kept (p e) (leb a (offset_of s e.stamp))))
        (λ (there : interval s e.stamp ≡ current → ⊥).
        rw (opens_after s start e.stamp (omega (arith, interval_mono s past, there)), ne_eqb (interval s e.stamp) current there)
        (gone (p e) (leb a (offset_of s e.stamp))))
        (eq_or_ne (interval s e.stamp) current)
      where
        kept : (g t : Bool) → (g && (t && true)) ≡ ((g && true) && t)
        kept true true = refl
        kept true false = refl
        kept false t = refl

        gone : (g t : Bool) → (g && false) ≡ ((g && false) && t)
        gone true t = refl
        gone false t = refl

    pub window_own : (es : List Entry) → Each (λ e. e.stamp ≤ clock) es
        → volume_of (of_window clock p window) es ≡ volume_of (from_offset s p current a) es
    window_own es past = volume_of_cong s (of_window clock p window) (from_offset s p current a) es (each es past)
      where
        each : (es : List Entry) → Each (λ e. e.stamp ≤ clock) es → Each (λ e. of_window clock p window e ≡ from_offset s p current a e) es
        each [] h = tt
        each (e ∷ es) h = (own e h.0, each es h.1)

  -- a window that opens in the interval before
  module _ (before : interval s start + 1 ≡ current) where
    abbrev Parts : Entry → Type 0
    Parts e =
        cond (of_window clock p window e) e.volume 0
        ≡ cond (from_offset s p (interval s start) a e) e.volume 0 + cond (of_interval s p current e) e.volume 0

    parts : (e : Entry) → e.stamp ≤ clock → Parts e
    parts e past =
        let i : ℕ = interval s e.stamp in
        let g : Bool = p e in
        let t : Bool = leb a (offset_of s e.stamp) in
        rw (le-leb e.stamp clock past)
        (⊎_elim
        (λ (here : i ≡ current).
        rw (opens_before s start e.stamp (omega arith), ne_eqb i (interval s start) (λ q. omega arith), eq-eqb i current here) (later g t))
        (λ (there : i ≡ current → ⊥).
        ⊎_elim
        (λ (own : i ≡ interval s start).
        rw (opens_within s start e.stamp own, eq-eqb i (interval s start) own, ne_eqb i current there) (within g t))
        (λ (far : i ≡ interval s start → ⊥).
        rw (opens_after s start e.stamp (omega (arith, interval_mono s past, there, far)), ne_eqb i (interval s start) far, ne_eqb i current there)
        (outside g t))
        (eq_or_ne i (interval s start)))
        (eq_or_ne i current))
      where
        v : ℕ
        v = e.volume

        later : (g t : Bool) → cond (g && true) v 0 ≡ cond ((g && false) && t) v 0 + cond (g && true) v 0
        later true t = omega arith
        later false t = omega arith

        within : (g t : Bool) → cond (g && (t && true)) v 0 ≡ cond ((g && true) && t) v 0 + cond (g && false) v 0
        within true true = omega arith
        within true false = omega arith
        within false t = omega arith

        outside : (g t : Bool) → cond (g && false) v 0 ≡ cond ((g && false) && t) v 0 + cond (g && false) v 0
        outside true t = omega arith
        outside false t = omega arith

    pub window_before : (es : List Entry) → Each (λ e. e.stamp ≤ clock) es
        → volume_of (of_window clock p window) es ≡ volume_of (from_offset s p (interval s start) a) es + volume_of (of_interval s p current) es
    window_before es past =
        volume_of-sum (of_window clock p window) (from_offset s p (interval s start) a) (of_interval s p current) es (each es past)
      where
        each : (es : List Entry) → Each (λ e. e.stamp ≤ clock) es → Each Parts es
        each [] h = tt
        each (e ∷ es) h = (parts e h.0, each es h.1)

-- ---- the answer compared with the ledger's sum

-- nearness survives adding the same on both sides
pub near_more : (limit x y more : ℕ) → Near limit x y → Near limit (x + more) (y + more)
near_more limit x y more h = omega arith

pub near_none : {limit : ℕ} → Near limit 0 0
near_none = omega arith
