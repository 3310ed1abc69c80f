-- What it means to pass the tests of the limits. Assumes nothing.
use Rattle.std.specs.Prelude.{Some, None, Bool, ◌&&◌, List, ℕ, ◌≤◌, get_or}
use Rattle.std.proofs.Math.Bool.{true, false}
use Rattle.std.proofs.Math.Path.{◌≡◌, refl, ap}
use Rattle.std.proofs.Common.{arith, leb-true}
use Rattle.shape.specs.declared.Shape.{Shape}
use Rattle.shape.specs.Limits.{Reply, between, within, shaped, checked, reply_of}

-- both parts of a conjunction hold if it does
pub both : {a b : Bool} → (a && b) ≡ true → (a ≡ true) × (b ≡ true)
both {a} {b} e = go a b e
  where
    go : (a b : Bool) → (a && b) ≡ true → (a ≡ true) × (b ≡ true)
    go true b e = (cc, e)
    go false b e = (e, cc)

pub between_limits : (low x high : ℕ) → between low x high ≡ true → (low ≤ x) × (x ≤ high)
between_limits low x high e = let p = both e in (leb-true low x p.0, leb-true x high p.1)

-- the limits of a shape, as facts
pub record Limits (k n m g : ℕ) : Type 0 where
  pub low_k : 2 ≤ k
  pub high_k : k ≤ 20
  pub low_n : 2 ≤ n
  pub high_n : n ≤ 1024
  pub low_m : 1 ≤ m
  pub high_m : m ≤ 24
  pub low_g : 1 ≤ g
  pub high_g : g ≤ 8

pub within_limits : (k n m g : ℕ) → within k n m g ≡ true → Limits k n m g
unfolding within
within_limits k n m g e =
    let k_rest = both e in
    let n_rest = both k_rest.1 in
    let m_g = both n_rest.1 in
    omega (
      arith,
      between_limits 2 k 20 k_rest.0,
      between_limits 2 n 1024 n_rest.0,
      between_limits 1 m 24 m_g.0,
      between_limits 1 g 8 m_g.1,
    )

-- ---- what the constructor's answer means

-- the shape that has these values
abbrev pub shape_in : List ℕ → Shape
shape_in vs = record { k = get_or vs 0 0; n = get_or vs 1 0; m = get_or vs 2 0; g = get_or vs 3 0; last = get_or vs 4 0 }

module _ (k n m g : ℕ) where
  pub checked-within : (s : Shape) → reply_of (Some s) ≡ checked k n m g → (within k n m g ≡ true) × (s ≡ shaped k n m g)
  unfolding reply_of checked
  checked-within s e = go (within k n m g) refl
    where
      go : (t : Bool) → within k n m g ≡ t → (within k n m g ≡ true) × (s ≡ shaped k n m g)
      go true h = (h, ap (λ (r : Reply). shape_in r.values) (rw h at e))
      go false h = let none : ◌≡◌ {A = ℕ} 0 1 = ap (λ (r : Reply). r.number) (rw h at e) in absurd (omega arith)

  pub checked_outside : reply_of None ≡ checked k n m g → within k n m g ≡ false
  unfolding reply_of checked
  checked_outside e = go (within k n m g) refl
    where
      go : (t : Bool) → within k n m g ≡ t → within k n m g ≡ false
      go true h = let none : ◌≡◌ {A = ℕ} 1 0 = ap (λ (r : Reply). r.number) (rw h at e) in absurd (omega arith)
      go false h = h
