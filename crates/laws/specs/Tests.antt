-- A test and the fact that it decides, for each way to build a test. Assumes nothing.
use Rattle.std.specs.Prelude.{Bool, true, false, ◌&&◌, ◌||◌, ◌≡◌, refl, ◌↔◌, ◌⊎◌, ℕ, ◌≤◌, ◌<◌, leb, ltb, eqb}
use Rattle.std.proofs.Common.{sym, inl, inr, arith, ltb-true, leb-true, eqb-true, lt-ltb, le-leb, eq-eqb}
use Rattle.shape.specs.LimitsLaws.{both}
use Rattle.model.specs.Sound.{implies}
use Rattle.laws.specs.Cond.{and-true}

-- the test b is true exactly if P holds
abbrev pub Tests : Bool → Type 0 → Type 0
Tests b P = (b ≡ true) ↔ P

pub tests_same : {b : Bool} {P Q : Type 0} → Tests b P → (P → Q) → (Q → P) → Tests b Q
tests_same f to from = (λ e. to (f.0 e), λ q. f.1 (from q))

-- two tests of the same fact are equal
pub tests_equal : {a b : Bool} {P : Type 0} → Tests a P → Tests b P → a ≡ b
tests_equal {a} {b} {P} f g = go a b (λ e. g.1 (f.0 e)) (λ e. f.1 (g.0 e))
  where
    go : (s t : Bool) → (s ≡ true → t ≡ true) → (t ≡ true → s ≡ true) → s ≡ t
    go true t p q = sym (p refl)
    go false true p q = q refl
    go false false p q = refl

pub leb_tests : (x y : ℕ) → Tests (leb x y) (x ≤ y)
leb_tests x y = (leb-true x y, le-leb x y)

pub ltb_tests : (x y : ℕ) → Tests (ltb x y) (x < y)
ltb_tests x y = (ltb-true x y, lt-ltb x y)

pub eqb_tests : (x y : ℕ) → Tests (eqb x y) (x ≡ y)
eqb_tests x y = (eqb-true x y, eq-eqb x y)

never : {P : Type 0} → false ≡ true → P
never e = absurd (let z : ◌≡◌ {A = ℕ} 0 1 = cc in omega arith)

pub and_tests : {a b : Bool} {P Q : Type 0} → Tests a P → Tests b Q → Tests (a && b) (P × Q)
and_tests f g = (λ e. let p = both e in (f.0 p.0, g.0 p.1), λ q. and-true (f.1 q.0) (g.1 q.1))

-- one more test, between the first and the others
pub and-between : (a t b : Bool) {P : Type 0} → Tests (a && b) P → Tests (a && (t && b)) ((t ≡ true) × P)
and-between true true b f = (λ e. (refl, f.0 e), λ q. f.1 q.1)
and-between true false b f = (λ e. never e, λ q. q.0)
and-between false t b f = (λ e. never e, λ q. f.1 q.1)

pub or_tests : {a b : Bool} {P Q : Type 0} → Tests a P → Tests b Q → Tests (a || b) (P ⊎ Q)
or_tests {a} {b} {P} {Q} f g = go a f
  where
    or_else : (t : Bool) → Tests t P → P ⊎ Q → (t || b) ≡ true
    or_else true h _ = refl
    or_else false h (inl p) = never (h.1 p)
    or_else false h (inr q) = g.1 q

    go : (t : Bool) → Tests t P → Tests (t || b) (P ⊎ Q)
    go true h = (λ _. inl (h.0 refl), or_else true h)
    go false h = (λ e. inr (g.0 e), or_else false h)

pub implies_tests : {a b : Bool} {P Q : Type 0} → Tests a P → Tests b Q → Tests (implies a b) (P → Q)
implies_tests {a} {b} {P} {Q} f g = go a f
  where
    go : (t : Bool) → Tests t P → Tests (implies t b) (P → Q)
    go true h = (λ e _. g.0 e, λ q. g.1 (q (h.0 refl)))
    go false h = (λ _ p. never (h.1 p), λ _. refl)
