-- Case distinctions by a test on numbers; tests whose outcome is known. Assumes nothing.
use Rattle.std.specs.Prelude.{Bool, true, false, not, cond, ◌&&◌, ◌≡◌, refl, ◌⊎◌, ℕ, ◌≤◌, ◌<◌, T, leb, ltb, eqb}
use Rattle.std.proofs.Common.{inl, inr, leb→le, ltb→lt, nltb→le, eqb→eq, T_not}
use Rattle.std.proofs.Math.Dec.{nleb→lt, eqb_refl}

pub by_test : {A : Type 0} (P : A → Type 0) {a b : A} (t : Bool) → (T t → P a) → (T (not t) → P b) → P (cond t a b)
by_test P true f g = f tt
by_test P false f g = g tt

module _ {A : Type 0} {a b : A} where
  pub by_lt : (x y : ℕ) (P : A → Type 0) → (x < y → P a) → (y ≤ x → P b) → P (cond (ltb x y) a b)
  by_lt x y P f g = by_test P (ltb x y) (λ t. f (ltb→lt x y t)) (λ t. g (nltb→le x y t))

  pub by_le : (x y : ℕ) (P : A → Type 0) → (x ≤ y → P a) → (y < x → P b) → P (cond (leb x y) a b)
  by_le x y P f g = by_test P (leb x y) (λ t. f (leb→le x y t)) (λ t. g (nleb→lt x y t))

  pub by_eq : (x y : ℕ) (P : A → Type 0) → (x ≡ y → P a) → ((x ≡ y → ⊥) → P b) → P (cond (eqb x y) a b)
  by_eq x y P f g = by_test P (eqb x y) (λ t. f (eqb→eq x y t)) (λ t. g (λ e. T_not (eqb x y) t (rw e (eqb_refl y))))

-- one number is below the other, or not
pub lt_or_ge : (x y : ℕ) → (x < y) ⊎ (y ≤ x)
lt_or_ge x y = go (ltb x y) (λ t. ltb→lt x y t) (λ t. nltb→le x y t)
  where
    go : (t : Bool) → (T t → x < y) → (T (not t) → y ≤ x) → (x < y) ⊎ (y ≤ x)
    go true f g = inl (f tt)
    go false f g = inr (g tt)

-- two numbers are equal, or not
pub eq_or_ne : (x y : ℕ) → (x ≡ y) ⊎ (x ≡ y → ⊥)
eq_or_ne x y = by_eq {a = true} {b = true} x y (λ _. (x ≡ y) ⊎ (x ≡ y → ⊥)) inl inr

-- a conjunction from its parts
pub and-true : {a b : Bool} → a ≡ true → b ≡ true → (a && b) ≡ true
and-true {a} {b} p q = rw (p, q)

-- a conjunction whose second part fails
pub and-false : (a : Bool) {b : Bool} → b ≡ false → (a && b) ≡ false
and-false true e = e
and-false false e = refl

-- case distinction by a conjunction
pub by_both : {A : Type 0} (P : A → Type 0) {a b : A} (s t : Bool) → (T s → T t → P a) → ((T s → T t → ⊥) → P b) → P (cond (s && t) a b)
by_both P true true f g = f tt tt
by_both P true false f g = g (λ _ h. h)
by_both P false t f g = g (λ h _. h)
