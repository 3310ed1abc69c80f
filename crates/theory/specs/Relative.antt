-- When the error of a sum keeps the relative bound, the factor of SPECIFICATION 9.3. Assumes nothing.
use Rattle.std.specs.Prelude.{◌≡◌, ℕ, ◌+◌, ◌-◌, ◌*◌, ◌≤◌}
use Rattle.std.proofs.Common.{ap, add-mul, mul-le-mul_left, mul-le-mul_right, arith}
use Rattle.model.specs.Claim.{Admits, Near}

-- an error of at most 2 * (k + 1) * q, and a count of at least (n - k - 1) * q, give the bound
pub ratio : (book exact q k n : ℕ) → k + 1 ≤ n → Near ((k + 1) * (2 * q)) book exact → n * q ≤ exact + (k + 1) * q → Admits n k book exact
ratio book exact q k n room close many =
    let m = n - (k + 1) in
    let parts : n ≡ m + (k + 1) = omega arith in
    let product = ap (λ (z : ℕ). z * q) parts in
    let enough : m * q ≤ exact = omega arith in
    omega (arith, mul-le-mul_left (k + 1) enough, mul-le-mul_right m close.above, mul-le-mul_right m close.below)

-- adding the same exact volume on both sides keeps the bound
pub admits_more : (n k book exact more : ℕ) → Admits n k book exact → Admits n k (book + more) (exact + more)
admits_more n k book exact more a = omega (arith, add-mul book more (n - (k + 1)), add-mul exact more (n - (k + 1)))
