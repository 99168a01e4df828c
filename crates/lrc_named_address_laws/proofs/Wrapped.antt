-- Numbers modulo 2^64.
use Rattle.std.proofs.Common.{◌≡◌, ℕ, ◌+◌, ◌*◌, ◌-◌, ◌%◌, ◌<◌, ◌≤◌, ap, arith, ◌∙◌}
use Rattle.std.proofs.Math.Nat.{mod-eq_of_lt, add-mod_right}

pub once : (x m : ℕ) → x < m → (1 * x) % m ≡ x
once x m h = let e : 1 * x ≡ x = omega arith in ap (λ y. y % m) e ∙ mod-eq_of_lt h

pub never : (x m : ℕ) → 0 < m → (0 * x) % m ≡ 0
never x m h = let e : 0 * x ≡ 0 = omega arith in ap (λ y. y % m) e ∙ mod-eq_of_lt h

pub one_less : (x m : ℕ) → 1 ≤ m → x < m → (x + 1 + (m - 1)) % m ≡ x
one_less x m some h = let e : x + 1 + (m - 1) ≡ x + m = omega arith in ap (λ y. y % m) e ∙ add-mod_right x m ∙ mod-eq_of_lt h

pub below_zero : (m : ℕ) → 1 ≤ m → (0 + (m - 1)) % m ≡ m - 1
below_zero m some =
    let e : 0 + (m - 1) ≡ m - 1 = omega arith in
    let h : m - 1 < m = omega arith in ap (λ y. y % m) e ∙ mod-eq_of_lt h
