-- Less divided by more is no more.
use Rattle.std.proofs.Common.{ℕ, ◌*◌, ◌/◌, ◌<◌, ◌≤◌, arith}
use Rattle.std.proofs.Math.Nat.{div-mul-le_self, mul-le-mul_left}
use Rattle.std.proofs.lemmas.Nat.{le-div}

up_to : (x y z w : ℕ) → x ≤ y → y ≤ z → z ≤ w → x ≤ w
up_to x y z w p q r = omega (arith, p, q, r)

pub quotients : (m a n b : ℕ) → m ≤ a → b ≤ n → 0 < b → m / n ≤ a / b
quotients m a n b le ge some =
    le-div (m / n) a b some (up_to (m / n * b) (m / n * n) m a (mul-le-mul_left (m / n) ge) (div-mul-le_self m n) le)
