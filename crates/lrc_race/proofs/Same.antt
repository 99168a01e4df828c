-- One value.
use Rattle.std.proofs.Common.{◌≡◌, Some}

-- what is got at one place of a list is one
pub some_same : {X : Type 0} (x y : X) → Some x ≡ Some y → x ≡ y
some_same x y is = cc
