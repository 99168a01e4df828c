-- What an equation between options says.
use Rattle.std.proofs.Common.{◌≡◌, Some, None}

pub none_some : {A : Type 0} {x : A} → None ≡ Some x → ⊥
none_some q = cc

pub some_same : {A : Type 0} {x y : A} → Some x ≡ Some y → x ≡ y
some_same q = cc
