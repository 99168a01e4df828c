-- What a call answers, handed up.
use Rattle.std.proofs.Common.{◌≡◌, Result, Ok, Err, IfErr, IsErrAnd, OnOk, sym, subst}

-- a fault is handed up as it is
pub fault_up : {T F : Type 0} (r : Result T F) (fault : F) (P : F → Type 0) → IsErrAnd r (λ f. f ≡ fault) → P fault → IfErr r P
fault_up (Ok x) fault P is h = tt
fault_up (Err f) fault P is h = subst P (sym is) h

-- what is said of a fault says something else of it
pub fault_says : {T F : Type 0} {P Q : F → Type 0} (r : Result T F) → ((fault : F) → P fault → Q fault) → IfErr r P → IfErr r Q
fault_says (Ok x) turn is = tt
fault_says (Err f) turn is = turn f is

-- what is known of success says something else
pub ok_says : {T F P Q : Type 0} (r : Result T F) → (P → Q) → OnOk r P → OnOk r Q
ok_says (Ok x) turn is = turn is
ok_says (Err f) turn is = tt
