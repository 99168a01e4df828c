-- What is added to a text, one behind the other.
use Rattle.std.proofs.Common.{◌≡◌, ◌∙◌, ◌++◌, OnOk, Result, Ok, Err, List, ap, append_assoc}

pub on_ok : {T E : Type 0} (r : Result T E) (P Q : Type 0) → (P → Q) → OnOk r P → OnOk r Q
on_ok (Ok x) P Q f h = f h
on_ok (Err e) P Q f h = tt

-- a text that has had this added, and has this added now
pub added : {X : Type 0} (first before here old new : List X) → old ≡ first ++ before → new ≡ old ++ here → new ≡ first ++ (before ++ here)
added first before here old new was now = now ∙ ap (λ l. l ++ here) was ∙ append_assoc first before here

-- the same, where what is added is said in another way
pub added_as : {X : Type 0} (first before here said old new : List X) → here ≡ said → old ≡ first ++ before → new ≡ old ++ here
    → new ≡ first ++ (before ++ said)
added_as first before here said old new same was now =
    added first before here old new was now ∙ ap (λ l. first ++ (before ++ l)) same
