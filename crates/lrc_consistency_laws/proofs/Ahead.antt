-- What a run has at a position, and what is still to come.
use Rattle.std.proofs.Common.{◌≡◌, ℕ, zero, suc, List, [], ◌∷◌, ◌++◌, take, drop, ap}
use Rattle.std.specs.Prelude.{Some, slice_get}
use Rattle.lrc_trace.specs.declared.act.Act.{Act}
use Rattle.lrc_trace.specs.Run.{Does}

-- the first of what is still to come stands at the position
pub slice_get_ahead : {A : Type 0} → (xs : List A) (j : ℕ) (x : A) (more : List A) → drop j xs ≡ x ∷ more → slice_get xs j ≡ Some x
slice_get_ahead [] zero x more e = cc
slice_get_ahead [] (suc j) x more e = cc
slice_get_ahead (y ∷ xs) zero x more e = cc
slice_get_ahead (y ∷ xs) (suc j) x more e = slice_get_ahead xs j x more e

-- and the others are still to come after it
pub drop_ahead : {A : Type 0} → (xs : List A) (j : ℕ) (x : A) (more : List A) → drop j xs ≡ x ∷ more → drop (suc j) xs ≡ more
drop_ahead [] zero x more e = cc
drop_ahead [] (suc j) x more e = cc
drop_ahead (y ∷ xs) zero x more e = cc
drop_ahead (y ∷ xs) (suc j) x more e = drop_ahead xs j x more e

pub does_ahead : (run : List Act) (j : ℕ) (a : Act) (more : List Act) → drop j run ≡ a ∷ more → Does run j a.node a.deed
does_ahead run j a more e = record { stands = slice_get_ahead run j a more e }

-- what was done before, and one act more
pub take_ahead : {A : Type 0} → (xs : List A) (j : ℕ) (x : A) → slice_get xs j ≡ Some x → take (suc j) xs ≡ take j xs ++ x ∷ []
take_ahead [] j x e = cc
take_ahead (y ∷ xs) zero x e = cc
take_ahead (y ∷ xs) (suc j) x e = ap (λ zs. y ∷ zs) (take_ahead xs j x e)
