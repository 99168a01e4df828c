-- Accesses by kind.
use Rattle.std.proofs.Common.{◌≡◌, ℕ, List, refl}
use Rattle.std.specs.Prelude.{Bool, true, false}
use Rattle.lrc_trace.specs.declared.act.Act.{Act}
use Rattle.lrc_trace.proofs.Positions.{Does-one_node, Does-one_deed}
use Rattle.lrc_judge.proofs.Segments.{AccessesBy}

-- one access stands at a position
pub one_access : (run : List Act) (n : ℕ) (v w : Bool) (p q x y : ℕ) → AccessesBy v run n p x → AccessesBy w run n q y → (v ≡ w) × (p ≡ q) × (x ≡ y)
one_access run n true true p q x y (v, a) (w, b) = let e = Does-one_deed a b in let same : x ≡ y = cc in (refl, Does-one_node a b, same)
one_access run n false false p q x y (v, a) (w, b) = let e = Does-one_deed a b in let same : x ≡ y = cc in (refl, Does-one_node a b, same)
one_access run n true false p q x y (v, a) (w, b) = let e = Does-one_deed a b in let never : ⊥ = cc in absurd never
one_access run n false true p q x y (v, a) (w, b) = let e = Does-one_deed a b in let never : ⊥ = cc in absurd never
