-- The words of a reason.
use Rattle.std.proofs.Common.{◌≡◌, ℕ, List, ◌++◌, sym, ap, ◌∙◌, append_assoc}
use Rattle.lrc_races_witness.specs.declared.relation.Relation.{Relation}
use Rattle.lrc_races_witness.specs.Spelled.{reason_text}

-- what is added for a relation is added for the one that it is
pub reasoned : (names : List (List ℕ)) (first second : ℕ) (old new : List ℕ) {relation other : Relation} → relation ≡ other
    → new ≡ old ++ reason_text names first second other → new ≡ old ++ reason_text names first second relation
reasoned names first second old new e h = h ∙ ap (λ r. old ++ reason_text names first second r) (sym e)

-- two parts, one behind the other
pub two : (old one other between new text : List ℕ) → between ≡ old ++ one → new ≡ between ++ other → other ≡ text → new ≡ old ++ (one ++ text)
two old one other between new text e f g =
    f ∙ ap (λ xs. xs ++ other) e ∙ append_assoc old one other ∙ ap (λ ys. old ++ (one ++ ys)) g
