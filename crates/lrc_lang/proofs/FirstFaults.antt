-- The first fault by its place is the first fault of the text.
use Rattle.std.proofs.Common.{◌≡◌, ◌≤◌, ℕ, List, [], ◌∷◌, ◌++◌, length, map, refl, sym, ap, subst, ◌∙◌, inl, inr, append_assoc, append-nil, arith}
use Rattle.std.proofs.lemmas.List.{map-append}
use Rattle.lrc_lang.specs.declared.fault.FaultKind.{FaultKind}
use Rattle.lrc_lang.specs.declared.kind.Kind.{Kind}
use Rattle.lrc_lang.specs.Token.{Token, Placed}
use Rattle.lrc_lang.specs.Lexemes.{Lexes}
use Rattle.lrc_lang.specs.Faults.{IsFirstFault, AreFaultless, HasFirstFault}
use Rattle.lrc_lang.specs.FirstFault.{placed, IsFirstFaultOf}
use Rattle.lrc_lang.specs.Positions.{Located, HasLocated}
use Rattle.lrc_lang.proofs.LexemesUnique.{unique}
use Rattle.lrc_lang.proofs.Located.{lexed_located}
use Rattle.lrc_lang.proofs.OneAnswer.{no_fault}

-- behind what has no fault, the first fault is the first of all
first_behind : (before : List Token) (passed rest : List Placed) (tokens : List Token) (line : ℕ) (kind : FaultKind) → AreFaultless before passed tokens
    → IsFirstFault (before ++ tokens) rest line kind → IsFirstFault before (passed ++ rest) line kind
first_behind before [] rest tokens line kind are h =
    subst (λ b. IsFirstFault b rest line kind) (ap (λ ts. before ++ ts) are ∙ append-nil before) h
first_behind before (next ∷ passed) rest [] line kind are h = absurd are
first_behind before (next ∷ passed) rest (t ∷ tokens) line kind are h =
    inr (
      t,
      are.0,
      are.1,
      first_behind (before ++ t ∷ []) passed rest tokens line kind are.2
          (subst (λ b. IsFirstFault b rest line kind) (sym (append_assoc before (t ∷ []) tokens)) h),
    )

pub first_of_text : (text : List ℕ) (all : List Located) (index : ℕ) (kind : FaultKind) (may_stand : List Kind) → length text ≤ 65536 → HasLocated text all
    → (first : IsFirstFaultOf all index kind may_stand) → HasFirstFault text first.has.found.line kind
first_of_text text all index kind may_stand fits are first =
    let h = first.has in
    let seen = ap (map placed) h.split ∙ map-append placed h.front (h.found ∷ h.others) in
    let here = first_behind [] (map placed h.front) (map placed (h.found ∷ h.others)) first.before h.found.line kind h.faultless (inl (h.fault, refl)) in
    inr (fits, map placed all, lexed_located are, subst (λ lexemes. IsFirstFault [] lexemes h.found.line kind) (sym seen) here)

-- where none of what stands in a text has a fault, the text has none
pub no_first_fault : (text : List ℕ) (all : List Located) (tokens : List Token) → length text ≤ 65536 → HasLocated text all
    → AreFaultless [] (map placed all) tokens → (line : ℕ) (kind : FaultKind) → HasFirstFault text line kind → ⊥
no_first_fault text all tokens fits are faultless line kind (inl long) = omega (arith, fits, long.0)
no_first_fault text all tokens fits are faultless line kind (inr short) =
    no_fault [] (map placed all) tokens line kind faultless
    (subst (λ lexemes. IsFirstFault [] lexemes line kind) (unique short.2 (lexed_located are)) short.3)
