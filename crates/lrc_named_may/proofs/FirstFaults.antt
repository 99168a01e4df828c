-- The first fault by its place among the lexemes is the first fault of the text.
use Rattle.std.proofs.Common.{◌≤◌, ℕ, List, [], ◌∷◌, ◌++◌, length, refl, sym, ap, subst, ◌∙◌, inl, inr, append_assoc, append-nil, arith}
use Rattle.lrc_lang.specs.declared.fault.FaultKind.{FaultKind}
use Rattle.lrc_named_tokens.specs.Lexemes.{HasLexemes}
use Rattle.lrc_named_tokens.specs.Token.{Token, Located, Place}
use Rattle.lrc_named_tokens.proofs.Unique.{unique}
use Rattle.lrc_named_parse.specs.Faults.{IsFirstFault, AreFaultless, HasFirstFault}
use Rattle.lrc_named_parse.proofs.OneAnswer.{no_fault}
use Rattle.lrc_named_may.specs.declared.kind.Kind.{Kind}
use Rattle.lrc_named_may.specs.FirstFault.{IsFirstFaultOf}

-- behind what has no fault, the first fault is the first of all
first_behind : (before : List Token) (passed rest : List Located) (tokens : List Token) (place : Place) (kind : FaultKind) → AreFaultless before passed tokens
    → IsFirstFault (before ++ tokens) rest place kind → IsFirstFault before (passed ++ rest) place kind
first_behind before [] rest tokens place kind are h =
    subst (λ b. IsFirstFault b rest place kind) (ap (λ ts. before ++ ts) are ∙ append-nil before) h
first_behind before (next ∷ passed) rest [] place kind are h = absurd are
first_behind before (next ∷ passed) rest (t ∷ tokens) place kind are h =
    inr (
      t,
      are.0,
      are.1,
      first_behind (before ++ t ∷ []) passed rest tokens place kind are.2
          (subst (λ b. IsFirstFault b rest place kind) (sym (append_assoc before (t ∷ []) tokens)) h),
    )

pub first_of_text : (text : List ℕ) (all : List Located) (index : ℕ) (kind : FaultKind) (may_stand : List Kind) → length text ≤ 65536 → HasLexemes text all
    → (first : IsFirstFaultOf all index kind may_stand) → HasFirstFault text first.has.found.place kind
first_of_text text all index kind may_stand fits are first =
    let h = first.has in
    let here = first_behind [] h.front (h.found ∷ h.others) first.before h.found.place kind h.faultless (inl (h.fault, refl)) in
    inr (fits, all, are, subst (λ lexemes. IsFirstFault [] lexemes h.found.place kind) (sym h.split) here)

-- where none of what stands in a text has a fault, the text has none
pub no_first_fault : (text : List ℕ) (all : List Located) (tokens : List Token) → length text ≤ 65536 → HasLexemes text all
    → AreFaultless [] all tokens → (place : Place) (kind : FaultKind) → HasFirstFault text place kind → ⊥
no_first_fault text all tokens fits are faultless place kind (inl long) = omega (arith, fits, long.0)
no_first_fault text all tokens fits are faultless place kind (inr short) =
    no_fault [] all tokens place kind faultless (subst (λ lexemes. IsFirstFault [] lexemes place kind) (unique short.2 are) short.3)
