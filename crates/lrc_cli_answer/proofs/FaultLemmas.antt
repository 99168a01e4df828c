-- Faults that are passed on.
use Rattle.std.proofs.Common.{◌≡◌, ◌⊎◌, inl, inr, ℕ, List, Result, Ok, Err, IfErr, IsErrAnd, sym, subst}
use Rattle.lrc_lang.specs.Faults.{HasFirstFault}
use Rattle.lrc_lang.specs.Parser.SeenParser.{IsOutOfMemory}
use Rattle.lrc_lang.specs.declared.fault.FaultKind.{FaultKind}
use Rattle.lrc_lang.specs.declared.fault.FaultKind.TheVariants as faults
use Rattle.lrc_lang.specs.declared.fault.ParseFault.{ParseFault}
use Rattle.lrc_cli_answer.specs.FaultLine.{fault_of_kind, fault_of_text}
use Rattle.lrc_cli_answer.specs.Texts.{IsTextFault}
use Rattle.lrc_cli_answer.specs.declared.fault.Fault.{Fault}

-- a fault that is passed on
pub fault_up : {T : Type 0} (r : Result T Fault) (fault : Fault) (P : Fault → Type 0) → IsErrAnd r (λ f. f ≡ fault) → P fault → IfErr r P
fault_up (Ok x) fault P is h = tt
fault_up (Err f) fault P is h = subst P (sym is) h

-- the first fault of a text, as it is told
text_fault_at : (text : List ℕ) (line : ℕ) (kind : FaultKind) → ((kind ≡ faults.NoMemory) × (line ≡ 0)) ⊎ HasFirstFault text line kind
    → IsTextFault text (fault_of_kind line kind)
text_fault_at text line faults.NoMemory h = tt
text_fault_at text line kind (inl e) = subst (λ (k : FaultKind). IsTextFault text (fault_of_kind line k)) (sym e.0) tt
text_fault_at text line _ (inr h) = h

pub text_fault : (text : List ℕ) (fault : ParseFault) → IsOutOfMemory fault ⊎ HasFirstFault text fault.line fault.kind
    → IsTextFault text (fault_of_text fault)
text_fault text fault h = text_fault_at text fault.line fault.kind h
