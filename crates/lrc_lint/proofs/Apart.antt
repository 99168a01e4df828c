-- What is told of a text tells whether it has a first fault.
use Rattle.std.proofs.Common.{ℕ, List, [], refl, subst, arith, inl, inr}
use Rattle.lrc_lang.specs.declared.fault.FaultKind.{FaultKind}
use Rattle.lrc_lang.specs.declared.fault.FaultKind.TheVariants.{TooLong}
use Rattle.lrc_lang.specs.Faults.{HasFirstFault, IsFirstFault}
use Rattle.lrc_lang.proofs.FirstFaults.{first_of_text}
use Rattle.lrc_lang.proofs.LexemesUnique.{unique}
use Rattle.lrc_lang.proofs.OneAnswer.{no_fault}
use Rattle.lrc_lint_fault.specs.Told.{TellsNoProgram}
use Rattle.lrc_lint.specs.Linted.{LintsProgram}

pub has_a_fault : (file text printed : List ℕ) → TellsNoProgram file text printed → (line : ℕ) × (kind : FaultKind) × HasFirstFault text line kind
has_a_fault file text printed (inl long) = (1, TooLong, inl (long.0, refl, refl))
has_a_fault file text printed (inr short) =
    let told = short.1 in
    (_, told.kind, first_of_text text told.all told.index told.kind told.may_stand short.0 told.are told.first)

pub has_no_fault : (file text printed : List ℕ) → LintsProgram file text printed → (line : ℕ) (kind : FaultKind) → HasFirstFault text line kind → ⊥
has_no_fault file text printed told line kind (inl long) = omega (arith, told.is_program.fits, long.0)
has_no_fault file text printed told line kind (inr short) =
    let is = told.is_program in
    no_fault [] is.lexemes is.tokens line kind is.faultless (subst (λ lexemes. IsFirstFault [] lexemes line kind) (unique short.2 is.lexed) short.3)
