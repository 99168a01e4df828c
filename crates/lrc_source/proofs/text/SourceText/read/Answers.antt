use Rattle.std.proofs.Common.{◌≡◌, ◌∙◌, ℕ, List, MatchResult, Result, Ok, Err, ap, subst, sym}
use Rattle.lrc_lang.specs.Faults.{HasFirstFault, IsText}
use Rattle.std.specs.Prelude.{IsErrAnd}
use Rattle.lrc_lang.specs.declared.fault.ParseFault.{ParseFault}
use Rattle.lrc_lang.specs.Parser.SeenParser.{IsOutOfMemory}
use Rattle.lrc_program.specs.Tree.{ProgramTree, program_of}
use Rattle.lrc_source.specs.Sources.{SourceRecord}
use Rattle.lrc_source.proofs.text.SourceText.read.Goals as goal

-- a fault that is passed on is still that of want of memory
memory_up : (p : ProgramTree) (r : Result SourceRecord ParseFault) (fault : ParseFault) → IsErrAnd r (λ f. f ≡ fault) → IsOutOfMemory fault
    → MatchResult r (λ source. program_of source.program ≡ p) IsOutOfMemory
memory_up p (Ok source) fault is h = absurd is
memory_up p (Err f) fault is h = subst IsOutOfMemory (sym is) h

pub returns-in_err-program-clause-of_program : goal.returns-in_err-program-clause-of_program
returns-in_err-program-clause-of_program c p is =
    memory_up p c.from_residual.result c.in_err-program.field-0.0 c.from_residual.ensures.1
    (c.in_err-program.ensures.of_program p (subst (λ (t : List ℕ). IsText t p) (sym c.core.ensures) is))

pub returns-in-Ok-clause-of_program : goal.returns-in-Ok-clause-of_program
returns-in-Ok-clause-of_program c p is = ap program_of c.in-Ok.ensures.program ∙ c.in_ok-program.ensures.of_program p (subst (λ (t : List ℕ). IsText t p) (sym c.core.ensures) is)

pub returns-in-Ok-clause-of_fault : goal.returns-in-Ok-clause-of_fault
returns-in-Ok-clause-of_fault c line kind h =
    c.in_ok-program.ensures.of_fault line kind (subst (λ (t : List ℕ). HasFirstFault t line kind) (sym c.core.ensures) h)
