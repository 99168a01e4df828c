-- What is told of the first fault of a text.
use Rattle.std.specs.Prelude.{◌≡◌, ◌<◌, ◌≤◌, ◌⊎◌, ℕ, ◌-◌, List, [], ◌++◌, get_or, length, Option}
use Rattle.lrc_lang.specs.declared.fault.FaultKind.{FaultKind}
use Rattle.lrc_lang.specs.declared.fault.FaultKind.TheVariants.{TooLong, Unexpected}
use Rattle.lrc_lang.specs.declared.kind.Kind.{Kind}
use Rattle.lrc_lang.specs.FirstFault.{IsFirstFaultOf}
use Rattle.lrc_lang.specs.Positions.{Located, HasLocated}
use Rattle.lrc_lang.specs.Token.{finish, Lexeme, token}
use Rattle.lrc_labels.specs.declared.cut.Divider.TheVariants.{LineFeed}
use Rattle.lrc_labels.specs.Cut.{cut, divides}
use Rattle.lrc_lint_lines.specs.Excerpt.{excerpt_text, without_return}
use Rattle.lrc_lint_lines.specs.Expected.{expected_text}
use Rattle.lrc_lint_lines.specs.Head.{fault_text, place_text, unexpected_end_text, unexpected_text}
use Rattle.lrc_lint_fault.specs.declared.hint.Hint.TheVariants as hints
use Rattle.lrc_lint_fault.specs.Hint.{hint_line, words_line}
use Rattle.lrc_lint_fault.specs.HintTable.{hint_of, seen}
use Rattle.lrc_lint_fault.specs.Spelled.{spelled}

abbrev pub unexpected_of : List ℕ → ℕ → Lexeme → List ℕ
unexpected_of text offset (token finish) = unexpected_end_text
unexpected_of text offset found = unexpected_text (spelled text offset found)

-- what was found
abbrev pub kind_of : FaultKind → List ℕ → Located → List ℕ
kind_of Unexpected text found = unexpected_of text found.offset found.lexeme
kind_of kind text found = fault_text kind

-- what may stand there, of a token that is unexpected
abbrev pub expected_of : FaultKind → List Kind → List ℕ
expected_of Unexpected may_stand = expected_text may_stand
expected_of kind may_stand = []

-- the line of a text that has this number, from 1
abbrev pub line_of : List ℕ → ℕ → List ℕ
line_of text row = without_return (get_or (cut (divides LineFeed) text) (row - 1) [])

-- all that is told of a fault
abbrev pub fault_lines : List ℕ → List ℕ → Located → FaultKind → List Kind → (hint : Option (List ℕ)) → List ℕ
fault_lines file text found kind may_stand hint =
    place_text file found.line found.column ++ kind_of kind text found ++ excerpt_text (line_of text found.line) found.column ++ words_line hint
    ++ expected_of kind may_stand

-- This is told of the first fault of a text: where it is, what it is, its line, the first hint of the table that applies, if one does, and
-- exactly what may stand there.
pub record TellsFault (file text printed : List ℕ) : Type 0 where
  pub all : List Located
  pub are : HasLocated text all
  pub index : ℕ
  pub kind : FaultKind
  pub may_stand : List Kind
  pub first : IsFirstFaultOf all index kind may_stand
  pub is : printed ≡ fault_lines file text first.has.found kind may_stand (hint_of kind (seen text first.has.front first.has.found may_stand))

-- what is told of a text that is too long
abbrev pub too_long_lines : List ℕ → List ℕ
too_long_lines file = place_text file 1 1 ++ fault_text TooLong ++ hint_line hints.TooLong

-- this is told of a text that is no program
abbrev pub TellsNoProgram : List ℕ → List ℕ → List ℕ → Type 0
TellsNoProgram file text printed =
    ((65536 < length text) × (printed ≡ too_long_lines file)) ⊎ ((length text ≤ 65536) × TellsFault file text printed)
