-- What is told of the first fault of a text that is read as a named program.
use Rattle.std.specs.Prelude.{◌≡◌, ◌<◌, ◌≤◌, ◌⊎◌, ℕ, List, [], ◌++◌, codes, length, Option}
use Rattle.lrc_lang.specs.declared.fault.FaultKind.{FaultKind}
use Rattle.lrc_lang.specs.declared.fault.FaultKind.TheVariants.{OverLimit, Unexpected}
use Rattle.lrc_lint_lines.specs.Excerpt.{excerpt_text}
use Rattle.lrc_lint_lines.specs.Head.{fault_text, kind_text, place_text, unexpected_end_text, unexpected_text}
use Rattle.lrc_lint_fault.specs.Hint.{words_line}
use Rattle.lrc_lint_fault.specs.Told.{line_of, too_long_lines}
use Rattle.lrc_named_tokens.specs.Lexemes.{HasLexemes}
use Rattle.lrc_named_tokens.specs.Token.{finish, Lexeme, token, Located}
use Rattle.lrc_named_may.specs.declared.kind.Kind.{Kind}
use Rattle.lrc_named_may.specs.FirstFault.{IsFirstFaultOf}
use Rattle.lrc_named_expected.specs.Expected.{expected_text}
use Rattle.lrc_named_hints.specs.HintTable.{hint_of, seen}
use Rattle.lrc_named_hints.specs.Spelled.{spelled}

-- a fault of a token, as it is spelled
abbrev pub token_fault_text : List ℕ → List ℕ → List ℕ
token_fault_text words spelling = codes "error: " ++ words ++ codes " `" ++ spelling ++ codes "`\n"

abbrev pub unexpected_of : List ℕ → ℕ → Lexeme → List ℕ
unexpected_of text offset (token finish) = unexpected_end_text
unexpected_of text offset found = unexpected_text (spelled text offset found)

-- what was found
abbrev pub kind_of : FaultKind → List ℕ → Located → List ℕ
kind_of Unexpected text found = unexpected_of text found.place.offset found.lexeme
kind_of OverLimit text found = token_fault_text (kind_text OverLimit) (spelled text found.place.offset found.lexeme)
kind_of kind text found = fault_text kind

-- what may stand there, of a token that is unexpected
abbrev pub expected_of : FaultKind → List Kind → List ℕ
expected_of Unexpected may_stand = expected_text may_stand
expected_of kind may_stand = []

-- all that is told of a fault
abbrev pub fault_lines : List ℕ → List ℕ → Located → FaultKind → List Kind → (hint : Option (List ℕ)) → List ℕ
fault_lines file text found kind may_stand hint =
    place_text file found.place.line found.place.column ++ kind_of kind text found
    ++ excerpt_text (line_of text found.place.line) found.place.column ++ words_line hint ++ expected_of kind may_stand

-- This is told of the first fault of a text: where it is, what it is, its line, the first hint of the table that applies, if one does, and
-- exactly what may stand there.
pub record TellsTextFault (file text printed : List ℕ) : Type 0 where
  pub all : List Located
  pub are : HasLexemes text all
  pub index : ℕ
  pub kind : FaultKind
  pub may_stand : List Kind
  pub first : IsFirstFaultOf all index kind may_stand
  pub is : printed ≡ fault_lines file text first.has.found kind may_stand (hint_of kind (seen text first.has.front first.has.found may_stand))

-- this is told of a text that has a fault as such
abbrev pub TellsText : List ℕ → List ℕ → List ℕ → Type 0
TellsText file text printed =
    ((65536 < length text) × (printed ≡ too_long_lines file)) ⊎ ((length text ≤ 65536) × TellsTextFault file text printed)
