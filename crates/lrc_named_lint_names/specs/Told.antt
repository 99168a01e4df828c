-- What is told of the first fault of the names of a named program.
use Rattle.std.specs.Prelude.{◌≡◌, ℕ, List, ◌++◌, get_or, Option, Some}
use Rattle.lrc_lint_lines.specs.Excerpt.{excerpt_text}
use Rattle.lrc_lint_lines.specs.Head.{place_text}
use Rattle.lrc_lint_fault.specs.Hint.{words_line}
use Rattle.lrc_lint_fault.specs.Told.{line_of}
use Rattle.lrc_named_tokens.specs.Token.{finish, token, Located}
use Rattle.lrc_named_tree.specs.Tree.{Named, NamedTree}
use Rattle.lrc_named_entries.specs.Entry.{Entry, entries_of, first_nodes, parameters_around}
use Rattle.lrc_named_expression_faults.specs.declared.fault.Fault.{Fault}
use Rattle.lrc_named_expression_faults.specs.declared.fault.FaultKind.{FaultKind}
use Rattle.lrc_named_expression_faults.specs.Fault.{words_of}
use Rattle.lrc_named_hints.specs.Spelled.{spelled}
use Rattle.lrc_named_lint.specs.Told.{token_fault_text}
use Rattle.lrc_named_name_hints.specs.Hints.{IsHintOf}
use Rattle.lrc_named_name_hints.specs.Seen.{Seen}

-- past the last token
abbrev pub nowhere : Located
nowhere = record { place = record { line = 0; column = 0; offset = 0 }; lexeme = token finish }

abbrev pub seen_by : List Located → List Entry → List Named → (counted : Option ℕ) → (at : ℕ) → Seen
seen_by tokens entries parameters counted at =
    record { tokens = tokens; entries = entries; parameters = parameters; counted = counted; at = at }

-- what the hint on a fault of a token goes by
abbrev pub seen_in : List Located → NamedTree → ℕ → Seen
seen_in tokens tree at = seen_by tokens (entries_of tree.declarations) (parameters_around at tree.declarations) (first_nodes tree.declarations) at

-- where a fault is, which it is, and its line
abbrev pub head_lines : List ℕ → List ℕ → Located → FaultKind → List ℕ
head_lines file text found kind =
    place_text file found.place.line found.place.column ++ token_fault_text (words_of kind) (spelled text found.place.offset found.lexeme)
    ++ excerpt_text (line_of text found.place.line) found.place.column

-- this is told of a fault of a program with these tokens: where it is, which it is, its line, and the hint of its kind, if there is one
pub record TellsFault (file text : List ℕ) (tokens : List Located) (tree : NamedTree) (fault : Fault) (printed : List ℕ) : Type 0 where
  pub hint : Option (List ℕ)
  pub is_hint : IsHintOf fault.kind (seen_in tokens tree fault.at) hint
  pub is : printed ≡ head_lines file text (get_or tokens fault.at nowhere) fault.kind ++ words_line hint
