-- What is told of a program: its warnings, and how many they are.
use Rattle.std.specs.Prelude.{◌≡◌, ℕ, List, ◌++◌, codes, length, map, IsPermutation, IsSortedByKey}
use Rattle.std.specs.List.{flat_map}
use Rattle.lrc_lang.specs.Counts.{names_of}
use Rattle.lrc_lang.specs.Faults.{IsText}
use Rattle.lrc_lang.specs.Positions.{Located, HasLocated}
use Rattle.lrc_lang.specs.Token.{Token, finish, Lexeme, token, bad_byte, bad_number}
use Rattle.lrc_program.specs.Tree.{ProgramTree}
use Rattle.lrc_labels.specs.declared.cut.Divider.TheVariants.{LineFeed}
use Rattle.lrc_labels.specs.Cut.{cut, divides}
use Rattle.lrc_labels.specs.Reading.{Label, labels_of, idle_of}
use Rattle.lrc_lint_lines.specs.Head.{count_text, place_text}
use Rattle.lrc_lint_warnings.specs.declared.warning.Spot.{Spot}
use Rattle.lrc_lint_warnings.specs.declared.warning.Warning.{Warning}
use Rattle.lrc_lint_warnings.specs.Collected.{found_in}
use Rattle.lrc_lint_warnings.specs.Order.{all_warnings, key_of, key_order}
use Rattle.lrc_lint_warnings.specs.Words.{says_text}

-- the token that something is; all that stands in a program are tokens
abbrev pub token_in : Lexeme → Token
token_in (token t) = t
token_in bad_byte = finish
token_in bad_number = finish

abbrev pub tokens_of : List Located → List Token
tokens_of all = map (λ found. token_in found.lexeme) all

-- the line and the column of a token
abbrev pub spot_of : Located → Spot
spot_of found = record { line = found.line; column = found.column }

abbrev pub spots_of : List Located → List Spot
spots_of all = map spot_of all

-- the line of a warning, by the names of the text and its labels
abbrev pub warning_line : List ℕ → List (List ℕ) → List Label → Warning → List ℕ
warning_line file names labels w =
    place_text file w.line w.column ++ codes "warning: " ++ says_text w.says names labels ++ codes "\n"

-- a line for each warning, and the line that says how many they are
abbrev pub warned_lines : List ℕ → List (List ℕ) → List Label → List Warning → List ℕ
warned_lines file names labels warnings =
    flat_map (warning_line file names labels) warnings ++ count_text (length warnings)

-- what the label lines of the text of a program say, and those that say nothing
abbrev pub labels_in : ProgramTree → List ℕ → List Label
labels_in p text = labels_of p.words p.locks (cut (divides LineFeed) text)

-- all warnings of a program: of what stands in its text, and of its label lines that say nothing
abbrev pub warnings_in : ProgramTree → List ℕ → List Located → List Warning
warnings_in p text all =
    all_warnings (spots_of all) (found_in p (tokens_of all)) (idle_of p.words p.locks (cut (divides LineFeed) text))

-- This is told of a program: all its warnings, by line, column and kind, and how many they are.
pub record LintsProgram (file text printed : List ℕ) : Type 0 where
  pub program : ProgramTree
  pub is_program : IsText text program
  pub all : List Located
  pub are : HasLocated text all
  pub warnings : List Warning
  pub these : IsPermutation (warnings_in program text all) warnings
  pub sorted : IsSortedByKey key_of key_order warnings
  pub is : printed ≡ warned_lines file (names_of (tokens_of all)) (labels_in program text) warnings
