-- What is told of a named program whose core is over a limit or too long.
use Rattle.std.specs.Prelude.{◌≡◌, ℕ, List, ◌++◌, codes, get_or, Option, Some, None}
use Rattle.lrc_lang.specs.declared.fault.FaultKind.TheVariants.{OverLimit, TooLong}
use Rattle.lrc_lint_lines.specs.Excerpt.{excerpt_text}
use Rattle.lrc_lint_lines.specs.Head.{fault_text, kind_text, place_text}
use Rattle.lrc_lint_fault.specs.declared.linted.Linted.{Linted}
use Rattle.lrc_lint_fault.specs.Told.{line_of}
use Rattle.lrc_named_tokens.specs.Token.{finish, token, Located}
use Rattle.lrc_named_hints.specs.Spelled.{spelled}
use Rattle.lrc_named_limits.specs.declared.excess.Limit.{Limit}
use Rattle.lrc_named_limits.specs.declared.excess.Limit.TheVariants.{Operators, Open, Names}
use Rattle.lrc_named_lint.specs.Told.{token_fault_text}
use Rattle.lrc_named_written.specs.declared.written.Written.{Written}
use Rattle.lrc_named_written.specs.declared.written.Written.TheVariants as written

-- the line of a hint
abbrev pub hint_line : List ℕ → List ℕ
hint_line words = codes "  " ++ words ++ codes "\n"

-- what is over a limit
abbrev pub limit_words : Limit → List ℕ
limit_words Operators = codes "an expression of its core has more than 256 operators"
limit_words Open = codes "its core has more than 32 open `{` and `(`"
limit_words Names = codes "its core has more than 32 names: make it two statements"

-- past the last token
abbrev pub nowhere : Located
nowhere = record { place = record { line = 0; column = 0; offset = 0 }; lexeme = token finish }

-- of the first statement whose core is over a limit: its first token, its line, and which limit
abbrev pub excess_lines : List ℕ → List ℕ → Located → Limit → List ℕ
excess_lines file text found limit =
    place_text file found.place.line found.place.column ++ token_fault_text (kind_text OverLimit) (spelled text found.place.offset found.lexeme)
    ++ excerpt_text (line_of text found.place.line) found.place.column ++ hint_line (limit_words limit)

-- of a core that would be too long
abbrev pub core_long_lines : List ℕ → List ℕ
core_long_lines file = place_text file 1 1 ++ fault_text TooLong ++ hint_line (codes "its core has at most 65536 bytes")

-- what is told of a program that has these tokens, where its core comes to this
abbrev pub told_of : List ℕ → List ℕ → List Located → Written → Option (List ℕ)
told_of file text tokens (written.Over excess) = Some (excess_lines file text (get_or tokens excess.at nowhere) excess.limit)
told_of file text tokens written.TooLong = Some (core_long_lines file)
told_of file text tokens _ = None

-- what is told, is told with status 1
abbrev pub IsFaulty : Option Linted → Type 0
IsFaulty None = Unit {0}
IsFaulty (Some linted) = linted.status ≡ 1
