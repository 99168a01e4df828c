-- The table of hints: of each kind of fault its rows, in order, each with the condition under which it applies and with its words. The hint of a
-- fault is the first row that applies.
use Rattle.std.specs.Prelude.{ℕ, ◌+◌, ◌-◌, ◌&&◌, ◌||◌, ◌==◌, nat_eq, nat_le, nat_lt, Bool, true, false, Option, Some, None, List, [], ◌∷◌, ◌++◌}
use Rattle.std.specs.Prelude.{codes, fold, if◌then◌else◌, length, map, slice_get}
use Rattle.std.specs.List.{starts_with}
use Rattle.std.specs.Option.{option_map, option_or}
use Rattle.std.specs.Str.{bytes_eq}
use Rattle.lrc_lang.specs.declared.fault.FaultKind.{FaultKind}
use Rattle.lrc_lang.specs.declared.fault.FaultKind.TheVariants as faults
use Rattle.lrc_lang.specs.declared.kind.Kind.{Kind}
use Rattle.lrc_lang.specs.declared.kind.Kind.TheVariants as kinds
use Rattle.lrc_lang.specs.declared.token.Keyword.{Keyword}
use Rattle.lrc_lang.specs.declared.token.Keyword.TheVariants as keywords
use Rattle.lrc_lang.specs.declared.token.Sign.{Sign}
use Rattle.lrc_lang.specs.declared.token.Sign.TheVariants as signs
use Rattle.lrc_lang.specs.contracts.token.SignPartialEq.TheImpl.{eq-value as sign_eq}
use Rattle.lrc_lang.specs.Lexemes.{keyword_text}
use Rattle.lrc_lang.specs.Parser.Located.{located_of}
use Rattle.lrc_lang.specs.Positions.{Located}
use Rattle.lrc_lang.specs.Token.{name, keyword, sign, finish, Lexeme, token}
use Rattle.lrc_lint_lines.specs.Kind.{has, has_all, operand_kinds, operator_kinds, statement_kinds}
use Rattle.lrc_lint_fault.specs.declared.brackets.Brackets.{Brackets}
use Rattle.lrc_lint_fault.specs.declared.brackets.Brackets.TheVariants.{Braces, InExpressions}
use Rattle.lrc_lint_fault.specs.declared.fault.Fault.{Fault}
use Rattle.lrc_lint_fault.specs.declared.hint.Hint.TheVariants as hints
use Rattle.lrc_lint_fault.specs.Hint.{compound_words, hint_words, keyword_words, missing_words, no_keyword_words, open_words}
use Rattle.lrc_lint_fault.specs.Spelled.{spelled}

-- what a hint goes by: the text, the tokens before the fault, the last one of these, what was found, and what may stand in its place
pub record Seen : Type 0 where
  pub text : List ℕ
  pub before : List Located
  pub previous : Option Located
  pub found : Located
  pub may_stand : List Kind

abbrev pub seen : List ℕ → (before : List Located) → (found : Located) → (may_stand : List Kind) → Seen
seen text before found may_stand =
    record { text = text; before = before; previous = slice_get before (length before - 1); found = found; may_stand = may_stand }

-- the same, of the code's fault
abbrev pub seen_of : Fault → Seen
seen_of fault = record {
  text = fault.text.now;
  before = map located_of fault.before.now;
  previous = option_map located_of fault.previous;
  found = located_of fault.found;
  may_stand = fault.may_stand.now;
}

-- ---- rows

-- a row: these words, where it applies
abbrev pub row_if : (applies : Bool) → (words : List ℕ) → Option (List ℕ)
row_if applies words = if applies then Some words else None

-- a row that tells of what need not be there
abbrev pub row_of : {A : Type 0} → Option A → (A → Bool) → (A → List ℕ) → Option (List ℕ)
row_of None applies words = None
row_of (Some it) applies words = row_if (applies it) (words it)

-- the first row that applies
abbrev pub first_row : List (Option (List ℕ)) → Option (List ℕ)
first_row [] = None
first_row (first ∷ more) = option_or first (first_row more)

-- ---- what stands there

abbrev pub is_sign : Sign → Lexeme → Bool
is_sign wanted (token (sign mark)) = sign_eq.it mark wanted
is_sign wanted other = false

abbrev pub is_any_sign : Lexeme → Bool
is_any_sign (token (sign mark)) = true
is_any_sign other = false

abbrev pub is_end : Lexeme → Bool
is_end (token finish) = true
is_end other = false

abbrev pub is_keyword : Lexeme → Bool
is_keyword (token (keyword which)) = true
is_keyword other = false

abbrev pub is_else : Lexeme → Bool
is_else (token (keyword keywords.Else)) = true
is_else other = false

abbrev pub is_name : Lexeme → Bool
is_name (token (name bytes)) = true
is_name other = false

-- one of the signs of sums and products
abbrev pub is_operator : Lexeme → Bool
is_operator (token (sign signs.Plus)) = true
is_operator (token (sign signs.Minus)) = true
is_operator (token (sign signs.Star)) = true
is_operator (token (sign signs.Slash)) = true
is_operator (token (sign signs.Percent)) = true
is_operator other = false

abbrev pub is_comparison : Lexeme → Bool
is_comparison (token (sign signs.Equal)) = true
is_comparison (token (sign signs.NotEqual)) = true
is_comparison (token (sign signs.Less)) = true
is_comparison (token (sign signs.LessOrEqual)) = true
is_comparison (token (sign signs.Greater)) = true
is_comparison (token (sign signs.GreaterOrEqual)) = true
is_comparison other = false

-- a keyword that begins a statement
abbrev pub is_statement_keyword : Lexeme → Bool
is_statement_keyword (token (keyword keywords.Acquire)) = true
is_statement_keyword (token (keyword keywords.Release)) = true
is_statement_keyword (token (keyword keywords.Barrier)) = true
is_statement_keyword (token (keyword keywords.Print)) = true
is_statement_keyword (token (keyword keywords.If)) = true
is_statement_keyword (token (keyword keywords.While)) = true
is_statement_keyword other = false

abbrev pub found_is : Sign → Seen → Bool
found_is wanted s = is_sign wanted s.found.lexeme

-- ---- what stands right before it

abbrev pub is_behind : Sign → Option Located → Bool
is_behind wanted None = false
is_behind wanted (Some previous) = is_sign wanted previous.lexeme

abbrev pub name_in : Lexeme → Option (List ℕ)
name_in (token (name bytes)) = Some bytes
name_in other = None

abbrev pub keyword_in : Lexeme → Option Keyword
keyword_in (token (keyword which)) = Some which
keyword_in other = None

abbrev pub name_before : Option Located → Option (List ℕ)
name_before None = None
name_before (Some previous) = name_in previous.lexeme

abbrev pub keyword_before : Option Located → Option Keyword
keyword_before None = None
keyword_before (Some previous) = keyword_in previous.lexeme

abbrev pub is_some_name : Option (List ℕ) → Bool
is_some_name None = false
is_some_name (Some bytes) = true

abbrev pub is_on_line_of : Option Located → Located → Bool
is_on_line_of None found = false
is_on_line_of (Some previous) found = previous.line == found.line

-- ---- what may stand there

abbrev pub may : Kind → Seen → Bool
may kind s = has s.may_stand kind

abbrev pub may_sign : Sign → Seen → Bool
may_sign mark s = may (kinds.Sign mark) s

abbrev pub may_begin_statement : Seen → Bool
may_begin_statement s = has_all s.may_stand statement_kinds

abbrev pub may_begin_operand : Seen → Bool
may_begin_operand s = has_all s.may_stand operand_kinds

abbrev pub may_go_on : Seen → Bool
may_go_on s = has_all s.may_stand operator_kinds

-- it is among the first six tokens, where a program says how many words and locks it has
abbrev pub is_in_header : Seen → Bool
is_in_header s = nat_lt (length s.before) 6

-- the name right before it, where that begins a statement: behind such a name alone may a `=` stand
abbrev pub opening_name : Seen → Option (List ℕ)
opening_name s = if may_sign signs.Assign s then name_before s.previous else None

-- ---- brackets that are open

-- an opening bracket, and its line
pub record Opened : Type 0 where
  pub bracket : Sign
  pub line : ℕ

abbrev pub opens : Brackets → Lexeme → Option Sign
opens Braces (token (sign signs.OpenBrace)) = Some signs.OpenBrace
opens InExpressions (token (sign signs.OpenParenthesis)) = Some signs.OpenParenthesis
opens InExpressions (token (sign signs.OpenBracket)) = Some signs.OpenBracket
opens _ _ = None

abbrev pub closes : Brackets → Lexeme → Bool
closes Braces (token (sign signs.CloseBrace)) = true
closes InExpressions (token (sign signs.CloseParenthesis)) = true
closes InExpressions (token (sign signs.CloseBracket)) = true
closes _ _ = false

abbrev pub without_last : List Opened → List Opened
without_last [] = []
without_last (last ∷ others) = others

-- an opening bracket is open from here on, and a closing one closes the last that is
abbrev pub with_bracket : Option Sign → (closing : Bool) → (line : ℕ) → List Opened → List Opened
with_bracket (Some bracket) closing line opened = record { bracket = bracket; line = line } ∷ opened
with_bracket None true line opened = without_last opened
with_bracket None false line opened = opened

abbrev pub with_token : Brackets → List Opened → Located → List Opened
with_token brackets opened it = with_bracket (opens brackets it.lexeme) (closes brackets it.lexeme) it.line opened

-- the brackets that are open behind these tokens, the last one first
abbrev pub open_behind : Brackets → List Located → List Opened
open_behind brackets before = fold (with_token brackets) [] before

abbrev pub last_open : Brackets → List Located → Option Opened
last_open brackets before = slice_get (open_behind brackets before) 0

abbrev pub opened_words : Opened → List ℕ
opened_words opened = open_words opened.bracket opened.line

-- a row that tells of the last open bracket
abbrev pub open_row : (applies : Bool) → Option Opened → Option (List ℕ)
open_row applies last = if applies then option_map opened_words last else None

-- ---- a byte that begins no token

abbrev pub byte_row : Option ℕ → (ℕ → Bool) → (words : List ℕ) → Option (List ℕ)
byte_row byte applies words = row_of byte applies (λ _. words)

abbrev pub byte_found : Seen → Option ℕ
byte_found s = slice_get s.text s.found.offset

abbrev pub byte_rows : Option ℕ → List (Option (List ℕ))
byte_rows byte =
    byte_row byte (λ b. (b == 38) || (b == 124)) (hint_words hints.AndOr)
    ∷ byte_row byte (λ b. b == 33) (hint_words hints.Not)
    ∷ byte_row byte (λ b. (b == 34) || (b == 39)) (hint_words hints.NoTexts)
    ∷ byte_row byte (λ b. nat_le 128 b) (hint_words hints.Ascii)
    ∷ []

-- `:`, where a block may begin
abbrev pub is_colon_for_block : Seen → Option ℕ → Bool
is_colon_for_block s None = false
is_colon_for_block s (Some byte) = (byte == 58) && may_sign signs.OpenBrace s

abbrev pub order_mark_row : Seen → Option (List ℕ)
order_mark_row s = row_if (starts_with nat_eq s.text (0xef ∷ 0xbb ∷ 0xbf ∷ [])) (hint_words hints.ByteOrderMark)

abbrev pub header_row : Seen → Option (List ℕ)
header_row s = row_if (is_in_header s) (hint_words hints.Header)

abbrev pub colon_row : Seen → Option (List ℕ)
colon_row s = row_if (is_colon_for_block s (byte_found s)) (hint_words hints.Block)

unfoldable pub bad_byte_rows : Seen → List (Option (List ℕ))
bad_byte_rows s = ((order_mark_row s ∷ []) ++ byte_rows (byte_found s)) ++ (header_row s ∷ colon_row s ∷ [])

-- ---- a token that no program has there

-- comments as they are elsewhere: `//` and `/*`
abbrev pub is_comment_byte : Option ℕ → Bool
is_comment_byte None = false
is_comment_byte (Some byte) = (byte == 47) || (byte == 42)

abbrev pub begins_comment : Seen → Bool
begins_comment s = found_is signs.Slash s && is_comment_byte (slice_get s.text (s.found.offset + 1))

abbrev pub is_at_once_behind_slash : Option Located → Located → Bool
is_at_once_behind_slash None found = false
is_at_once_behind_slash (Some previous) found = is_sign signs.Slash previous.lexeme && (found.offset - previous.offset == 1)

abbrev pub ends_comment_sign : Seen → Bool
ends_comment_sign s = (found_is signs.Slash s || found_is signs.Star s) && is_at_once_behind_slash s.previous s.found

abbrev pub comment_row : Seen → Option (List ℕ)
comment_row s = row_if (begins_comment s || ends_comment_sign s) (hint_words hints.Comment)

-- behind a name that begins a statement
abbrev pub is_declaration : List ℕ → Bool
is_declaration word =
    bytes_eq word (codes "let") || (bytes_eq word (codes "var") || (bytes_eq word (codes "const") || bytes_eq word (codes "int")))

abbrev pub is_lock_word : List ℕ → Bool
is_lock_word word = bytes_eq word (codes "lock") || bytes_eq word (codes "unlock")

abbrev pub found_spelled : Seen → List ℕ
found_spelled s = spelled s.text s.found.offset s.found.lexeme

abbrev pub name_rows : Seen → Option (List ℕ) → List (Option (List ℕ))
name_rows s opening =
    row_of opening (λ word. bytes_eq word (codes "for")) (λ _. hint_words hints.For)
    ∷ row_of opening is_declaration (λ _. hint_words hints.Declaration)
    ∷ row_of opening is_lock_word (λ _. hint_words hints.Lock)
    ∷ row_of opening (λ _. found_is signs.OpenBracket s) (λ _. hint_words hints.Arrays)
    ∷ row_of opening (λ _. is_operator s.found.lexeme) (λ word. compound_words word (found_spelled s))
    ∷ row_of opening (λ _. true) no_keyword_words
    ∷ []

-- around keywords
abbrev pub is_behind_else : Option Keyword → Bool
is_behind_else (Some keywords.Else) = true
is_behind_else other = false

abbrev pub behind_else_row : Seen → Option (List ℕ)
behind_else_row s = row_if (is_behind_else (keyword_before s.previous)) (hint_words hints.BehindElse)

abbrev pub stray_else_row : Seen → Option (List ℕ)
stray_else_row s = row_if (is_else s.found.lexeme) (hint_words hints.Else)

abbrev pub is_keyword_as_name : Seen → Bool
is_keyword_as_name s =
    is_keyword s.found.lexeme && (may_begin_statement s || (may_begin_operand s && is_on_line_of s.previous s.found))

abbrev pub keyword_as_name_row : Seen → Option (List ℕ)
keyword_as_name_row s = row_if (is_keyword_as_name s) (keyword_words (found_spelled s))

abbrev pub keyword_set_row : Seen → Option (List ℕ)
keyword_set_row s =
    row_of (keyword_before s.previous) (λ _. found_is signs.Assign s && may_begin_operand s) (λ which. keyword_words (keyword_text which))

-- where a statement may stand
abbrev pub semicolon_row : Seen → Option (List ℕ)
semicolon_row s = row_if (found_is signs.Semicolon s && may_begin_statement s) (hint_words hints.Semicolon)

abbrev pub no_brace_row : Seen → Option (List ℕ)
no_brace_row s = row_if (found_is signs.CloseBrace s && may_begin_statement s) (hint_words hints.NoBrace)

abbrev pub open_brace_row : Seen → Option (List ℕ)
open_brace_row s = open_row (is_end s.found.lexeme && may_begin_statement s) (last_open Braces s.before)

-- around shared words
abbrev pub is_shared_read : Seen → Bool
is_shared_read s =
    (found_is signs.OpenBracket s && may_begin_operand s)
    || ((is_operator s.found.lexeme || is_comparison s.found.lexeme) && (is_behind signs.CloseBracket s.previous && may_sign signs.Semicolon s))

abbrev pub shared_read_row : Seen → Option (List ℕ)
shared_read_row s = row_if (is_shared_read s) (hint_words hints.SharedRead)

-- it looks like the end of a statement or the beginning of the next
abbrev pub ends_statement : Seen → Located → Bool
ends_statement s previous =
    is_end s.found.lexeme
    || (found_is signs.CloseBrace s
    || (is_statement_keyword s.found.lexeme
    || ((is_name s.found.lexeme || found_is signs.OpenBracket s) && nat_lt previous.line s.found.line)))

abbrev pub missing_row : Seen → Option (List ℕ)
missing_row s =
    row_of s.previous (λ previous. may_sign signs.Semicolon s && ends_statement s previous)
    (λ previous. missing_words (spelled s.text previous.offset previous.lexeme) previous.line)

abbrev pub shared_write_row : Seen → Option (List ℕ)
shared_write_row s = row_if (is_behind signs.CloseBracket s.previous && may_sign signs.Assign s) (hint_words hints.SharedWrite)

-- in expressions
abbrev pub set_in_brackets_row : Seen → Option (List ℕ)
set_in_brackets_row s = open_row (found_is signs.Assign s && may_sign signs.CloseBracket s) (last_open InExpressions s.before)

abbrev pub is_other_comparison : Seen → Bool
is_other_comparison s =
    (found_is signs.Assign s && (may_begin_operand s || may_sign signs.Equal s)) || (is_comparison s.found.lexeme && may_begin_operand s)

abbrev pub comparisons_row : Seen → Option (List ℕ)
comparisons_row s = row_if (is_other_comparison s) (hint_words hints.Comparisons)

abbrev pub one_comparison_row : Seen → Option (List ℕ)
one_comparison_row s = row_if (is_comparison s.found.lexeme && may_go_on s) (hint_words hints.OneComparison)

abbrev pub negative_row : Seen → Option (List ℕ)
negative_row s = row_if (found_is signs.Minus s && may_begin_operand s) (hint_words hints.Negative)

abbrev pub call_row : Seen → Option (List ℕ)
call_row s = row_if (found_is signs.OpenParenthesis s && is_some_name (name_before s.previous)) (hint_words hints.Calls)

abbrev pub array_row : Seen → Option (List ℕ)
array_row s = row_if (found_is signs.OpenBracket s && is_some_name (name_before s.previous)) (hint_words hints.Arrays)

-- around brackets
abbrev pub is_not_closed : Seen → Bool
is_not_closed s =
    (is_any_sign s.found.lexeme || is_end s.found.lexeme) && (may_sign signs.CloseParenthesis s || may_sign signs.CloseBracket s)

abbrev pub not_closed_row : Seen → Option (List ℕ)
not_closed_row s = open_row (is_not_closed s) (last_open InExpressions s.before)

abbrev pub block_row : Seen → Option (List ℕ)
block_row s = row_if (may_sign signs.OpenBrace s) (hint_words hints.Block)

unfoldable pub keyword_rows : Seen → List (Option (List ℕ))
keyword_rows s = behind_else_row s ∷ stray_else_row s ∷ keyword_as_name_row s ∷ keyword_set_row s ∷ []

unfoldable pub statement_rows : Seen → List (Option (List ℕ))
statement_rows s = semicolon_row s ∷ no_brace_row s ∷ open_brace_row s ∷ []

unfoldable pub shared_rows : Seen → List (Option (List ℕ))
shared_rows s = shared_read_row s ∷ missing_row s ∷ shared_write_row s ∷ []

unfoldable pub expression_rows : Seen → List (Option (List ℕ))
expression_rows s =
    set_in_brackets_row s ∷ comparisons_row s ∷ one_comparison_row s ∷ negative_row s ∷ call_row s ∷ array_row s ∷ []

unfoldable pub bracket_rows : Seen → List (Option (List ℕ))
bracket_rows s = not_closed_row s ∷ block_row s ∷ []

unfoldable pub unexpected_rows : Seen → List (Option (List ℕ))
unexpected_rows s =
    ((((((comment_row s ∷ header_row s ∷ []) ++ name_rows s (opening_name s)) ++ keyword_rows s) ++ statement_rows s) ++ shared_rows s)
    ++ expression_rows s) ++ bracket_rows s

-- ---- all of it

-- which limit the token passes: the second token of a text is how many words there are, and the fifth how many locks
abbrev pub limit_words : (before : ℕ) → List ℕ
limit_words before =
    if before == 1 then hint_words hints.Words else (if before == 4 then hint_words hints.Locks else hint_words hints.Operators)

-- the words of the hint of a fault of this kind, if it has one
abbrev pub hint_of : FaultKind → Seen → Option (List ℕ)
hint_of faults.TooLong s = Some (hint_words hints.TooLong)
hint_of faults.BadByte s = first_row (bad_byte_rows s)
hint_of faults.BadNumber s = Some (hint_words hints.BadNumber)
hint_of faults.Unexpected s = first_row (unexpected_rows s)
hint_of faults.TooDeep s = Some (hint_words hints.TooDeep)
hint_of faults.TooManyNames s = Some (hint_words hints.TooManyNames)
hint_of faults.OverLimit s = Some (limit_words (length s.before))
hint_of faults.NoMemory s = None
