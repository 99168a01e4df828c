-- The table of hints: of each kind of fault of a text its rows, in order, each with the condition under which it applies and with its words. The
-- hint of a fault is the first row that applies.
use Rattle.std.specs.Prelude.{ℕ, ◌+◌, ◌-◌, ◌&&◌, ◌||◌, ◌==◌, not, nat_eq, nat_le, nat_lt, Bool, true, false, Option, Some, None, List, [], ◌∷◌, ◌++◌}
use Rattle.std.specs.Prelude.{codes, fold, if◌then◌else◌, length, map, slice_get}
use Rattle.std.specs.Option.{option_map}
use Rattle.std.specs.Str.{bytes_eq}
use Rattle.lrc_lang.specs.declared.fault.FaultKind.{FaultKind}
use Rattle.lrc_lang.specs.declared.fault.FaultKind.TheVariants as faults
use Rattle.lrc_lang.specs.declared.token.Sign.{Sign as CoreSign}
use Rattle.lrc_lang.specs.declared.token.Sign.TheVariants as core_signs
use Rattle.lrc_lint_fault.specs.declared.hint.Hint.{Hint as CoreHint}
use Rattle.lrc_lint_fault.specs.declared.hint.Hint.TheVariants as core_hints
use Rattle.lrc_lint_fault.specs.declared.brackets.Brackets.{Brackets}
use Rattle.lrc_lint_fault.specs.declared.brackets.Brackets.TheVariants.{Braces, InExpressions}
use Rattle.lrc_lint_fault.specs.Hint as core
use Rattle.lrc_lint_fault.specs.HintTable.{Opened, byte_row, first_row, is_comment_byte, open_row, row_if, row_of, with_bracket}
use Rattle.lrc_named_tokens.specs.declared.token.Keyword.{Keyword}
use Rattle.lrc_named_tokens.specs.declared.token.Keyword.TheVariants as keywords
use Rattle.lrc_named_tokens.specs.declared.token.Sign.{Sign}
use Rattle.lrc_named_tokens.specs.declared.token.Sign.TheVariants as signs
use Rattle.lrc_named_tokens.specs.contracts.token.SignPartialEq.TheImpl.{eq-value as sign_eq}
use Rattle.lrc_named_tokens.specs.Lexemes.{keyword_text}
use Rattle.lrc_named_tokens.specs.Token.{name, keyword, sign, finish, Lexeme, token, Located}
use Rattle.lrc_named_tokens.specs.View.{located_of}
use Rattle.lrc_named_may.specs.declared.kind.Kind.{Kind}
use Rattle.lrc_named_may.specs.declared.kind.Kind.TheVariants as kinds
use Rattle.lrc_named_expected.specs.Kind.{has, has_all, operand_kinds, operator_kinds, statement_kinds}
use Rattle.lrc_named_hints.specs.declared.fault.Fault.{Fault}
use Rattle.lrc_named_hints.specs.declared.hint.Hint.TheVariants as hints
use Rattle.lrc_named_hints.specs.Hint.{hint_words, no_keyword_words, update_words}
use Rattle.lrc_named_hints.specs.Spelled.{spelled}

-- what a hint goes by: the text, the tokens before the fault, the last one of these, what was found, and what may stand in its place
pub record Seen : Type 0 where
  pub text : List ℕ
  pub before : List Located
  pub previous : Option Located
  pub found : Located
  pub may_stand : List Kind

abbrev pub seen : List ℕ → (before : List Located) → (found : Located) → (may_stand : List Kind) → Seen
seen text before found may_stand =
    record { text = text; before = before; previous = slice_get before (length before - 1); found = found; may_stand = may_stand }

-- the same, of the code's fault
abbrev pub seen_of : Fault → Seen
seen_of fault = record {
  text = fault.text.now;
  before = map located_of fault.before.now;
  previous = option_map located_of fault.previous;
  found = located_of fault.found;
  may_stand = fault.may_stand.now;
}

-- a row with the words of a hint that programs of the core have too
abbrev pub core_row : (applies : Bool) → CoreHint → Option (List ℕ)
core_row applies hint = row_if applies (core.hint_words hint)

-- ---- what stands there

abbrev pub is_sign : Sign → Lexeme → Bool
is_sign wanted (token (sign mark)) = sign_eq.it mark wanted
is_sign wanted other = false

abbrev pub is_any_sign : Lexeme → Bool
is_any_sign (token (sign mark)) = true
is_any_sign other = false

abbrev pub is_end : Lexeme → Bool
is_end (token finish) = true
is_end other = false

abbrev pub is_keyword : Lexeme → Bool
is_keyword (token (keyword which)) = true
is_keyword other = false

abbrev pub is_else : Lexeme → Bool
is_else (token (keyword keywords.Else)) = true
is_else other = false

abbrev pub is_not : Lexeme → Bool
is_not (token (keyword keywords.Not)) = true
is_not other = false

abbrev pub is_name : Lexeme → Bool
is_name (token (name bytes)) = true
is_name other = false

-- `+` or `-`
abbrev pub joins_terms : Lexeme → Bool
joins_terms (token (sign signs.Plus)) = true
joins_terms (token (sign signs.Minus)) = true
joins_terms other = false

-- `*`, `/` or `%`
abbrev pub joins_factors : Lexeme → Bool
joins_factors (token (sign signs.Star)) = true
joins_factors (token (sign signs.Slash)) = true
joins_factors (token (sign signs.Percent)) = true
joins_factors other = false

abbrev pub is_comparison : Lexeme → Bool
is_comparison (token (sign signs.Equal)) = true
is_comparison (token (sign signs.NotEqual)) = true
is_comparison (token (sign signs.Less)) = true
is_comparison (token (sign signs.LessOrEqual)) = true
is_comparison (token (sign signs.Greater)) = true
is_comparison (token (sign signs.GreaterOrEqual)) = true
is_comparison other = false

-- a keyword that begins a declaration
abbrev pub is_declaration_keyword : Lexeme → Bool
is_declaration_keyword (token (keyword keywords.Nodes)) = true
is_declaration_keyword (token (keyword keywords.Const)) = true
is_declaration_keyword (token (keyword keywords.Shared)) = true
is_declaration_keyword (token (keyword keywords.Lock)) = true
is_declaration_keyword (token (keyword keywords.Fn)) = true
is_declaration_keyword other = false

-- a keyword that begins a statement
abbrev pub is_statement_keyword : Lexeme → Bool
is_statement_keyword (token (keyword keywords.Acquire)) = true
is_statement_keyword (token (keyword keywords.Release)) = true
is_statement_keyword (token (keyword keywords.With)) = true
is_statement_keyword (token (keyword keywords.Barrier)) = true
is_statement_keyword (token (keyword keywords.Print)) = true
is_statement_keyword (token (keyword keywords.Assert)) = true
is_statement_keyword (token (keyword keywords.If)) = true
is_statement_keyword (token (keyword keywords.While)) = true
is_statement_keyword (token (keyword keywords.For)) = true
is_statement_keyword other = false

abbrev pub found_is : Sign → Seen → Bool
found_is wanted s = is_sign wanted s.found.lexeme

abbrev pub found_spelled : Seen → List ℕ
found_spelled s = spelled s.text s.found.place.offset s.found.lexeme

-- ---- what stands right before it

abbrev pub is_behind : Sign → Option Located → Bool
is_behind wanted None = false
is_behind wanted (Some previous) = is_sign wanted previous.lexeme

abbrev pub name_in : Lexeme → Option (List ℕ)
name_in (token (name bytes)) = Some bytes
name_in other = None

abbrev pub keyword_in : Lexeme → Option Keyword
keyword_in (token (keyword which)) = Some which
keyword_in other = None

abbrev pub name_before : Option Located → Option (List ℕ)
name_before None = None
name_before (Some previous) = name_in previous.lexeme

abbrev pub keyword_before : Option Located → Option Keyword
keyword_before None = None
keyword_before (Some previous) = keyword_in previous.lexeme

abbrev pub is_on_line_of : Option Located → Located → Bool
is_on_line_of None found = false
is_on_line_of (Some previous) found = previous.place.line == found.place.line

-- `for`
abbrev pub is_for : Option Keyword → Bool
is_for (Some keywords.For) = true
is_for other = false

-- `acquire`, `release` or `with`
abbrev pub takes_lock : Option Keyword → Bool
takes_lock (Some keywords.Acquire) = true
takes_lock (Some keywords.Release) = true
takes_lock (Some keywords.With) = true
takes_lock other = false

-- `lock`
abbrev pub declares_lock : Option Keyword → Bool
declares_lock (Some keywords.Lock) = true
declares_lock other = false

-- `else`
abbrev pub is_behind_else : Option Keyword → Bool
is_behind_else (Some keywords.Else) = true
is_behind_else other = false

-- ---- what may stand there

abbrev pub may : Kind → Seen → Bool
may kind s = has s.may_stand kind

abbrev pub may_sign : Sign → Seen → Bool
may_sign mark s = may (kinds.Sign mark) s

abbrev pub may_name : Seen → Bool
may_name s = may kinds.Name s

abbrev pub may_begin_statement : Seen → Bool
may_begin_statement s = has_all s.may_stand statement_kinds

abbrev pub may_begin_operand : Seen → Bool
may_begin_operand s = has_all s.may_stand operand_kinds

abbrev pub may_go_on : Seen → Bool
may_go_on s = has_all s.may_stand operator_kinds

-- the name right before it, where that begins a statement: behind such a name alone may a `+=` stand
abbrev pub opening_name : Seen → Option (List ℕ)
opening_name s = if may_sign signs.AddAssign s then name_before s.previous else None

abbrev pub is_word : List ℕ → Option (List ℕ) → Bool
is_word word None = false
is_word word (Some bytes) = bytes_eq bytes word

-- ---- brackets that are open

abbrev pub opens : Brackets → Lexeme → Option CoreSign
opens Braces (token (sign signs.OpenBrace)) = Some core_signs.OpenBrace
opens InExpressions (token (sign signs.OpenParenthesis)) = Some core_signs.OpenParenthesis
opens InExpressions (token (sign signs.OpenBracket)) = Some core_signs.OpenBracket
opens _ _ = None

abbrev pub closes : Brackets → Lexeme → Bool
closes Braces (token (sign signs.CloseBrace)) = true
closes InExpressions (token (sign signs.CloseParenthesis)) = true
closes InExpressions (token (sign signs.CloseBracket)) = true
closes _ _ = false

abbrev pub with_token : Brackets → List Opened → Located → List Opened
with_token brackets opened it = with_bracket (opens brackets it.lexeme) (closes brackets it.lexeme) it.place.line opened

-- the brackets that are open behind these tokens, the last one first
abbrev pub open_behind : Brackets → List Located → List Opened
open_behind brackets before = fold (with_token brackets) [] before

abbrev pub last_open : Brackets → List Located → Option Opened
last_open brackets before = slice_get (open_behind brackets before) 0

-- ---- a byte that begins no token

abbrev pub byte_found : Seen → Option ℕ
byte_found s = slice_get s.text s.found.place.offset

abbrev pub byte_rows : Option ℕ → List (Option (List ℕ))
byte_rows byte =
    byte_row byte (λ b. (b == 38) || ((b == 124) || (b == 33))) (hint_words hints.AndOrNot)
    ∷ byte_row byte (λ b. b == 46) (hint_words hints.Range)
    ∷ byte_row byte (λ b. (b == 34) || (b == 39)) (core.hint_words core_hints.NoTexts)
    ∷ byte_row byte (λ b. nat_le 128 b) (core.hint_words core_hints.Ascii)
    ∷ []

-- `:`, where a block may begin
abbrev pub is_colon_for_block : Seen → Option ℕ → Bool
is_colon_for_block s None = false
is_colon_for_block s (Some byte) = (byte == 58) && may_sign signs.OpenBrace s

abbrev pub colon_row : Seen → Option (List ℕ)
colon_row s = row_if (is_colon_for_block s (byte_found s)) (hint_words hints.Block)

unfoldable pub bad_byte_rows : Seen → List (Option (List ℕ))
bad_byte_rows s = byte_rows (byte_found s) ++ (colon_row s ∷ [])

-- ---- a token that no named program has there

-- comments as they are elsewhere: `//` and `/*`
abbrev pub begins_comment : Seen → Bool
begins_comment s = found_is signs.Slash s && is_comment_byte (slice_get s.text (s.found.place.offset + 1))

abbrev pub is_at_once_behind_slash : Option Located → Located → Bool
is_at_once_behind_slash None found = false
is_at_once_behind_slash (Some previous) found = is_sign signs.Slash previous.lexeme && (found.place.offset - previous.place.offset == 1)

abbrev pub ends_comment_sign : Seen → Bool
ends_comment_sign s = (found_is signs.Slash s || found_is signs.Star s) && is_at_once_behind_slash s.previous s.found

abbrev pub comment_row : Seen → Option (List ℕ)
comment_row s = core_row (begins_comment s || ends_comment_sign s) core_hints.Comment

-- loops as they are elsewhere
abbrev pub is_other_loop : Seen → Bool
is_other_loop s =
    may (kinds.Keyword keywords.In) s || (may_sign signs.Range s || (is_for (keyword_before s.previous) && found_is signs.OpenParenthesis s))

abbrev pub loop_row : Seen → Option (List ℕ)
loop_row s = row_if (is_other_loop s) (hint_words hints.Loop)

abbrev pub lock_name_row : Seen → Option (List ℕ)
lock_name_row s = row_if (found_is signs.OpenParenthesis s && takes_lock (keyword_before s.previous)) (hint_words hints.LockName)

abbrev pub function_row : Seen → Option (List ℕ)
function_row s = row_if (is_behind signs.CloseParenthesis s.previous && may_sign signs.Assign s) (hint_words hints.Function)

-- behind a name that begins a statement
abbrev pub opens_with : List ℕ → Seen → Bool
opens_with word s = is_word word (opening_name s)

abbrev pub is_declaration : Seen → Bool
is_declaration s = opens_with (codes "let") s || (opens_with (codes "var") s || opens_with (codes "int") s)

abbrev pub declaration_row : Seen → Option (List ℕ)
declaration_row s = core_row (is_declaration s) core_hints.Declaration

abbrev pub is_other_lock : Seen → Bool
is_other_lock s = opens_with (codes "unlock") s || (found_is signs.OpenParenthesis s && declares_lock (keyword_before s.previous))

abbrev pub lock_row : Seen → Option (List ℕ)
lock_row s = core_row (is_other_lock s) core_hints.Lock

abbrev pub else_if_row : Seen → Option (List ℕ)
else_if_row s = row_if (opens_with (codes "elif") s) (hint_words hints.ElseIf)

abbrev pub update_row : Seen → Option (List ℕ)
update_row s = row_of (opening_name s) (λ _. joins_terms s.found.lexeme) (λ word. update_words word (found_spelled s))

abbrev pub compound_row : Seen → Option (List ℕ)
compound_row s = row_of (opening_name s) (λ _. joins_factors s.found.lexeme) (λ word. core.compound_words word (found_spelled s))

abbrev pub no_keyword_row : Seen → Option (List ℕ)
no_keyword_row s = row_of (opening_name s) (λ _. true) no_keyword_words

-- around keywords
abbrev pub behind_else_row : Seen → Option (List ℕ)
behind_else_row s = row_if (is_behind_else (keyword_before s.previous)) (hint_words hints.BehindElse)

abbrev pub stray_else_row : Seen → Option (List ℕ)
stray_else_row s = core_row (is_else s.found.lexeme) core_hints.Else

abbrev pub late_row : Seen → Option (List ℕ)
late_row s = row_if (is_declaration_keyword s.found.lexeme && may_begin_statement s) (hint_words hints.Declarations)

abbrev pub not_row : Seen → Option (List ℕ)
not_row s = row_if (is_not s.found.lexeme && may_begin_operand s) (hint_words hints.NotInBrackets)

-- where an operand may stand, a keyword on a later line begins something else
abbrev pub is_keyword_as_name : Seen → Bool
is_keyword_as_name s = is_keyword s.found.lexeme && (may_name s && (not (may_begin_operand s) || is_on_line_of s.previous s.found))

abbrev pub keyword_as_name_row : Seen → Option (List ℕ)
keyword_as_name_row s = row_if (is_keyword_as_name s) (core.keyword_words (found_spelled s))

abbrev pub keyword_set_row : Seen → Option (List ℕ)
keyword_set_row s =
    row_of (keyword_before s.previous) (λ _. found_is signs.Assign s && may_name s) (λ which. core.keyword_words (keyword_text which))

-- where a statement may stand
abbrev pub semicolon_row : Seen → Option (List ℕ)
semicolon_row s = core_row (found_is signs.Semicolon s && may_begin_statement s) core_hints.Semicolon

abbrev pub no_brace_row : Seen → Option (List ℕ)
no_brace_row s = core_row (found_is signs.CloseBrace s && may_begin_statement s) core_hints.NoBrace

abbrev pub open_brace_row : Seen → Option (List ℕ)
open_brace_row s = open_row (is_end s.found.lexeme && may_begin_statement s) (last_open Braces s.before)

abbrev pub shared_name_row : Seen → Option (List ℕ)
shared_name_row s = row_if (found_is signs.OpenBracket s && (may_begin_operand s || may_begin_statement s)) (hint_words hints.SharedName)

-- it looks like the end of a statement or a declaration, or the beginning of the next
abbrev pub ends_statement : Seen → Located → Bool
ends_statement s previous =
    is_end s.found.lexeme
    || (found_is signs.CloseBrace s
    || (is_statement_keyword s.found.lexeme
    || (is_declaration_keyword s.found.lexeme || (is_name s.found.lexeme && nat_lt previous.place.line s.found.place.line))))

abbrev pub missing_row : Seen → Option (List ℕ)
missing_row s =
    row_of s.previous (λ previous. may_sign signs.Semicolon s && ends_statement s previous)
    (λ previous. core.missing_words (spelled s.text previous.place.offset previous.lexeme) previous.place.line)

abbrev pub is_value_of_item : Seen → Bool
is_value_of_item s = found_is signs.Assign s && (may_sign signs.Comma s && (may_sign signs.Semicolon s && not (may_go_on s)))

abbrev pub no_value_row : Seen → Option (List ℕ)
no_value_row s = row_if (is_value_of_item s) (hint_words hints.NoValue)

abbrev pub each_index_row : Seen → Option (List ℕ)
each_index_row s = row_if (found_is signs.Comma s && may_sign signs.CloseBracket s) (hint_words hints.EachIndex)

-- in expressions
abbrev pub set_in_brackets_row : Seen → Option (List ℕ)
set_in_brackets_row s = open_row (found_is signs.Assign s && may_sign signs.CloseBracket s) (last_open InExpressions s.before)

abbrev pub is_other_comparison : Seen → Bool
is_other_comparison s =
    (found_is signs.Assign s && (may_begin_operand s || may_sign signs.Equal s)) || (is_comparison s.found.lexeme && may_begin_operand s)

abbrev pub comparisons_row : Seen → Option (List ℕ)
comparisons_row s = core_row (is_other_comparison s) core_hints.Comparisons

abbrev pub one_comparison_row : Seen → Option (List ℕ)
one_comparison_row s = row_if (is_comparison s.found.lexeme && may_go_on s) (hint_words hints.OneComparison)

abbrev pub negative_row : Seen → Option (List ℕ)
negative_row s = core_row (found_is signs.Minus s && may_begin_operand s) core_hints.Negative

-- around brackets
abbrev pub is_not_closed : Seen → Bool
is_not_closed s =
    (is_any_sign s.found.lexeme || is_end s.found.lexeme) && (may_sign signs.CloseParenthesis s || may_sign signs.CloseBracket s)

abbrev pub not_closed_row : Seen → Option (List ℕ)
not_closed_row s = open_row (is_not_closed s) (last_open InExpressions s.before)

abbrev pub block_row : Seen → Option (List ℕ)
block_row s = row_if (may_sign signs.OpenBrace s) (hint_words hints.Block)

unfoldable pub habit_rows : Seen → List (Option (List ℕ))
habit_rows s = comment_row s ∷ loop_row s ∷ lock_name_row s ∷ function_row s ∷ []

unfoldable pub name_rows : Seen → List (Option (List ℕ))
name_rows s = declaration_row s ∷ lock_row s ∷ else_if_row s ∷ update_row s ∷ compound_row s ∷ no_keyword_row s ∷ []

unfoldable pub keyword_rows : Seen → List (Option (List ℕ))
keyword_rows s = behind_else_row s ∷ stray_else_row s ∷ late_row s ∷ not_row s ∷ keyword_as_name_row s ∷ keyword_set_row s ∷ []

unfoldable pub statement_rows : Seen → List (Option (List ℕ))
statement_rows s = semicolon_row s ∷ no_brace_row s ∷ open_brace_row s ∷ shared_name_row s ∷ []

unfoldable pub separator_rows : Seen → List (Option (List ℕ))
separator_rows s = missing_row s ∷ no_value_row s ∷ each_index_row s ∷ []

unfoldable pub expression_rows : Seen → List (Option (List ℕ))
expression_rows s = set_in_brackets_row s ∷ comparisons_row s ∷ one_comparison_row s ∷ negative_row s ∷ []

unfoldable pub bracket_rows : Seen → List (Option (List ℕ))
bracket_rows s = not_closed_row s ∷ block_row s ∷ []

unfoldable pub unexpected_rows : Seen → List (Option (List ℕ))
unexpected_rows s = (((((habit_rows s ++ name_rows s) ++ keyword_rows s) ++ statement_rows s) ++ separator_rows s) ++ expression_rows s) ++ bracket_rows s

-- ---- all of it

-- the words of the hint of a fault of this kind, if it has one
abbrev pub hint_of : FaultKind → Seen → Option (List ℕ)
hint_of faults.TooLong s = Some (core.hint_words core_hints.TooLong)
hint_of faults.BadByte s = first_row (bad_byte_rows s)
hint_of faults.BadNumber s = Some (core.hint_words core_hints.BadNumber)
hint_of faults.Unexpected s = first_row (unexpected_rows s)
hint_of faults.TooDeep s = Some (hint_words hints.TooDeep)
hint_of faults.OverLimit s = Some (core.hint_words core_hints.Operators)
hint_of _ s = None
