-- The words of hints.
use Rattle.std.specs.Prelude.{◌≡◌, ℕ, List, [], ◌++◌, codes, decimal, Option, Some, None}
use Rattle.std.specs.Option.{option_map}
use Rattle.lrc_lang.specs.declared.token.Sign.{Sign}
use Rattle.lrc_lang.specs.declared.token.Sign.TheVariants as signs
use Rattle.lrc_lint_fault.specs.declared.hint.Hint.{Hint}
use Rattle.lrc_lint_fault.specs.declared.hint.Hint.TheVariants as hints

-- a bracket that is open
abbrev pub opened_by : Sign → List ℕ
opened_by signs.OpenBrace = codes "the `{`"
opened_by signs.OpenBracket = codes "the `[`"
opened_by _ = codes "the `(`"

-- the words of the hints that tell of tokens of the text

-- of a statement such as `x += 1`
abbrev pub compound_words : (name operator : List ℕ) → List ℕ
compound_words name operator = codes "write `" ++ name ++ codes " = " ++ name ++ codes " " ++ operator ++ codes " E;`"

abbrev pub no_keyword_words : (name : List ℕ) → List ℕ
no_keyword_words name =
    name ++ codes " is no keyword: the statements are `x = E;`, `x = [E];`, `[E] = E;`, acquire, release, barrier, print, if and while"

abbrev pub keyword_words : (keyword : List ℕ) → List ℕ
keyword_words keyword = keyword ++ codes " is a keyword and no name"

abbrev pub open_words : Sign → (line : ℕ) → List ℕ
open_words sign line = opened_by sign ++ codes " of line " ++ decimal line ++ codes " is open"

abbrev pub missing_words : (token : List ℕ) → (line : ℕ) → List ℕ
missing_words token line = codes "is a `;` missing behind `" ++ token ++ codes "` in line " ++ decimal line ++ codes "?"

-- the words of a hint
abbrev pub hint_words : Hint → List ℕ
hint_words hints.TooLong = codes "a text has at most 65536 bytes"
hint_words hints.BadNumber = codes "a number is decimal digits, at most 18446744073709551615"
hint_words hints.TooDeep = codes "at most 32 `{` and `(` may be open"
hint_words hints.TooManyNames = codes "a text has at most 32 names"
hint_words hints.Words = codes "words is 1 to 65536"
hint_words hints.Locks = codes "locks is 0 to 64"
hint_words hints.Operators = codes "an expression has at most 256 operators"
hint_words hints.ByteOrderMark = codes "the text begins with a byte order mark: save it without one"
hint_words hints.AndOr = codes "there is no sign for and, or: of comparisons, `(A) * (B)` holds where both do, `(A) + (B)` where one does"
hint_words hints.Not = codes "not equal is `!=`, and not A is `(A) == 0`"
hint_words hints.NoTexts = codes "there are no texts: print takes a number"
hint_words hints.Ascii = codes "only comments may have characters that are not ASCII"
hint_words hints.Header = codes "a program begins with `words N; locks N;`, or with what it shares: `shared NAME;`"
hint_words hints.Block = codes "behind the condition stands a block: `{ .. }`"
hint_words hints.Comment = codes "a comment begins with `#`"
hint_words hints.For = codes "there is no for: `i = 0; while i < N { .. i = i + 1; }`"
hint_words hints.Declaration = codes "a name needs no declaration: it is 0 until it is set"
hint_words hints.Lock = codes "a lock is taken by `acquire K;` and given back by `release K;`"
hint_words hints.Arrays = codes "there are no arrays: `a[i]` is `[W + i]` where a begins at word W"
hint_words hints.BehindElse = codes "behind else stands a block, also around an if: `else { if .. }`"
hint_words hints.Else = codes "an else stands behind the `}` of its if"
hint_words hints.Semicolon = codes "a `;` ends a statement; none stands behind a block"
hint_words hints.NoBrace = codes "no `{` is open here"
hint_words hints.SharedRead = codes "a shared word is read by a statement of its own: `x = [E];`"
hint_words hints.SharedWrite = codes "a shared word is written by `[E] = E;` and read by `x = [E];`"
hint_words hints.Comparisons = codes "the comparisons are `==`, `!=`, `<`, `<=`, `>` and `>=`; each assignment is a statement of its own"
hint_words hints.OneComparison = codes "an expression has one comparison, brackets aside: `(a < b) * (b < c)` holds where both do"
hint_words hints.Negative = codes "a number has no sign: for `-1` write `0 - 1`"
hint_words hints.Calls = codes "there are no calls"
hint_words (hints.Compound name operator) = compound_words name.now operator.now
hint_words (hints.NoKeyword name) = no_keyword_words name.now
hint_words (hints.Keyword keyword) = keyword_words keyword.now
hint_words (hints.Open sign line) = open_words sign line
hint_words (hints.Missing token line) = missing_words token.now line

-- These are the words of a hint that tells nothing of the text.
abbrev pub TellsWords : Hint → List ℕ → Type 0
TellsWords (hints.Compound name operator) words = Unit {0}
TellsWords (hints.NoKeyword name) words = Unit {0}
TellsWords (hints.Keyword keyword) words = Unit {0}
TellsWords (hints.Open sign line) words = Unit {0}
TellsWords (hints.Missing token line) words = Unit {0}
TellsWords hint words = words ≡ hint_words hint

abbrev pub hint_line : Hint → List ℕ
hint_line hint = codes "  " ++ hint_words hint ++ codes "\n"

-- the words of a hint, if there is one
abbrev pub words_of : Option Hint → Option (List ℕ)
words_of hint = option_map hint_words hint

-- the line of these words, if there are any
abbrev pub words_line : Option (List ℕ) → List ℕ
words_line None = []
words_line (Some words) = codes "  " ++ words ++ codes "\n"
