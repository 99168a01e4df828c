-- The words of hints.
use Rattle.std.specs.Prelude.{◌≡◌, ℕ, List, [], ◌++◌, codes, Option}
use Rattle.std.specs.Option.{option_map}
use Rattle.lrc_lint_fault.specs.Hint as core
use Rattle.lrc_named_hints.specs.declared.hint.Hint.{Hint}
use Rattle.lrc_named_hints.specs.declared.hint.Hint.TheVariants as hints

-- the words of the hints that tell of tokens of the text

-- of a statement such as `x += 1`
abbrev pub update_words : (name operator : List ℕ) → List ℕ
update_words name operator = codes "write `" ++ name ++ codes " " ++ operator ++ codes "= E;`"

abbrev pub no_keyword_words : (name : List ℕ) → List ℕ
no_keyword_words name =
    name ++ codes " is no keyword: the statements are `x = E;`, acquire, release, with, barrier, print, assert, if, while and for"

-- the words of a hint
abbrev pub hint_words : Hint → List ℕ
hint_words (hints.Core hint) = core.hint_words hint
hint_words hints.TooDeep = codes "at most 32 `{`, `(` and `[` may be open"
hint_words hints.AndOrNot = codes "write `and`, `or`, `not`"
hint_words hints.Range = codes "a range is `A..B`, and numbers are whole"
hint_words hints.Block = codes "here stands a block: `{ .. }`"
hint_words hints.Loop = codes "a loop is `for NAME in A..B { .. }`"
hint_words hints.LockName = codes "a name stands here without brackets"
hint_words hints.Function = codes "a function is one expression: `fn NAME(..) = E;`"
hint_words hints.ElseIf = codes "write `else if`"
hint_words (hints.Update name operator) = update_words name.now operator.now
hint_words (hints.NoKeyword name) = no_keyword_words name.now
hint_words hints.BehindElse = codes "behind else stands a block or an if"
hint_words hints.Declarations = codes "declarations stand before the statements"
hint_words hints.NotInBrackets = codes "within an expression `not` has brackets around it: `(not E)`"
hint_words hints.SharedName = codes "a shared word has a name: `shared NAME;`"
hint_words hints.NoValue = codes "a declaration gives no value: shared words are 0 until they are set"
hint_words hints.EachIndex = codes "each index has brackets of its own: `a[i][j]`"
hint_words hints.OneComparison = codes "an expression has one comparison, brackets aside: `a < b and b < c` holds where both do"

-- These are the words of a hint that tells nothing of the text.
abbrev pub TellsWords : Hint → List ℕ → Type 0
TellsWords (hints.Core hint) words = Unit {0}
TellsWords (hints.Update name operator) words = Unit {0}
TellsWords (hints.NoKeyword name) words = Unit {0}
TellsWords hint words = words ≡ hint_words hint

abbrev pub hint_line : Hint → List ℕ
hint_line hint = codes "  " ++ hint_words hint ++ codes "\n"

-- the words of a hint, if there is one
abbrev pub words_of : Option Hint → Option (List ℕ)
words_of hint = option_map hint_words hint
