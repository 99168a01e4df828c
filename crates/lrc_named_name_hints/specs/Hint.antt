-- The words of hints.
use Rattle.std.specs.Prelude.{◌≡◌, ◌==◌, ℕ, List, ◌++◌, codes, decimal, if◌then◌else◌, Option}
use Rattle.std.specs.Option.{option_map}
use Rattle.lrc_named_expression_faults.specs.declared.fault.Limit.{Limit}
use Rattle.lrc_named_expression_faults.specs.declared.fault.Limit.TheVariants as limits
use Rattle.lrc_named_name_hints.specs.declared.hint.Hint.{Hint}
use Rattle.lrc_named_name_hints.specs.declared.hint.Hint.TheVariants as hints
use Rattle.lrc_named_name_hints.specs.declared.hint.Sense.{Sense}
use Rattle.lrc_named_name_hints.specs.declared.hint.Sense.TheVariants as senses

abbrev pub sense_words : Sense → List ℕ
sense_words senses.Lock = codes "a lock"
sense_words senses.Constant = codes "a constant"
sense_words senses.Function = codes "a function"
sense_words senses.Parameter = codes "a parameter"
sense_words senses.Shared = codes "a shared item"
sense_words senses.Private = codes "a private name"

-- how many there are, and of what: in words for one, and for several
abbrev pub count_words : ℕ → (one several : List ℕ) → List ℕ
count_words count one several =
    if count == 0 then codes "no" ++ one else (if count == 1 then codes "1" ++ one else decimal count ++ several)

abbrev pub limit_words : Limit → List ℕ
limit_words limits.NodeCount = codes "nodes is 1 to 16"
limit_words limits.Body = codes "a function's body, with those that it calls, has at most 256 operators and calls"
limit_words limits.Division = codes "this divides by zero"
limit_words limits.Size = codes "a size is 1 to 65536"
limit_words limits.Words = codes "the shared items have at most 65536 words"
limit_words limits.Locks = codes "there are at most 64 locks"

-- the words of the hints that tell of tokens of the text
abbrev pub declared_words : (line : ℕ) → List ℕ
declared_words line = codes "declared on line " ++ decimal line

abbrev pub near_words : (name : List ℕ) → List ℕ
near_words name = codes "did you mean `" ++ name ++ codes "`?"

abbrev pub is_words : (name : List ℕ) → Sense → List ℕ
is_words name sense = codes "`" ++ name ++ codes "` is " ++ sense_words sense

abbrev pub indices_words : (name : List ℕ) → (count : ℕ) → List ℕ
indices_words name count = codes "`" ++ name ++ codes "` has " ++ count_words count (codes " index") (codes " indices")

abbrev pub arguments_words : (name : List ℕ) → (count : ℕ) → List ℕ
arguments_words name count = codes "`" ++ name ++ codes "` takes " ++ count_words count (codes " argument") (codes " arguments")

-- the words of a hint
abbrev pub hint_words : Hint → List ℕ
hint_words (hints.DeclaredOn line) = declared_words line
hint_words hints.Reserved = codes "names that begin with `_` are the translation's"
hint_words hints.Truth = codes "write `1` for true, `0` for false"
hint_words (hints.Near name) = near_words name.now
hint_words (hints.Is name sense) = is_words name.now sense
hint_words (hints.Indices name count) = indices_words name.now count
hint_words (hints.Arguments name count) = arguments_words name.now count
hint_words hints.NotConstant = codes "`me`, `nodes` and shared items have no value before a run"
hint_words (hints.Over limit) = limit_words limit
hint_words hints.TooManyNames = codes "a text has at most 32 private names"

-- These are the words of a hint that tells nothing of the text.
abbrev pub TellsWords : Hint → List ℕ → Type 0
TellsWords (hints.DeclaredOn line) words = Unit {0}
TellsWords (hints.Near name) words = Unit {0}
TellsWords (hints.Is name sense) words = Unit {0}
TellsWords (hints.Indices name count) words = Unit {0}
TellsWords (hints.Arguments name count) words = Unit {0}
TellsWords hint words = words ≡ hint_words hint

abbrev pub hint_line : Hint → List ℕ
hint_line hint = codes "  " ++ hint_words hint ++ codes "\n"

-- the words of a hint, if there is one
abbrev pub words_of : Option Hint → Option (List ℕ)
words_of hint = option_map hint_words hint
