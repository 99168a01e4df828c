-- Words that are read and never written.
use Rattle.std.specs.Prelude.{ℕ, ◌+◌, ◌==◌, ◌||◌, Bool, true, false, Option, Some, None, List, [], ◌∷◌, if◌then◌else◌, is_none, length, nat_lt, slice_index_or, take}
use Rattle.std.specs.List.{list_any}
use Rattle.lrc_text.specs.Each.{each}
use Rattle.lrc_program.specs.Statements.{Statement, read, write}
use Rattle.lrc_lint_warned.specs.declared.found.Found.{Found}
use Rattle.lrc_lint_warned.specs.declared.found.Kind.TheVariants.{NeverWritten}
use Rattle.lrc_lint_warned.specs.Constant.{constant_of, is_value}
use Rattle.lrc_lint_warned.specs.Found.{StatementAt}

-- whether a value is this one, or none is known
abbrev pub may_be : Option ℕ → ℕ → Bool
may_be None n = true
may_be (Some value) n = value == n

-- a shared write that may be of this word: of no other constant
abbrev pub may_write : ℕ → Statement → Bool
may_write word (write at value) = may_be (constant_of at) word
may_write word _ = false

-- the constant that a shared read is of
abbrev pub word_read : Statement → Option ℕ
word_read (read k at) = constant_of at
word_read _ = None

-- a shared read of this word as a constant
abbrev pub reads_word : ℕ → Statement → Bool
reads_word word s = is_value (word_read s) word

-- a word that some statement may write, or that one of the first so many reads
abbrev pub is_known : List StatementAt → ℕ → ℕ → Bool
is_known statements before word =
    list_any (λ s. may_write word s.statement) statements || list_any (λ s. reads_word word s.statement) (take before statements)

abbrev pub unless_known : ℕ → List StatementAt → ℕ → ℕ → Option ℕ → List Found
unless_known words statements before at None = []
unless_known words statements before at (Some word) =
    if nat_lt word words then (if is_known statements before word then [] else record { at = at; kind = NeverWritten word } ∷ []) else []

-- The first shared read of a constant below the number of words, where all shared writes are of other constants. The constant begins
-- behind `name = [`.
abbrev pub never_written_at : ℕ → List StatementAt → ℕ → StatementAt → List Found
never_written_at words statements before s = unless_known words statements before (s.at + 3) (word_read s.statement)

abbrev pub never_written : ℕ → List StatementAt → List Found
never_written words statements = each (never_written_at words statements) statements

-- ---- the same by a table, which has `true` at the words that are known

-- a shared write of what is no constant
abbrev pub writes_some : Statement → Bool
writes_some (write at value) = is_none (constant_of at)
writes_some _ = false

-- the constant that a shared write is of
abbrev pub word_written : Statement → Option ℕ
word_written (write at value) = constant_of at
word_written _ = None

abbrev pub unknown_at : List Bool → ℕ → Option ℕ → List Found
unknown_at known at None = []
unknown_at known at (Some word) =
    if nat_lt word (length known) then (if slice_index_or known word false then [] else record { at = at; kind = NeverWritten word } ∷ []) else []
