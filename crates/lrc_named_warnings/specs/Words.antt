-- The words of warnings.
use Rattle.std.specs.Prelude.{ℕ, Option, None, Some, List, [], ◌++◌, codes, slice_get, slice_index_or}
use Rattle.lrc_labels.specs.Reading.{Label}
use Rattle.lrc_lint_warned.specs.declared.found.Kind.{Kind}
use Rattle.lrc_lint_warned.specs.declared.found.Kind.TheVariants.{DivisionByZero, LearnsNothing, NoSuchLock, NoSuchWord}
use Rattle.lrc_lint_warnings.specs.Words.{kind_text}
use Rattle.lrc_named_core.specs.Tree.{Trap, assertion, index, plain}
use Rattle.lrc_named_entries.specs.declared.entry.Sort.{Sort}
use Rattle.lrc_named_entries.specs.declared.entry.Sort.TheVariants as sorts
use Rattle.lrc_named_entries.specs.Entry.{Entry}
use Rattle.lrc_named_warnings.specs.declared.note.Says.{Says}
use Rattle.lrc_named_warnings.specs.declared.note.Says.TheVariants.{OfCore, OfLoop, Unused}
use Rattle.lrc_named_warnings.specs.Context.{Context, no_origin}

-- an index that is out of range
abbrev pub index_text : List ℕ → List ℕ
index_text name = codes "index out of range of " ++ name ++ codes ": this traps"

-- what is said of a statement of the core by which an assertion traps: its division by zero is that of the assertion
abbrev pub asserted_text : Kind → List (List ℕ) → List Label → List ℕ
asserted_text DivisionByZero names labels = codes "assertion failed: this traps"
asserted_text kind names labels = kind_text kind names labels

-- what is said of a statement of the core that uses an item of this name with indices: there is no such word, or lock, where an index is
-- out of range
abbrev pub indexed_text : List ℕ → Kind → List (List ℕ) → List Label → List ℕ
indexed_text name (NoSuchWord word) names labels = index_text name
indexed_text name (NoSuchLock lock) names labels = index_text name
indexed_text name kind names labels = kind_text kind names labels

-- what is said of a statement of the core, where a trap of it is told so; else in the core's words
abbrev pub core_text : Trap → Kind → List (List ℕ) → List Label → List ℕ
core_text plain kind names labels = kind_text kind names labels
core_text assertion kind names labels = asserted_text kind names labels
core_text (index name) kind names labels = indexed_text name kind names labels

-- what is said of a loop is said in the core's words
abbrev pub loop_text : List ℕ
loop_text = kind_text LearnsNothing [] []

abbrev pub sort_text : Sort → List ℕ
sort_text sorts.Constant = codes "constant "
sort_text sorts.Shared = codes "shared "
sort_text sorts.Lock = codes "lock "
sort_text sorts.Function = codes "function "

-- what is said of a name that nothing uses
abbrev pub unused_text : Entry → List ℕ
unused_text entry = sort_text entry.sort ++ entry.name.bytes ++ codes " is never used"

abbrev pub unused_words : Option Entry → List ℕ
unused_words None = []
unused_words (Some entry) = unused_text entry

abbrev pub says_text : Context → Says → List ℕ
says_text c (OfCore kind statement) = core_text (slice_index_or c.origins statement no_origin).trap kind c.names c.labels
says_text c OfLoop = loop_text
says_text c (Unused number) = unused_words (slice_get c.unused number)
