-- Accesses, as tests.
use Rattle.std.specs.Prelude.{ℕ, ◌==◌, ◌&&◌, ◌||◌, not, Bool, true, false, Option, Some, None}
use Rattle.lrc_trace.specs.declared.act.Act.{Act}
use Rattle.lrc_trace.specs.declared.act.Deed.{Deed}
use Rattle.lrc_trace.specs.declared.act.Deed.TheVariants.{Read, Write}

-- the word that an access is of
abbrev pub word_accessed : Deed → Option ℕ
word_accessed (Read word value) = Some word
word_accessed (Write word value) = Some word
word_accessed _ = None

abbrev pub is_write : Deed → Bool
is_write (Write word value) = true
is_write _ = false

abbrev pub same_word : Option ℕ → Option ℕ → Bool
same_word (Some word) (Some other) = word == other
same_word _ _ = false

-- whether two acts are accesses of two nodes to one word, at least one of them a write
abbrev pub conflicts : Act → Act → Bool
conflicts one other = not (one.node == other.node)
    && (same_word (word_accessed one.deed) (word_accessed other.deed) && (is_write one.deed || is_write other.deed))
