-- The words of warnings.
use Rattle.std.specs.Prelude.{ℕ, true, false, List, [], ◌++◌, codes, decimal, if◌then◌else◌, slice_index_or}
use Rattle.std.specs.List.{list_any}
use Rattle.std.specs.Str.{bytes_eq}
use Rattle.lrc_labels.specs.declared.label.Reason.{Reason}
use Rattle.lrc_labels.specs.declared.label.Reason.TheVariants.{AnotherForm, LockTaken, NameTaken, NoSuchLock as NoLabelLock, NoSuchWord as NoLabelWord, WordTaken}
use Rattle.lrc_labels.specs.Reading.{Label}
use Rattle.lrc_labels.specs.Show.{lock_label_text, word_label_text}
use Rattle.lrc_lint_warned.specs.declared.found.Kind.{Kind}
use Rattle.lrc_lint_warned.specs.declared.found.Kind.TheVariants.{BelowZero, DivisionByZero, HeldAlready, HeldAtBarrier, LearnsNothing, NeverRead, NeverReleased}
use Rattle.lrc_lint_warned.specs.declared.found.Kind.TheVariants.{NeverSet, NeverWritten, NoSuchLock, NoSuchWord, NotHeld, UncertainRounds, UnchangedCondition, UnevenBarriers}
use Rattle.lrc_lint_warnings.specs.declared.warning.Says.{Says}
use Rattle.lrc_lint_warnings.specs.declared.warning.Says.TheVariants.{OfText, OfLabel}

-- a name and what is said of it; a label with that name stands for nothing in the text
abbrev pub named_text : List ℕ → List ℕ → List Label → List ℕ
named_text name words labels =
    name ++ words ++ (if list_any (λ label. bytes_eq label.name name) labels then codes " (a label stands for nothing in the text)" else [])

-- a lock with its label, and what is said of it
abbrev pub lock_text : ℕ → List ℕ → List Label → List ℕ
lock_text lock words labels = codes "lock " ++ decimal lock ++ lock_label_text labels lock ++ words

-- a word with its label, and what is said of it
abbrev pub worded_text : ℕ → List ℕ → List Label → List ℕ
worded_text word words labels = codes "word " ++ decimal word ++ word_label_text labels word ++ words

-- what a warning says, by the names of the text and its labels
abbrev pub kind_text : Kind → List (List ℕ) → List Label → List ℕ
kind_text (NeverSet name) names labels = named_text (slice_index_or names name []) (codes " is read and never set, so it is 0") labels
kind_text (NeverRead name) names labels = named_text (slice_index_or names name []) (codes " is set and never read") labels
kind_text (NoSuchWord word) names labels = codes "word " ++ decimal word ++ codes " is not below words: this traps"
kind_text (NoSuchLock lock) names labels = codes "lock " ++ decimal lock ++ codes " is not below locks: this traps"
kind_text DivisionByZero names labels = codes "division by zero: this traps"
kind_text (BelowZero false) names labels = codes "no value is below 0: this is always 0"
kind_text (BelowZero true) names labels = codes "no value is below 0: this is always 1"
kind_text (NeverWritten word) names labels = worded_text word (codes " is read and never written, so it is 0") labels
kind_text (HeldAlready lock) names labels = lock_text lock (codes " is held here already: this traps") labels
kind_text (NotHeld lock) names labels = lock_text lock (codes " is not held here: this traps") labels
kind_text (HeldAtBarrier lock) names labels =
    lock_text lock (codes " is held at this barrier: a node that waits for it does not come to its own") labels
kind_text (NeverReleased lock) names labels = lock_text lock (codes " is never released") labels
kind_text UnevenBarriers names labels = codes "one block of this if has more barriers in it than the other, and a barrier waits for every node"
kind_text UncertainRounds names labels = codes "how often nodes go round this loop may differ, and the barrier in it waits for every node"
kind_text UnchangedCondition names labels = codes "nothing in this loop changes its condition"
kind_text LearnsNothing names labels = codes "this loop learns of no write of another node: it has no acquire and no barrier"

abbrev pub reason_text : Reason → List ℕ
reason_text AnotherForm = codes "a label is `#: word W NAME`, `#: words W V NAME` or `#: lock K NAME`"
reason_text NoLabelWord = codes "there is no such word"
reason_text NoLabelLock = codes "there is no such lock"
reason_text WordTaken = codes "an earlier label has its word"
reason_text LockTaken = codes "an earlier label has its lock"
reason_text NameTaken = codes "an earlier label has its name"

abbrev pub says_text : Says → List (List ℕ) → List Label → List ℕ
says_text (OfText kind) names labels = kind_text kind names labels
says_text (OfLabel reason) names labels = codes "this label says nothing: " ++ reason_text reason
