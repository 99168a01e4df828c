-- The labels of what a named program declares, and those that are read from what `core` prints of it.
use Rattle.std.specs.Prelude.{ℕ, ◌+◌, ◌-◌, Option, List, [], ◌∷◌}
use Rattle.std.specs.List.{flat_map}
use Rattle.lrc_labels.specs.declared.cut.Divider.TheVariants.{LineFeed}
use Rattle.lrc_labels.specs.declared.label.IdleLabel.{IdleLabel}
use Rattle.lrc_labels.specs.declared.label.Target.TheVariants.{Word, Words, Lock, Locks}
use Rattle.lrc_labels.specs.Cut.{cut, divides}
use Rattle.lrc_labels.specs.Reading.{Label, idle_of, labels_of}
use Rattle.lrc_named_names.specs.Elements.{elements}
use Rattle.lrc_named_names.specs.Names.{Declared, Meaning, constant, function, lock, shared}
use Rattle.lrc_named.specs.Named.{IsCoreText}

-- a shared word, or an array from its first word to its last one; a label has the sizes of an array but the first
abbrev pub label_of_words : (name : List ℕ) → (first : ℕ) → (sizes : List ℕ) → Label
label_of_words name first [] = record { target = Word first; name = name; sizes = [] }
label_of_words name first (size ∷ sizes) = record { target = Words first (first + (elements (size ∷ sizes) - 1)); name = name; sizes = sizes }

-- a lock, or an array of locks
abbrev pub label_of_locks : (name : List ℕ) → (first : ℕ) → (sizes : List ℕ) → Label
label_of_locks name first [] = record { target = Lock first; name = name; sizes = [] }
label_of_locks name first (size ∷ sizes) = record { target = Locks first (first + (elements (size ∷ sizes) - 1)); name = name; sizes = sizes }

-- constants and functions have none
abbrev pub labels_as : List ℕ → Meaning → List Label
labels_as name (constant n) = []
labels_as name (shared item) = label_of_words name item.first item.sizes ∷ []
labels_as name (lock item) = label_of_locks name item.first item.sizes ∷ []
labels_as name (function parameters body) = []

-- those of all items, in the order in which they are declared
abbrev pub labels_declared : List Declared → List Label
labels_declared declared = flat_map (λ (d : Declared). labels_as d.name d.meaning) declared

-- what is read from the text that `core` prints of a named program: its labels, and the label lines that say nothing
abbrev pub labels_read : {text core : List ℕ} {nodes : Option ℕ} → IsCoreText text nodes core → List Label
labels_read {core = core} printed = labels_of printed.core_is.words printed.core_is.locks (cut (divides LineFeed) core)

abbrev pub idle_read : {text core : List ℕ} {nodes : Option ℕ} → IsCoreText text nodes core → List IdleLabel
idle_read {core = core} printed = idle_of printed.core_is.words printed.core_is.locks (cut (divides LineFeed) core)
