-- Labels behind the numbers of words and locks.
use Rattle.std.specs.Prelude.{ℕ, ◌-◌, ◌==◌, ◌&&◌, Bool, false, Option, Some, None, List, [], ◌++◌, codes, decimal, find, nat_le}
use Rattle.std.specs.List.{flat_map}
use Rattle.lrc_labels.specs.declared.label.Target.{Target}
use Rattle.lrc_labels.specs.declared.label.Target.TheVariants.{Word, Words, Lock, Locks}
use Rattle.lrc_labels.specs.Reading.{Label}
use Rattle.lrc_labels.specs.Sizes.{indices}

abbrev pub names_word : Target → ℕ → Bool
names_word (Word named) word = named == word
names_word (Words first last) word = nat_le first word && nat_le word last
names_word _ word = false

abbrev pub names_lock : Target → ℕ → Bool
names_lock (Lock named) lock = named == lock
names_lock (Locks first last) lock = nat_le first lock && nat_le lock last
names_lock _ lock = false

abbrev pub index_text : ℕ → List ℕ
index_text index = codes "[" ++ decimal index ++ codes "]"

-- the place of a word or of a lock among those that a label numbers: its index, from 0, or its indices by rows
abbrev pub place_text : Target → (sizes : List ℕ) → ℕ → List ℕ
place_text (Words first last) sizes word = flat_map index_text (indices (word - first) sizes)
place_text (Locks first last) sizes lock = flat_map index_text (indices (lock - first) sizes)
place_text _ sizes number = []

-- the name by which a label calls a word or a lock: `NAME`, or `NAME[I]`, or `NAME[I][J]` ..
abbrev pub name_of : ℕ → Label → List ℕ
name_of number label = label.name ++ place_text label.target label.sizes number

-- the label of a word or of a lock, behind its number
abbrev pub shown_text : ℕ → Label → List ℕ
shown_text number label = codes " (" ++ name_of number label ++ codes ")"

abbrev pub text_or_none : (Label → List ℕ) → Option Label → List ℕ
text_or_none text None = []
text_or_none text (Some label) = text label

-- the first of the labels that names a word, and the first that names a lock
abbrev pub label_of_word : List Label → ℕ → Option Label
label_of_word labels word = find (λ label. names_word label.target word) labels

abbrev pub label_of_lock : List Label → ℕ → Option Label
label_of_lock labels lock = find (λ label. names_lock label.target lock) labels

-- ` (NAME)` or ` (NAME[I]..)` where a label names the word
abbrev pub word_label_text : List Label → ℕ → List ℕ
word_label_text labels word = text_or_none (shown_text word) (label_of_word labels word)

-- the same of a lock
abbrev pub lock_label_text : List Label → ℕ → List ℕ
lock_label_text labels lock = text_or_none (shown_text lock) (label_of_lock labels lock)

-- a name, the number of a word or of a lock, and the label behind the number
abbrev pub numbered_word : List Label → (name : List ℕ) → (word : ℕ) → List ℕ
numbered_word labels name word = name ++ decimal word ++ word_label_text labels word

abbrev pub numbered_lock : List Label → (name : List ℕ) → (lock : ℕ) → List ℕ
numbered_lock labels name lock = name ++ decimal lock ++ lock_label_text labels lock

-- ---- in an object of JSON: a name has no byte that would have to be escaped there

abbrev pub member_text : ℕ → Label → List ℕ
member_text number label = codes ",\"label\":\"" ++ name_of number label ++ codes "\""

-- the member `"label"` where a label names the word
abbrev pub word_label_member : List Label → ℕ → List ℕ
word_label_member labels word = text_or_none (member_text word) (label_of_word labels word)

-- the member `"label"` where a label names the lock
abbrev pub lock_label_member : List Label → ℕ → List ℕ
lock_label_member labels lock = text_or_none (member_text lock) (label_of_lock labels lock)
