-- What label lines say. Numbers are of any size.
use Rattle.std.specs.Prelude.{ℕ, ◌+◌, ◌-◌, ◌&&◌, Bool, true, false, Option, Some, None, Result, Ok, Err, List, [], ◌∷◌, ◌++◌, codes, drop, fold, if◌then◌else◌, nat_le, nat_lt, take}
use Rattle.std.specs.List.{list_all, list_any}
use Rattle.std.specs.Str.{bytes_eq}
use Rattle.std.specs.Str.Parse.{digits_value}
use Rattle.lrc_text.specs.Each.{each}
use Rattle.lrc_labels.specs.declared.label.Target.{Target}
use Rattle.lrc_labels.specs.declared.label.Target.TheVariants.{Word, Words, Lock, Locks}
use Rattle.lrc_labels.specs.declared.label.Label as code_label
use Rattle.lrc_labels.specs.declared.form.Form as code_form
use Rattle.lrc_labels.specs.declared.label.IdleLabel.{IdleLabel}
use Rattle.lrc_labels.specs.declared.label.Reason.{Reason}
use Rattle.lrc_labels.specs.declared.label.Reason.TheVariants.{AnotherForm, NoSuchWord, NoSuchLock, WordTaken, LockTaken, NameTaken}
use Rattle.lrc_labels.specs.Line.{LabelLine, fields_of, label_line_in}
use Rattle.lrc_labels.specs.Name.{is_name, is_numeral}
use Rattle.lrc_labels.specs.Sizes.{fills, is_size, sizes_of}

-- what is named, its name, and the sizes behind the first, by rows
pub record Label : Type 0 where
  pub target : Target
  pub name : List ℕ
  pub sizes : List ℕ

-- a label of the code
abbrev pub label_seen : code_label.Label → Label
label_seen label = record { target = label.target; name = label.name.now; sizes = label.sizes.items }

-- the same, of a form with these sizes
abbrev pub form_seen : code_form.Form → List ℕ → Label
form_seen form sizes = record { target = form.target; name = form.name.now; sizes = sizes }

-- of the fields of a label line those that are sizes: what stands behind `words W V NAME`
abbrev pub size_fields : List (List ℕ) → List (List ℕ)
size_fields fields = drop 4 fields

-- ---- one label line

abbrev pub word_label : ℕ → ℕ → List ℕ → Result Label Reason
word_label words word name = if nat_lt word words then Ok (record { target = Word word; name = name; sizes = [] }) else Err NoSuchWord

abbrev pub lock_label : ℕ → ℕ → List ℕ → Result Label Reason
lock_label locks lock name = if nat_lt lock locks then Ok (record { target = Lock lock; name = name; sizes = [] }) else Err NoSuchLock

-- a label of so many words or locks, unless they are no whole rows of its sizes
abbrev pub if_filled : ℕ → Label → Result Label Reason
if_filled count label = if fills count label.sizes then Ok label else Err AnotherForm

abbrev pub words_label : ℕ → ℕ → ℕ → List ℕ → List ℕ → Result Label Reason
words_label words first last name sizes =
    if nat_lt last words && nat_le first last
    then if_filled (last + 1 - first) (record { target = Words first last; name = name; sizes = sizes })
    else Err NoSuchWord

abbrev pub locks_label : ℕ → ℕ → ℕ → List ℕ → List ℕ → Result Label Reason
locks_label locks first last name sizes =
    if nat_lt last locks && nat_le first last
    then if_filled (last + 1 - first) (record { target = Locks first last; name = name; sizes = sizes })
    else Err NoSuchLock

-- `word W NAME` and `lock K NAME`, by what stands in the place of `word` or `lock`
abbrev pub single_label : ℕ → ℕ → List ℕ → ℕ → List ℕ → Result Label Reason
single_label words locks kind number name =
    if bytes_eq kind (codes "word") then word_label words number name else (
    if bytes_eq kind (codes "lock") then lock_label locks number name else Err AnotherForm)

-- `words W V NAME ..` and `locks K M NAME ..`, likewise
abbrev pub several_label : ℕ → ℕ → List ℕ → ℕ → ℕ → List ℕ → List ℕ → Result Label Reason
several_label words locks kind first last name sizes =
    if bytes_eq kind (codes "words") then words_label words first last name sizes else (
    if bytes_eq kind (codes "locks") then locks_label locks first last name sizes else Err AnotherForm)

-- The label of these fields, in a program of so many words and locks, unless they have another form or there is no such word
-- or lock.
abbrev pub reading_of : ℕ → ℕ → List (List ℕ) → Result Label Reason
reading_of words locks (kind ∷ number ∷ name ∷ []) =
    if is_numeral number && is_name name then single_label words locks kind (digits_value 10 number) name else Err AnotherForm
reading_of words locks (kind ∷ first ∷ last ∷ name ∷ sizes) =
    if is_numeral first && (is_numeral last && (is_name name && list_all is_size sizes))
    then several_label words locks kind (digits_value 10 first) (digits_value 10 last) name (sizes_of sizes)
    else Err AnotherForm
reading_of words locks _ = Err AnotherForm

-- ---- behind other labels

abbrev pub first_of : Target → ℕ
first_of (Word word) = word
first_of (Words first last) = first
first_of (Lock lock) = lock
first_of (Locks first last) = first

abbrev pub last_of : Target → ℕ
last_of (Word word) = word
last_of (Words first last) = last
last_of (Lock lock) = lock
last_of (Locks first last) = last

abbrev pub is_lock : Target → Bool
is_lock (Lock lock) = true
is_lock (Locks first last) = true
is_lock _ = false

abbrev pub same_kind : Target → Target → Bool
same_kind one other = if is_lock one then is_lock other else (if is_lock other then false else true)

-- whether two targets have a word or a lock in common
abbrev pub meets : Target → Target → Bool
meets one other = same_kind one other && (nat_le (first_of one) (last_of other) && nat_le (first_of other) (last_of one))

abbrev pub taken : Target → Reason
taken target = if is_lock target then LockTaken else WordTaken

-- a label behind these labels, which says nothing where one of these has its word, its lock or its name
abbrev pub unless_taken : List Label → Result Label Reason → Result Label Reason
unless_taken earlier (Err reason) = Err reason
unless_taken earlier (Ok label) =
    if list_any (λ other. meets other.target label.target) earlier then Err (taken label.target) else (
    if list_any (λ other. bytes_eq other.name label.name) earlier then Err NameTaken else Ok label)

-- what the fields of a label line say behind these labels, or why they say nothing
abbrev pub said_of : ℕ → ℕ → List Label → List (List ℕ) → Result Label Reason
said_of words locks earlier fields = unless_taken earlier (reading_of words locks fields)

-- ---- a text

abbrev pub labels_by : Result Label Reason → List Label
labels_by (Ok label) = label ∷ []
labels_by (Err reason) = []

abbrev pub idle_by : ℕ → ℕ → Result Label Reason → List IdleLabel
idle_by number column (Ok label) = []
idle_by number column (Err reason) = record { line = number; column = column; reason = reason } ∷ []

-- what the label line of a line says behind these labels, if there is one
abbrev pub labels_in : ℕ → ℕ → List Label → Option LabelLine → List Label
labels_in words locks earlier None = []
labels_in words locks earlier (Some found) = labels_by (said_of words locks earlier (fields_of found.body))

-- the label line of the line of this number, if it says nothing behind these labels
abbrev pub idle_in : ℕ → ℕ → List Label → ℕ → Option LabelLine → List IdleLabel
idle_in words locks earlier number None = []
idle_in words locks earlier number (Some found) = idle_by number found.column (said_of words locks earlier (fields_of found.body))

abbrev pub labels_with : ℕ → ℕ → List Label → List ℕ → List Label
labels_with words locks earlier line = earlier ++ labels_in words locks earlier (label_line_in line)

-- what the label lines of these lines say, those that say something
abbrev pub labels_of : ℕ → ℕ → List (List ℕ) → List Label
labels_of words locks lines = fold (labels_with words locks) [] lines

-- the line of this place among the lines of a text, if its label line says nothing behind those of the lines before it
abbrev pub idle_at : ℕ → ℕ → List (List ℕ) → ℕ → List ℕ → List IdleLabel
idle_at words locks lines place line = idle_in words locks (labels_of words locks (take place lines)) (place + 1) (label_line_in line)

-- the label lines that say nothing, and why
abbrev pub idle_of : ℕ → ℕ → List (List ℕ) → List IdleLabel
idle_of words locks lines = each (idle_at words locks lines) lines
