-- What the code keeps of labels, beside them.
use Rattle.std.specs.Prelude.{◌≡◌, ℕ, true, false, List, map}
use Rattle.std.specs.List.{list_any}
use Rattle.std.specs.Str.{bytes_eq}
use Rattle.lrc_labels.specs.declared.known.Known.{Known}
use Rattle.lrc_labels.specs.declared.label.Target.{Target}
use Rattle.lrc_labels.specs.Reading.{Label, first_of, is_lock, label_seen, last_of, meets}
use Rattle.lrc_labels.specs.Spans.{AreSpansFrom, reaches}

-- the spans are those of the words and of the locks of these labels, and the names are theirs
pub record Tells (labels : List Label) (known : Known) : Type 0 where
  pub are_words : AreSpansFrom 0 known.words.items
  pub are_locks : AreSpansFrom 0 known.locks.items
  pub words : (target : Target) → is_lock target ≡ false
      → list_any (reaches (first_of target) (last_of target)) known.words.items ≡ list_any (λ label. meets label.target target) labels
  pub locks : (target : Target) → is_lock target ≡ true
      → list_any (reaches (first_of target) (last_of target)) known.locks.items ≡ list_any (λ label. meets label.target target) labels
  pub names : (name : List ℕ) → list_any (λ key. bytes_eq name key.now) known.names.keys ≡ list_any (λ label. bytes_eq label.name name) labels

-- the same of all labels so far
abbrev pub IsKnown : Known → Type 0
IsKnown known = Tells (map label_seen known.said.items) known
