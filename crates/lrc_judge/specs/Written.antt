-- The writes to a word that happen before a position, by what is known of lanes.
use Rattle.std.specs.Prelude.{◌≡◌, ℕ, ◌<◌, ◌≤◌, ◌↔◌, ◌⊎◌, Bool, false, IsTrue, List, Option, Some, None, Contains, slice_index_or}
use Rattle.lrc_trace.specs.declared.act.Act.{Act}
use Rattle.lrc_trace.specs.declared.act.Deed.TheVariants.{Read, Write}
use Rattle.lrc_trace.specs.Run.{IsDone}
use Rattle.lrc_trace.specs.Reading.{AreOrdered}
use Rattle.lrc_judge.specs.declared.entries.Told.TheVariants.{EachWrite, EachValue}
use Rattle.lrc_judge.specs.declared.written.Written.{Written}
use Rattle.lrc_judge.specs.Order.{is_before, IsOrderOf}
use Rattle.lrc_judge.specs.Lanes.{AreEntries, AreSearchable, IsEntry, entry}
use Rattle.lrc_judge.specs.Pairs.{word_lane}

-- the writes are in order, and of a lane those before a position stand first
pub record AreReady (written : Written) : Type 0 where
  pub words : AreSearchable written.order written.by_word.items
  pub values : AreSearchable written.order written.by_value.items

-- the order and the writes are those of the run
pub record IsWrittenOf (run : List Act) (written : Written) : Type 0 where
  pub order : IsOrderOf run written.order
  pub by_word : AreEntries (IsEntry run EachWrite) written.by_word.items
  pub by_value : AreEntries (IsEntry run EachValue) written.by_value.items
  pub ready : AreReady written

-- at i a node below this one writes the word, before the position
pub record IsWriteBelow (written : Written) (word below position i : ℕ) : Type 0 where
  pub node : ℕ
  pub in_range : node < below
  pub there : Contains written.by_word.items (entry (word_lane word node) i)
  pub before : IsTrue (is_before written.order i position)

-- the last of these, if there is one
abbrev pub IsLatestBelow : Written → ℕ → ℕ → ℕ → Option ℕ → Type 0
IsLatestBelow written word below position None = (i : ℕ) → ¬ IsWriteBelow written word below position i
IsLatestBelow written word below position (Some i) = IsWriteBelow written word below position i
    × ((k : ℕ) → IsWriteBelow written word below position k → k ≤ i)

-- each write to the word before the position by a node below this one is this write, or before it
abbrev pub AllLead : Written → ℕ → ℕ → ℕ → ℕ → Type 0
AllLead written word below position latest = (i : ℕ) → IsWriteBelow written word below position i
    → (i ≡ latest) ⊎ IsTrue (is_before written.order i latest)

-- a node below this one writes the value to the word, before the position
pub record IsValueBelow (written : Written) (word value below position : ℕ) : Type 0 where
  pub node : ℕ
  pub in_range : node < below
  pub i : ℕ
  pub there : Contains written.by_value.items (entry (record { word = word; value = value; node = node }) i)
  pub before : IsTrue (is_before written.order i position)

-- of each write of the word before position n it is known whether the writes before it are ordered
abbrev pub AreFlagsOf : List Act → ℕ → ℕ → List Bool → Type 0
AreFlagsOf run word n ordered = (k value : ℕ) → k < n → IsDone run k (Write word value)
    → IsTrue (slice_index_or ordered k false) ↔ AreOrdered run k word

-- that is known of each word that is read
abbrev pub AreFlags : List Act → ℕ → List Bool → Type 0
AreFlags run n ordered = (j word read : ℕ) → IsDone run j (Read word read) → AreFlagsOf run word n ordered
