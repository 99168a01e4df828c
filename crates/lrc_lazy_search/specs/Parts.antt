-- The parts of states, and the numbers that they have.
use Rattle.std.specs.Prelude.{◌≡◌, ℕ, ◌<◌, ◌≤◌, List, Some, true, length, slice_get, slice_index}
use Rattle.std.specs.List.{IsDistinct}
use Rattle.lrc_trace.specs.declared.act.Act.{Act}
use Rattle.lrc_exec.specs.declared.spot.Spot.{Spot}
use Rattle.lrc_lazy_known.specs.contracts.known.KnowledgePartialEq.TheImpl.{eq-value as knowledge_eq}
use Rattle.lrc_lazy_search.specs.declared.state.LazyState.{LazyState}
use Rattle.lrc_lazy_search.specs.declared.parts.Common.{Common}
use Rattle.lrc_lazy_search.specs.declared.parts.Notes.{Notes}
use Rattle.lrc_lazy_search.specs.contracts.parts.CommonPartialEq.TheImpl.{eq-value as common_eq}
use Rattle.lrc_lazy_search.specs.contracts.parts.NotesPartialEq.TheImpl.{eq-value as notes_eq}

-- the threads of so many nodes with these 16 numbers; past the nodes the numbers are 0
pub record AreThreadsAt (keys : List Spot) (nodes : ℕ) (numbers : List ℕ) (spots : List Spot) : Type 0 where
  pub long : length numbers ≡ 16
  pub count : length spots ≡ nodes
  pub each : (node : ℕ) → node < nodes → slice_get keys (slice_index numbers node) ≡ slice_get spots node
  pub past : (node : ℕ) → nodes ≤ node → slice_index numbers node ≡ 0

-- the notes with this number
pub record AreNotesAt (keys : List Notes) (number : ℕ) (acts : List Act) : Type 0 where
  pub notes : Notes
  pub there : slice_get keys number ≡ Some notes
  pub acts_are : notes.acts.items ≡ acts

-- no two of them are equal
abbrev pub AreCommonsDistinct : List Common → Type 0
AreCommonsDistinct keys = IsDistinct common_eq.it keys

abbrev pub AreNotesDistinct : List Notes → Type 0
AreNotesDistinct keys = IsDistinct notes_eq.it keys

-- what compares equal to this has this number
abbrev pub IsAlikeAt : List Common → (number : ℕ) → Common → Type 0
IsAlikeAt keys number common = (stored : Common) × (slice_get keys number ≡ Some stored) × (common_eq.it common stored ≡ true)

-- what the nodes of a state share has this number
pub record IsCommonAt (keys : List Common) (number : ℕ) (key : LazyState) : Type 0 where
  pub common : Common
  pub there : slice_get keys number ≡ Some common
  pub holders : common.holders.items ≡ key.state.holders.items
  pub arrivals : common.arrivals.items ≡ key.state.arrivals.items
  pub known : knowledge_eq.it key.knowledge common.knowledge ≡ true
