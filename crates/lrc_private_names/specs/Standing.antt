-- Where a node stands before an act of a run, and which of its acts set a private name.
use Rattle.std.specs.Prelude.{◌≡◌, ◌<◌, ◌&&◌, ℕ, Bool, true, false, List, [], ◌∷◌, Option, Some, None, if◌then◌else◌, length, slice_index_or, take}
use Rattle.lrc_program.specs.declared.Program.{Program}
use Rattle.lrc_program.specs.declared.Statement.{Statement}
use Rattle.lrc_trace.specs.declared.act.Act.{Act}
use Rattle.lrc_trace.specs.declared.act.Deed.{Deed}
use Rattle.lrc_trace.specs.declared.act.Deed.TheVariants.{Arrive, Trap, End}
use Rattle.lrc_trace.specs.Run.{Does}
use Rattle.lrc_exec.specs.Ask.{ask_of}
use Rattle.lrc_exec.specs.Meaning.{Thread, next_of}
use Rattle.lrc_lines.specs.Walks.{goes_on, walk_behind}
use Rattle.lrc_private_names.specs.Statement.{name_set}

-- a node's thread just before a position: where the acts before have led it. The first of the statements that are still to do is the one
-- that the node's act at the position is of.
abbrev pub thread_before : Program → (nodes : ℕ) → (lines : List ℕ) → List Act → (node position : ℕ) → Thread
thread_before program nodes lines acts node position = (walk_behind program nodes lines (take position acts) node).thread

-- whether a deed completes the statement that it is of: an arrive does not, its depart does; a trap and the end of the text complete none
abbrev pub completes : Deed → Bool
completes Arrive = false
completes (Trap cause) = false
completes End = false
completes _ = true

-- whether a thread that does this deed goes on behind its statement
abbrev pub passes : Thread → Deed → Bool
passes thread deed = completes deed && goes_on (ask_of (next_of thread))

-- the name that the first of these statements sets
abbrev pub first_set : List Statement → Option ℕ
first_set [] = None
first_set (statement ∷ rest) = name_set statement

-- the name that a thread sets by this deed, if it sets one
abbrev pub set_by : Thread → Deed → Option ℕ
set_by thread deed = if passes thread deed then first_set thread.rest else None

-- the node's act at the position sets the name
pub record Sets (program : Program) (nodes : ℕ) (lines : List ℕ) (acts : List Act) (node name position : ℕ) : Type 0 where
  pub deed : Deed
  pub does : Does acts position node deed
  pub sets : set_by (thread_before program nodes lines acts node position) deed ≡ Some name

-- it is the last one before another position that does
pub record SetsLast (program : Program) (nodes : ℕ) (lines : List ℕ) (acts : List Act) (node name before position : ℕ) : Type 0 where
  pub earlier : position < before
  pub sets : Sets program nodes lines acts node name position
  pub last : (k : ℕ) → position < k → k < before → ¬ Sets program nodes lines acts node name k

-- the last of the node's acts before a position that set the name, or none where none has
abbrev pub IsLastSet : Program → (nodes : ℕ) → (lines : List ℕ) → List Act → (node name before : ℕ) → Option ℕ → Type 0
IsLastSet program nodes lines acts node name before None = (k : ℕ) → k < before → ¬ Sets program nodes lines acts node name k
IsLastSet program nodes lines acts node name before (Some position) = SetsLast program nodes lines acts node name before position

-- for each of the 32 names the last of the node's acts before a position that set it
pub record AreLastSets (program : Program) (nodes : ℕ) (lines : List ℕ) (acts : List Act) (node before : ℕ) (lasts : List (Option ℕ)) : Type 0 where
  pub long : length lasts ≡ 32
  pub each : (name : ℕ) → name < 32 → IsLastSet program nodes lines acts node name before (slice_index_or lasts name None)
