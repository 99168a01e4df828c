-- What a text says of traps, and of words and locks.
use Rattle.std.specs.Prelude.{ℕ, List, [], Option, None, Some, map, option_map, slice_index_or}
use Rattle.std.specs.List.{range_with_len}
use Rattle.lrc_labels.specs.Reading.{Label, label_seen}
use Rattle.lrc_program.specs.declared.Program.{Program}
use Rattle.lrc_lines.specs.Statements.{numbers_of}
use Rattle.lrc_lines.specs.Walks.{line_behind}
use Rattle.lrc_named_core.specs.Tree.{Trap, plain}
use Rattle.lrc_named_core.specs.View.{trap_of}
use Rattle.lrc_trace.specs.declared.act.Act.{Act}
use Rattle.lrc_explain_waits.specs.declared.traps.Wording as code

-- what is said at a place; past the last one nothing is
abbrev pub trap_at : List Trap → (place : ℕ) → Trap
trap_at traps place = slice_index_or traps place plain

-- what is said of a trap of the statement to which a node has come behind acts; `traps` has what is said of each statement, at the place of its
-- number
abbrev pub trap_behind : List Trap → Program → (nodes : ℕ) → List Act → (node : ℕ) → Trap
trap_behind traps program nodes acts node = trap_at traps (line_behind program nodes (numbers_of program) acts node)

-- the same of nodes 0, 1, ..
abbrev pub traps_behind : List Trap → Program → (nodes : ℕ) → List Act → List Trap
traps_behind traps program nodes acts = map (trap_behind traps program nodes acts) (range_with_len 0 nodes)

-- the same; nothing, where nothing is said of statements
abbrev pub traps_told : Option (List Trap) → Program → (nodes : ℕ) → List Act → List Trap
traps_told None program nodes acts = []
traps_told (Some traps) program nodes acts = traps_behind traps program nodes acts

-- the labels of words and of locks, and what is said of a trap of each statement, in the order of the core's text, where something is said
pub record Wording : Type 0 where
  pub labels : List Label
  pub traps : Option (List Trap)

abbrev pub wording_of : code.Wording → Wording
wording_of w = record { labels = map label_seen w.labels.now; traps = option_map (λ traps. map trap_of traps.now) w.traps }
