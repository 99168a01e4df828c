-- Where nodes come in a text whose statements have the places of their first tokens.
use Rattle.std.specs.Prelude.{◌≡◌, ◌<◌, ℕ, List, [], ◌∷◌, Some, slice_get, take}
use Rattle.lrc_program.specs.declared.Program.{Program}
use Rattle.lrc_program.specs.Statements.{Block, block_of}
use Rattle.lrc_lang.specs.Token.{Token}
use Rattle.lrc_trace.specs.declared.act.Act.{Act}
use Rattle.lrc_trace.specs.declared.act.Cause.{Cause}
use Rattle.lrc_trace.specs.declared.act.Deed.{Deed}
use Rattle.lrc_trace.specs.declared.act.Deed.TheVariants.{Trap}
use Rattle.lrc_trace.specs.Run.{Does}
use Rattle.lrc_exec.specs.Meaning.{Thread, traps, next_of}
use Rattle.lrc_exec.specs.Follows.{FollowsText}
use Rattle.lrc_lines.specs.Tasks.{Task}
use Rattle.lrc_lines.specs.Walks.{Walk, walk_behind}
use Rattle.lrc_lint_warned.specs.declared.places.Scan.TheVariants.{Statements}
use Rattle.lrc_lint_warned.specs.Found.{StatementAt, NodeAt}
use Rattle.lrc_lint_warned.specs.Held.{Path, paths}
use Rattle.lrc_lint_warned.specs.Places.{nodes_at, places_in, statements_at}

-- Where the acts so far have led a node: its thread, and the statements that it has still to do, each with the places of the tokens
-- at which it and those behind it begin. What reads give is what the acts name, so these may be the acts of any memory.
abbrev pub walk_to : Program → List Token → (nodes : ℕ) → List Act → (node : ℕ) → Walk
walk_to program tokens nodes acts node = walk_behind program nodes (places_in Statements tokens) acts node

abbrev pub thread_to : Program → List Token → (nodes : ℕ) → List Act → (node : ℕ) → Thread
thread_to program tokens nodes acts node = (walk_to program tokens nodes acts node).thread

-- the statement that comes next begins at this token
pub record IsAt (walk : Walk) (at : ℕ) : Type 0 where
  pub task : Task
  pub more : List Task
  pub todo : walk.todo ≡ task ∷ more
  pub place : slice_get task.lines 0 ≡ Some at

-- Each node that comes to this token traps there: that is what its thread does next, and in all acts that follow the text the node's
-- next deed is that trap.
pub record TrapsAt (program : Program) (tokens : List Token) (nodes at : ℕ) (cause : Walk → Cause) : Type 0 where
  pub next : (acts : List Act) (node : ℕ) → IsAt (walk_to program tokens nodes acts node) at
      → next_of (thread_to program tokens nodes acts node) ≡ traps (cause (walk_to program tokens nodes acts node))
  pub deed : (acts : List Act) (i node : ℕ) (d : Deed) → FollowsText program nodes acts → Does acts i node d → node < nodes
      → IsAt (walk_to program tokens nodes (take i acts) node) at → d ≡ Trap (cause (walk_to program tokens nodes (take i acts) node))

-- what is warned of is looked for in these
abbrev pub block_of_text : Program → Block
block_of_text program = block_of program.statements.items

abbrev pub statements_of_text : Program → List Token → List StatementAt
statements_of_text program tokens = statements_at tokens (block_of_text program)

abbrev pub nodes_of_text : Program → List Token → List NodeAt
nodes_of_text program tokens = nodes_at tokens (block_of_text program)

abbrev pub paths_of_text : Program → List Path
paths_of_text program = paths [] (block_of_text program)
