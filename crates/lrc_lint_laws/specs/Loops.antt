-- Nodes that go round a loop.
use Rattle.std.specs.Prelude.{◌≡◌, ◌≤◌, ℕ, Option, None, List, ◌∷◌, ◌++◌, take}
use Rattle.lrc_program.specs.declared.Program.{Program}
use Rattle.lrc_program.specs.declared.Statement.{Statement}
use Rattle.lrc_program.specs.declared.Statement.TheVariants.{While'}
use Rattle.lrc_lang.specs.Token.{Token}
use Rattle.lrc_trace.specs.declared.act.Act.{Act}
use Rattle.lrc_trace.specs.declared.act.Deed.{Deed}
use Rattle.lrc_trace.specs.declared.act.Deed.TheVariants.{Acquire, Arrive, Depart}
use Rattle.lrc_trace.specs.Run.{Does}
use Rattle.lrc_exec.specs.Meaning.{Thread, value_in}
use Rattle.lrc_lines.specs.Tasks.{Task}
use Rattle.lrc_lines.specs.Walks.{Walk}
use Rattle.lrc_lint_laws.specs.Comes.{IsAt, walk_to}

-- the loop is still to do, and behind it what comes after it: the node has not left the loop
pub record IsInLoop (walk : Walk) (loop : Task) (more : List Task) : Type 0 where
  pub inside : List Task
  pub todo : walk.todo ≡ inside ++ loop ∷ more

-- from one position to another the node does not leave the loop
abbrev pub StaysInLoop : Program → List Token → (nodes : ℕ) → List Act → (node : ℕ) → (loop : Task) → (more : List Task) → (from upto : ℕ) → Type 0
StaysInLoop program tokens nodes acts node loop more from upto =
    (i : ℕ) → from ≤ i → i ≤ upto → IsInLoop (walk_to program tokens nodes (take i acts) node) loop more

-- the value of a loop's condition to a thread
abbrev pub condition_value : Thread → Statement → Option ℕ
condition_value thread (While' condition p body) = value_in thread condition
condition_value thread _ = None

-- by these deeds a node learns of others, or comes to where it will
pub data Learns : Deed → Type 0 where
  acquiring : {lock : ℕ} → Learns (Acquire lock)
  arriving : Learns Arrive
  departing : Learns Depart

-- A node comes to a loop, makes its act at position i there, and does not leave the loop before its act at position j.
pub record GoesRound (program : Program) (tokens : List Token) (nodes : ℕ) (acts : List Act) (node at i j : ℕ) : Type 0 where
  pub here : IsAt (walk_to program tokens nodes (take i acts) node) at
  pub begins : (d : Deed) × Does acts i node d
  pub later : i ≤ j
  pub stays : StaysInLoop program tokens nodes acts node here.task here.more i j
