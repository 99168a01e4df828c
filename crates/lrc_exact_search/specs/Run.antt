-- Exact runs so far, and where their acts have led the nodes.
use Rattle.std.specs.Prelude.{◌≡◌, ℕ, ◌<◌, ◌≤◌, List, [], ◌∷◌, ◌++◌, Some, length, slice_index}
use Rattle.lrc_program.specs.declared.Program.{Program}
use Rattle.lrc_trace.specs.declared.act.Act.{Act}
use Rattle.lrc_trace.specs.declared.act.Deed.{Deed}
use Rattle.lrc_trace.specs.declared.act.Deed.TheVariants.{Quiet, Print, Read}
use Rattle.lrc_exec.specs.Flat.{IsCodeOf}
use Rattle.lrc_exec.specs.Plain.{Plain, start_of, thread_in}
use Rattle.lrc_exec.specs.States.{plain_at, IsStateOf}
use Rattle.lrc_exec.specs.Follows.{FollowsText, deeds_of}
use Rattle.lrc_consistency_laws.specs.Matching.{Matches}
use Rattle.lrc_lazy.specs.Following.{IsFlatOf}
use Rattle.lrc_lazy.specs.Standing.{with_memory, Comes}
use Rattle.lrc_lazy.specs.Swapped.{IsNoAcquire}
use Rattle.lrc_exact.specs.Rule.{Shape}
use Rattle.lrc_exact_laws.specs.Laws.{IsExactRun}
use Rattle.lrc_exact_judge.specs.Current.{IsMemoryOf}
use Rattle.lrc_exact_judge.specs.Shape.{shape_of}
use Rattle.lrc_exact_search.specs.declared.run.ExactRun.{ExactRun}
use Rattle.lrc_exact_search.specs.declared.run.Task.{Task}

-- the code is the program's, for the nodes of the layout
pub record IsTask (task : Task) : Type 0 where
  pub flat : IsFlatOf task.program.now task.flat.nodes task.flat task.start
  pub nodes : task.flat.nodes ≡ task.layout.nodes
  pub code : IsCodeOf task.flat.code.now task.start task.program.now.statements.items

-- The acts have led each node's thread here; with some words the machine is what they make of it.
pub record IsLedTo (program : Program) (nodes : ℕ) (acts : List Act) (machine : Plain) : Type 0 where
  pub follows : FollowsText program nodes acts
  pub memory : List ℕ
  pub matches : Matches acts (length acts) (with_memory machine memory)
  pub long : length memory ≡ program.words
  pub size : length machine.arrivals ≡ nodes
  pub leads : (n : ℕ) → n < nodes → Comes (Some (start_of program nodes n)) (deeds_of n acts) (thread_in machine n)

-- the acts are an exact run, they have led the nodes to the state, and the memory is the exact memory after them
pub record IsAt (task : Task) (run : ExactRun) : Type 0 where
  pub exact : IsExactRun task.program.now (shape_of task.layout) run.acts.items
  pub led : IsLedTo task.program.now task.flat.nodes run.acts.items (plain_at task.flat run.state)
  pub valid : IsStateOf task.flat run.state
  pub counted : (node : ℕ) → slice_index run.state.arrivals.items node ≤ length run.acts.items
  pub memory : IsMemoryOf run.acts.items run.memory
  pub layout : run.memory.layout ≡ task.layout

-- a deed that changes nothing but where its node stands
abbrev pub IsLook : Deed → Type 0
IsLook Quiet = Unit {0}
IsLook (Print value) = Unit {0}
IsLook (Read word value) = Unit {0}
IsLook _ = ⊥

-- the act may come next, and acquires no lock
pub record IsFree (program : Program) (shape : Shape) (acts : List Act) (act : Act) : Type 0 where
  pub longer : IsExactRun program shape (acts ++ act ∷ [])
  pub free : IsNoAcquire act.deed

-- such acts, one after another, lead from one run to another
pub data IsAhead (program : Program) (shape : Shape) (acts : List Act) : List Act → Type 0 where
  still : IsAhead program shape acts acts
  onward : {mid : List Act} (act : Act) → IsAhead program shape acts mid → IsFree program shape mid act → IsAhead program shape acts (mid ++ act ∷ [])

-- however many acts are wanted, such acts lead to a run that has as many
abbrev pub IsEndless : Program → Shape → List Act → Type 0
IsEndless program shape acts = (many : ℕ) → (ahead : List Act) × IsAhead program shape acts ahead × (many ≤ length ahead)
