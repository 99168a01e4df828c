-- What comes next of a node after acts, and for whom it waits, by what acts did.
use Rattle.std.specs.Prelude.{◌≡◌, ◌≢◌, ℕ, ◌-◌, ◌<◌, ◌≤◌, ◌==◌, Bool, List, Option, Some, None, if◌then◌else◌, length, nat_lt, sum_by}
use Rattle.lrc_program.specs.declared.Program.{Program}
use Rattle.lrc_trace.specs.declared.act.Act.{Act}
use Rattle.lrc_trace.specs.declared.act.Cause.{Cause}
use Rattle.lrc_trace.specs.declared.act.Deed.{Deed}
use Rattle.lrc_trace.specs.declared.act.Deed.TheVariants as deeds
use Rattle.lrc_trace.specs.Run.{Does, arrives_before, departs_before}
use Rattle.lrc_trace.specs.Synchronization.{Holds}
use Rattle.lrc_exec.specs.declared.machine.Ask.{Ask}
use Rattle.lrc_exec.specs.declared.machine.Ask.TheVariants.{Acquire, Barrier}
use Rattle.lrc_exec.specs.Ask.{deed_asked, steps_of}
use Rattle.lrc_explain_waits.specs.declared.missing.Missing.{Missing}
use Rattle.lrc_explain_waits.specs.Stand.{ask_behind, fate_of}

-- how often a node has arrived at barriers after all acts, and how often it has departed from them
abbrev pub arrives_in : List Act → (node : ℕ) → ℕ
arrives_in run node = arrives_before run node (length run)

abbrev pub departs_in : List Act → (node : ℕ) → ℕ
departs_in run node = departs_before run node (length run)

-- it has neither trapped nor come to the end of the text
pub record IsUnfinished (run : List Act) (node : ℕ) : Type 0 where
  pub no_trap : (j : ℕ) (cause : Cause) → ¬ Does run j node (deeds.Trap cause)
  pub no_end : (j : ℕ) → ¬ Does run j node deeds.End

-- the steps that a node has taken: of each of its deeds as many as it takes the plain machine
abbrev pub steps_taken : List Act → (node : ℕ) → ℕ
steps_taken run node = sum_by (λ act. if act.node == node then steps_of act.deed else 0) run

-- of so many steps, of which some are taken, so many are left; where no number is given, there are always more
abbrev pub AreLeft : (steps : Option ℕ) → (taken more : ℕ) → Type 0
AreLeft None taken more = Unit {0}
AreLeft (Some steps) taken more = more ≤ steps - taken

-- a node has enough steps left for a deed
abbrev pub HasStepsFor : (steps : Option ℕ) → List Act → (node : ℕ) → Deed → Type 0
HasStepsFor steps run node deed = AreLeft steps (steps_taken run node) (steps_of deed)

-- what a node does that asks for this: at a barrier at which it has arrived, it departs
abbrev pub deed_by : (arrived : Bool) → Ask → Deed
deed_by arrived Barrier = if arrived then deeds.Depart else deeds.Arrive
deed_by arrived ask = deed_asked 0 ask

-- what a node does next that asks for this
abbrev pub deed_next : List Act → (node : ℕ) → Ask → Deed
deed_next run node ask = deed_by (nat_lt (departs_in run node) (arrives_in run node)) ask

-- this comes next of an unfinished node: its thread asks for it, and the node has the steps for it
pub record IsNext (program : Program) (nodes : ℕ) (lines : List ℕ) (steps : Option ℕ) (run : List Act) (node : ℕ) (ask : Ask) : Type 0 where
  pub unfinished : IsUnfinished run node
  pub asked : ask_behind program nodes lines run node ≡ ask
  pub left : HasStepsFor steps run node (deed_next run node ask)

-- A node may not depart from its next barrier while this other one has not arrived there: the other one has arrived no more often
-- than the node has departed.
pub record KeepsBack (run : List Act) (node other : ℕ) : Type 0 where
  pub another : other ≢ node
  pub late : arrives_in run other ≤ departs_in run node

-- one of the nodes keeps a node back, and ended like this
pub record IsMissing (nodes : ℕ) (run : List Act) (node : ℕ) (missing : Missing) : Type 0 where
  pub inside : missing.node < nodes
  pub back : KeepsBack run node missing.node
  pub fate : missing.fate ≡ fate_of missing.node run

-- a lock comes next of a node, and the other one holds it
pub record AwaitsHolder (program : Program) (nodes : ℕ) (lines : List ℕ) (steps : Option ℕ) (run : List Act) (node other : ℕ) : Type 0 where
  pub lock : ℕ
  pub next : IsNext program nodes lines steps run node (Acquire lock)
  pub held : Holds run (length run) other lock

-- a barrier comes next of a node, or it has arrived there, and the other one is the lowest of those that keep it back
pub record AwaitsLowest (program : Program) (nodes : ℕ) (lines : List ℕ) (steps : Option ℕ) (run : List Act) (node other : ℕ) : Type 0 where
  pub next : IsNext program nodes lines steps run node Barrier
  pub back : KeepsBack run node other
  pub lowest : (lower : ℕ) → lower < other → ¬ KeepsBack run node lower
