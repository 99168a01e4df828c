-- Steps from one settled state to the next, and what they lead to.
use Rattle.std.specs.Prelude.{◌≡◌, ℕ, ◌<◌, true, false, Bool, List, ◌∷◌, ◌++◌, Option, Some, None, Contains, length}
use Rattle.std.specs.List.{range_with_len}
use Rattle.lrc_program.specs.declared.Program.{Program}
use Rattle.lrc_trace.specs.declared.act.Act.{Act}
use Rattle.lrc_trace.specs.declared.act.Deed.{Deed}
use Rattle.lrc_trace.specs.Run.{act_of}
use Rattle.lrc_exec.specs.Meaning.{Thread}
use Rattle.lrc_exec.specs.Plain.{Plain, thread_in, plain_step, plain_from, plain_start}
use Rattle.lrc_orders.specs.Meeting.{IsCalm}
use Rattle.lrc_orders.specs.Notes.{notes_of}
use Rattle.lrc_orders.specs.Stuck.{IsAtRest, IsStuck}
use Rattle.lrc_orders.specs.Traps.{has_trap}
use Rattle.lrc_orders_laws.specs.Free.{is_contended}
use Rattle.lrc_orders_laws.specs.Settling.{Settles}

-- whether a node has arrived and not departed
abbrev pub waits_in : Option Thread → Bool
waits_in None = false
waits_in (Some thread) = thread.arrived

-- every node has
pub record AllWait (machine : Plain) : Type 0 where
  pub each : (node : ℕ) → node < length machine.threads → waits_in (thread_in machine node) ≡ true

-- a step makes these acts and leads from one settled state to that one: a read, a write or an acquire of one node, and settling;
-- or, where every node has arrived and none departed, the departs of all, ascending, and settling
pub data Leads : Plain → List Act → Plain → Type 0 where
  alone : (machine mid after : Plain) (node : ℕ) (deed : Deed) (acts : List Act) → is_contended deed ≡ true → plain_step machine node ≡ Some (deed, mid)
      → Settles mid acts after → Leads machine (act_of node deed ∷ acts) after
  together : (machine mid after : Plain) (departs acts : List Act) → AllWait machine
      → plain_from machine (range_with_len 0 (length machine.threads)) ≡ Some (departs, mid) → Settles mid acts after → Leads machine (departs ++ acts) after

-- a settled state of the program, with the acts that lead to it: the beginning, settled, or where a step leads from one
pub data IsSettledState (program : Program) (nodes : ℕ) : List Act → Plain → Type 0 where
  beginning : (acts : List Act) (machine : Plain) → Settles (plain_start program nodes) acts machine → IsSettledState program nodes acts machine
  onward : (acts more : List Act) (before after : Plain) → IsSettledState program nodes acts before → Leads before more after
      → IsSettledState program nodes (acts ++ more) after

-- at no settled state two nodes meet
abbrev pub NeverMeetsSettled : Program → ℕ → Type 0
NeverMeetsSettled program nodes = (acts : List Act) (machine : Plain) → IsSettledState program nodes acts machine → IsCalm machine

-- at some settled state no node can make an act (one that turns for ever can), and some node has neither ended nor trapped
pub record GetsStuckSettled (program : Program) (nodes : ℕ) : Type 0 where
  pub acts : List Act
  pub machine : Plain
  pub led : IsSettledState program nodes acts machine
  pub stuck : IsStuck machine

-- by no acts that lead to a settled state a node traps
abbrev pub NeverTrapsSettled : Program → ℕ → Type 0
NeverTrapsSettled program nodes = (acts : List Act) (machine : Plain) → IsSettledState program nodes acts machine → has_trap acts ≡ false

-- at some settled state no node can make an act, and these are the notes of the acts that lead there
pub record IsSettledOutcome (program : Program) (nodes : ℕ) (notes : List Act) : Type 0 where
  pub acts : List Act
  pub machine : Plain
  pub led : IsSettledState program nodes acts machine
  pub still : IsAtRest machine
  pub are : notes_of nodes acts ≡ notes

-- these states have the settled start of the program, and every one that a step leads to from one of them, and at none of them do two
-- nodes meet
pub record IsSettledCertificate (program : Program) (nodes : ℕ) (states : List Plain) : Type 0 where
  pub start : (acts : List Act) (machine : Plain) → Settles (plain_start program nodes) acts machine → Contains states machine
  pub closed : (before after : Plain) (acts : List Act) → Contains states before → Leads before acts after → Contains states after
  pub calm : (machine : Plain) → Contains states machine → IsCalm machine
