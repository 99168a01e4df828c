-- Outcomes of a program.
use Rattle.std.specs.Prelude.{◌≡◌, ℕ, List, Some, slice_get}
use Rattle.lrc_program.specs.declared.Program.{Program}
use Rattle.lrc_trace.specs.declared.act.Act.{Act}
use Rattle.lrc_exec.specs.Plain.{Plain, plain_start, plain_from}
use Rattle.lrc_orders.specs.declared.outcomes.Outcome.{Outcome}
use Rattle.lrc_orders.specs.Notes.{notes_of}
use Rattle.lrc_orders.specs.Stuck.{IsAtRest}

-- an order from this start after which no node can make an act, and what is noted of its acts
pub record EndsWith (start : Plain) (nodes : ℕ) (notes : List Act) : Type 0 where
  pub order : List ℕ
  pub acts : List Act
  pub machine : Plain
  pub led : plain_from start order ≡ Some (acts, machine)
  pub still : IsAtRest machine
  pub are : notes_of nodes acts ≡ notes

-- the notes are of an order of the program after which no node can make an act
abbrev pub IsOutcome : Program → (nodes : ℕ) → List Act → Type 0
IsOutcome program nodes notes = EndsWith (plain_start program nodes) nodes notes

-- one of the outcomes has these notes
pub record HasOutcome (outcomes : List Outcome) (notes : List Act) : Type 0 where
  pub place : ℕ
  pub outcome : Outcome
  pub there : slice_get outcomes place ≡ Some outcome
  pub same : outcome.notes.items ≡ notes
