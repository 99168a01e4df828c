-- A lazy run that has given notes.
use Rattle.std.specs.Prelude.{◌≡◌, ℕ, List, Option, Some, None}
use Rattle.lrc_program.specs.declared.Program.{Program}
use Rattle.lrc_trace.specs.declared.act.Act.{Act}
use Rattle.lrc_orders.specs.Notes.{notes_of}
use Rattle.lrc_lazy.specs.Lazy.{IsLazyRun, IsOver, IsLazyOutcome}

-- the acts are a lazy run of the program, after which no node can act, with these notes
pub record IsEndedLazyRun (program : Program) (nodes : ℕ) (notes : List Act) (acts : List Act) : Type 0 where
  pub run : IsLazyRun program nodes acts
  pub over : IsOver program nodes acts
  pub are : notes_of nodes acts ≡ notes

-- such acts, or no lazy run has these notes
abbrev pub IsLazyRunFor : Program → (nodes : ℕ) → (notes : List Act) → Option (List Act) → Type 0
IsLazyRunFor program nodes notes (Some acts) = IsEndedLazyRun program nodes notes acts
IsLazyRunFor program nodes notes None = ¬ IsLazyOutcome program nodes notes
