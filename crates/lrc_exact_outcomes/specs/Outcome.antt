-- Runs over the exact memory after which no node can act, and what they have printed.
use Rattle.std.specs.Prelude.{◌≡◌, List, ◌++◌}
use Rattle.lrc_program.specs.declared.Program.{Program}
use Rattle.lrc_trace.specs.declared.act.Act.{Act}
use Rattle.lrc_orders.specs.Notes.{notes_of}
use Rattle.lrc_lazy.specs.Lazy.{IsOver}
use Rattle.lrc_exact.specs.Rule.{Shape}
use Rattle.lrc_exact_laws.specs.Laws.{IsExactRun}

-- some exact run, after which no node can act, has these notes
pub record IsExactOutcome (program : Program) (shape : Shape) (notes : List Act) : Type 0 where
  pub acts : List Act
  pub run : IsExactRun program shape acts
  pub over : IsOver program shape.nodes acts
  pub are : notes_of shape.nodes acts ≡ notes

-- some exact run that goes on from these acts, and after which no node can act, has these notes
pub record IsExactOutcomeFrom (program : Program) (shape : Shape) (acts notes : List Act) : Type 0 where
  pub more : List Act
  pub run : IsExactRun program shape (acts ++ more)
  pub over : IsOver program shape.nodes (acts ++ more)
  pub are : notes_of shape.nodes (acts ++ more) ≡ notes
