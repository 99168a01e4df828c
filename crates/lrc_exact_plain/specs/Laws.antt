-- What holds of the exact runs of programs without a race.
use Rattle.std.specs.Prelude.{◌≡◌, ◌↔◌, List, Some}
use Rattle.lrc_program.specs.declared.Program.{Program}
use Rattle.lrc_trace.specs.declared.act.Act.{Act}
use Rattle.lrc_exec.specs.Plain.{plain}
use Rattle.lrc_exec.specs.Follows.{nodes_of_acts}
use Rattle.lrc_consistency_laws.specs.Racing.{HasNoRace}
use Rattle.lrc_orders.specs.Outcome.{IsOutcome}
use Rattle.lrc_exact.specs.Rule.{Shape}
use Rattle.lrc_exact_laws.specs.Laws.{IsExactRun}
use Rattle.lrc_exact_outcomes.specs.Outcome.{IsExactOutcome}

-- The exact runs are those that the plain machine makes.
abbrev pub RunsArePlain : Type 0
RunsArePlain = (program : Program) (shape : Shape) → HasNoRace program shape.nodes → (acts : List Act)
    → IsExactRun program shape acts ↔ (plain program shape.nodes (nodes_of_acts acts) ≡ Some acts)

-- The outcomes are those of the orders.
abbrev pub OutcomesArePlain : Type 0
OutcomesArePlain = (program : Program) (shape : Shape) → HasNoRace program shape.nodes → (notes : List Act)
    → IsExactOutcome program shape notes ↔ IsOutcome program shape.nodes notes
