-- Settled states from which steps lead to an end.
use Rattle.std.specs.Prelude.{ℕ, List}
use Rattle.lrc_program.specs.declared.Program.{Program}
use Rattle.lrc_trace.specs.declared.act.Act.{Act}
use Rattle.lrc_exec.specs.Plain.{Plain}
use Rattle.lrc_orders.specs.Stuck.{IsAtRest}
use Rattle.lrc_orders_laws.specs.Steps.{IsSettledState, Leads}

-- steps lead from this state to one at which no node can make an act
pub data EndsBySteps : Plain → Type 0 where
  ended : (machine : Plain) → IsAtRest machine → EndsBySteps machine
  goes_on : (machine after : Plain) (acts : List Act) → Leads machine acts after → EndsBySteps after → EndsBySteps machine

-- so it is of each settled state of the program
abbrev pub EveryStateEnds : Program → ℕ → Type 0
EveryStateEnds program nodes = (acts : List Act) (machine : Plain) → IsSettledState program nodes acts machine → EndsBySteps machine
