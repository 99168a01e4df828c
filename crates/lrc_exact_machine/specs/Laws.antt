-- What the exact machine makes.
use Rattle.std.specs.Prelude.{◌≡◌, ℕ, Some, List}
use Rattle.lrc_program.specs.declared.Program.{Program}
use Rattle.lrc_trace.specs.declared.act.Act.{Act}
use Rattle.lrc_exec.specs.Follows.{nodes_of_acts}
use Rattle.lrc_exact.specs.Rule.{Shape}
use Rattle.lrc_exact_laws.specs.Laws.{IsExactRun}
use Rattle.lrc_exact_machine.specs.Machine.{exact}

-- What it makes is a run of the program that reads exactly, and its nodes are the entries of the order.
abbrev pub MakesExactRuns : Type 0
MakesExactRuns = (program : Program) (shape : Shape) (order : List ℕ) (run : List Act) → exact program shape order ≡ Some run
    → IsExactRun program shape run × (nodes_of_acts run ≡ order)

-- Each run of the program that reads exactly it makes, led by the order of the run's nodes.
abbrev pub MakesEachExactRun : Type 0
MakesEachExactRun = (program : Program) (shape : Shape) (run : List Act) → IsExactRun program shape run
    → exact program shape (nodes_of_acts run) ≡ Some run
