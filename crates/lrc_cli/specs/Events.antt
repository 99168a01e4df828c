-- What is answered to `explore` where events are asked for.
use Rattle.std.specs.Prelude.{◌≡◌, ℕ, List, Option, None, Some, not}
use Rattle.lrc_program.specs.declared.Program.{Program}
use Rattle.lrc_cli_args.specs.declared.choice.Exploring.{Exploring}
use Rattle.lrc_cli_args.specs.declared.choice.Memory.{Memory}
use Rattle.lrc_cli_args.specs.declared.choice.Memory.TheVariants.{Flat, Lazy, Exact}
use Rattle.lrc_cli_args.specs.declared.choice.OutcomeNumber.{OutcomeNumber}
use Rattle.lrc_cli_args.specs.declared.choice.Tell.{Tell}
use Rattle.lrc_cli_args.specs.declared.choice.Tell.TheVariants as tells
use Rattle.lrc_explore_events_text.specs.declared.told.Line.{Line}
use Rattle.lrc_explore_events_text.specs.declared.told.Line.TheVariants.{End, First, Stuck, Trap}
use Rattle.lrc_explore_events_text.specs.Shows.{ShowsLine, ShowsNumberedRun}
use Rattle.lrc_cli.specs.Exact.{ShowsExactEvents}

-- the line of which an order is asked for
abbrev pub line_of : Tell → Line
line_of tells.First = First
line_of tells.Stuck = Stuck
line_of tells.Trap = Trap
line_of tells.End = End

-- the text shows events along the order of this line, with the status
abbrev pub ShowsLineOf : Exploring → Line → Program → List ℕ → ℕ → Type 0
ShowsLineOf exploring line program out status =
    ShowsLine program exploring.nodes.count (not exploring.ignores_races) exploring.ends line out status

-- the text shows events along a run that has the outcome of this number
abbrev pub ShowsOutcomeEvents : Exploring → Program → (number : ℕ) → List ℕ → ℕ → Type 0
ShowsOutcomeEvents exploring program number out status = ShowsNumberedRun program exploring.nodes.count number out × (status ≡ 0)

-- so it does in the memory that is asked for
abbrev pub ShowsEventsIn : Memory → Exploring → Program → (number : ℕ) → List ℕ → ℕ → Type 0
ShowsEventsIn Flat exploring program number out status = ShowsOutcomeEvents exploring program number out status
ShowsEventsIn Lazy exploring program number out status = ShowsOutcomeEvents exploring program number out status
ShowsEventsIn (Exact options) exploring program number out status = ShowsExactEvents options exploring program number out status

-- of the outcome that is asked for, or of the line
abbrev pub IsEventsAnswer : Option OutcomeNumber → Exploring → Tell → Program → List ℕ → ℕ → Type 0
IsEventsAnswer (Some outcome) exploring tell program out status = ShowsEventsIn exploring.memory exploring program outcome.number out status
IsEventsAnswer None exploring tell program out status = ShowsLineOf exploring (line_of tell) program out status
