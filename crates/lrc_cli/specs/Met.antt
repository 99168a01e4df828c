-- What a search tells that was cut short, before the fault that says so.
use Rattle.std.specs.Prelude.{◌≡◌, ℕ, Bool, true, false, not, List, Option, None, Some}
use Rattle.lrc_program.specs.declared.Program.{Program}
use Rattle.lrc_explain_waits.specs.Traps.{Wording}
use Rattle.lrc_explore_text.specs.Explored.{MeetsMany}
use Rattle.lrc_explore_text.specs.Met.{TellsMet}
use Rattle.lrc_explore_events_text.specs.Met.{ShowsMet}
use Rattle.lrc_cli_answer.specs.declared.fault.Fault.{Fault}
use Rattle.lrc_cli_answer.specs.declared.fault.Fault.TheVariants.{TooManyStates}
use Rattle.lrc_cli_args.specs.declared.choice.Exploring.{Exploring}
use Rattle.lrc_cli_args.specs.declared.choice.Memory.{Memory}
use Rattle.lrc_cli_args.specs.declared.choice.Memory.TheVariants.{Flat, Lazy, Exact}
use Rattle.lrc_cli_args.specs.declared.choice.OutcomeNumber.{OutcomeNumber}
use Rattle.lrc_cli_args.specs.declared.choice.Tell.{Tell}
use Rattle.lrc_cli.specs.Events.{line_of}

-- the text is what a search through every order met, where no outcomes are asked for
abbrev pub MeetsOrders : Exploring → Wording → Program → (places : List ℕ) → List ℕ → Fault → Type 0
MeetsOrders exploring wording program places out fault =
    (fault ≡ TooManyStates exploring.most.count) × MeetsMany wording program exploring.nodes.count places exploring.most.count exploring.outcomes out

-- what one met that looks for no race
abbrev pub MeetsFindings : Exploring → Wording → Program → (places : List ℕ) → List ℕ → Fault → Type 0
MeetsFindings exploring wording program places out fault =
    (fault ≡ TooManyStates exploring.most.count) × TellsMet wording program exploring.nodes.count places exploring.most.count false out

-- what one for ends met, where races are looked for or ignored
abbrev pub MeetsEnds : Exploring → Wording → Program → (places : List ℕ) → List ℕ → Fault → Type 0
MeetsEnds exploring wording program places out fault =
    (fault ≡ TooManyStates exploring.most.count)
    × TellsMet wording program exploring.nodes.count places exploring.most.count (not exploring.ignores_races) out

-- the text shows events along what one met for the order of a line
abbrev pub MeetsLine : Exploring → Tell → Program → List ℕ → Fault → Type 0
MeetsLine exploring tell program out fault =
    (fault ≡ TooManyStates exploring.most.count)
    × ShowsMet program exploring.nodes.count exploring.most.count (not exploring.ignores_races) (line_of tell) out

-- of one flat memory: by what is asked for, but of outcomes nothing is told
abbrev pub IsFlatMet : Option OutcomeNumber → (ends ignores_races : Bool) → Exploring → Wording → Program → (places : List ℕ) → List ℕ → Fault → Type 0
IsFlatMet (Some outcome) ends ignores_races exploring wording program places out fault = ⊥
IsFlatMet None true ignores_races exploring wording program places out fault = MeetsEnds exploring wording program places out fault
IsFlatMet None false true exploring wording program places out fault = MeetsFindings exploring wording program places out fault
IsFlatMet None false false exploring wording program places out fault = MeetsOrders exploring wording program places out fault

-- of any memory that keeps lazy reading, and of the exact one, likewise
abbrev pub IsOrdersMet : Option OutcomeNumber → (outcomes : Bool) → Exploring → Wording → Program → (places : List ℕ) → List ℕ → Fault → Type 0
IsOrdersMet (Some outcome) outcomes exploring wording program places out fault = ⊥
IsOrdersMet None true exploring wording program places out fault = ⊥
IsOrdersMet None false exploring wording program places out fault = MeetsOrders exploring wording program places out fault

-- of the memory that is asked for
abbrev pub IsMetIn : Memory → Exploring → Wording → Program → (places : List ℕ) → List ℕ → Fault → Type 0
IsMetIn Flat exploring wording program places out fault =
    IsFlatMet exploring.outcome exploring.ends exploring.ignores_races exploring wording program places out fault
IsMetIn Lazy exploring wording program places out fault =
    IsOrdersMet exploring.outcome exploring.outcomes exploring wording program places out fault
IsMetIn (Exact options) exploring wording program places out fault =
    IsOrdersMet exploring.outcome exploring.outcomes exploring wording program places out fault

-- where events are asked for: of the order of a line, but not of an outcome
abbrev pub IsEventsMet : Option OutcomeNumber → Exploring → Tell → Program → List ℕ → Fault → Type 0
IsEventsMet (Some outcome) exploring tell program out fault = ⊥
IsEventsMet None exploring tell program out fault = MeetsLine exploring tell program out fault
