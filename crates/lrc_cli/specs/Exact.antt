-- What is answered to `explore` of the exact memory, where outcomes are asked for.
use Rattle.std.specs.Prelude.{◌≡◌, ℕ, List, Option, option_map}
use Rattle.lrc_program.specs.declared.Program.{Program}
use Rattle.lrc_page.specs.Page.{words_of}
use Rattle.lrc_exact.specs.Rule.{Shape}
use Rattle.lrc_exact_search.specs.Searching.{MeetsMore}
use Rattle.lrc_protocol.specs.Node.{OptionsRecord}
use Rattle.lrc_exact_text.specs.Events.{TellsNumberedExactEvents}
use Rattle.lrc_exact_text.specs.Listed.{FitExactRuns, TellsExactOutcomes}
use Rattle.lrc_exact_text.specs.One.{HasFewerExactOutcomes, TellsNumberedExactRun}
use Rattle.lrc_cli_args.specs.declared.choice.ExactOptions.{ExactOptions}
use Rattle.lrc_cli_args.specs.declared.choice.Exploring.{Exploring}
use Rattle.lrc_cli_answer.specs.declared.fault.Fault.{Fault}
use Rattle.lrc_cli_answer.specs.declared.fault.Fault.TheVariants.{NoMemory, NoOutcome, TooManyStates}

-- the exact memory that is asked for, for the nodes
abbrev pub exact_shape : ExactOptions → Exploring → Shape
exact_shape options exploring = record { nodes = exploring.nodes.count; size = words_of options.size; collect = options.collect.count }

-- how the nodes go in the runs of seeds, and by events
abbrev pub exact_options : ExactOptions → OptionsRecord
exact_options options = record { steps = 1000000; collect = options.collect.count; first = 0; size = options.size }

-- how many runs at random are tried, if any are
abbrev pub tries_asked : Exploring → Option ℕ
tries_asked exploring = option_map (λ tries. tries.count) exploring.tries

-- the text lists the outcomes of all exact runs, with the seeds of those that are tried, and the search met no more runs than it may
abbrev pub ShowsExactOutcomes : ExactOptions → Exploring → Program → List ℕ → ℕ → Type 0
ShowsExactOutcomes options exploring program out status =
    TellsExactOutcomes program (exact_shape options exploring) (exact_options options) (tries_asked exploring) out × (status ≡ 0)
    × FitExactRuns program (exact_shape options exploring) exploring.most.count

-- the text shows an exact run that has the outcome of this number, and the search for the outcomes met no more runs than it may
abbrev pub ShowsExactRun : ExactOptions → Exploring → Program → (places : List ℕ) → (number : ℕ) → List ℕ → ℕ → Type 0
ShowsExactRun options exploring program places number out status =
    TellsNumberedExactRun program (exact_shape options exploring) places number out × (status ≡ 0)
    × FitExactRuns program (exact_shape options exploring) exploring.most.count

-- the text shows events that make an exact run with the outcome of this number, and the search for the outcomes met no more runs than it may
abbrev pub ShowsExactEvents : ExactOptions → Exploring → Program → (number : ℕ) → List ℕ → ℕ → Type 0
ShowsExactEvents options exploring program number out status =
    TellsNumberedExactEvents program (exact_shape options exploring) (exact_options options) number out × (status ≡ 0)
    × FitExactRuns program (exact_shape options exploring) exploring.most.count

-- the fault of a search through all exact runs: it met more than it might
abbrev pub HasExactFault : ExactOptions → Exploring → Program → Fault → Type 0
HasExactFault options exploring program (TooManyStates most) =
    (most ≡ exploring.most.count) × MeetsMore program (exact_shape options exploring) most
HasExactFault options exploring program NoMemory = Unit {0}
HasExactFault options exploring program _ = ⊥

-- the same where the outcome of this number is asked for: there are fewer, too
abbrev pub HasExactRunFault : ExactOptions → Exploring → Program → (number : ℕ) → Fault → Type 0
HasExactRunFault options exploring program number (NoOutcome missed) =
    (missed ≡ number) × HasFewerExactOutcomes program (exact_shape options exploring) number
HasExactRunFault options exploring program number (TooManyStates most) =
    (most ≡ exploring.most.count) × MeetsMore program (exact_shape options exploring) most
HasExactRunFault options exploring program number NoMemory = Unit {0}
HasExactRunFault options exploring program number _ = ⊥
