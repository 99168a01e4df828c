-- What is told of the texts that are printed of a run.
use Rattle.std.specs.Prelude.{◌≡◌, ℕ, ◌+◌, Bool, false, List, None, Some, decimal, slice_get, slice_index}
use Rattle.lrc_program.specs.declared.Program.{Program}
use Rattle.lrc_trace.specs.declared.act.Act.{Act}
use Rattle.lrc_races_trace.specs.declared.event.Event.{Event}
use Rattle.lrc_races_trace.specs.Trace.{At}
use Rattle.lrc_acts_text.specs.Rapid.{RapidStep, rapid_of}
use Rattle.lrc_races_text.specs.declared.asked.Asked.{Asked}
use Rattle.lrc_races_text.specs.declared.asked.Layout.{Layout}
use Rattle.lrc_races_text.specs.declared.asked.Sought.TheVariants.{AllRaces}
use Rattle.lrc_races_text.specs.declared.form.Form.TheVariants.{Std, Acts}
use Rattle.lrc_races_text.specs.Naming.{Naming}
use Rattle.lrc_races_text.specs.Spelled.{place_name}
use Rattle.lrc_races_text.specs.Told.{IsWholeOf}
use Rattle.lrc_races_laws.specs.Traces.{AreToldOf}
use Rattle.lrc_races_laws.specs.Steps.{AreToldOfSteps}
use Rattle.lrc_races_laws.specs.Said.{AreSaid, acts_said}
use Rattle.lrc_races_text.specs.Says.{Said}

-- all races are asked for, by groups or not, in this layout
abbrev pub all_races : Bool → Layout → Asked
all_races group layout = record { sought = AllRaces; group = group; layout = layout; strict = false }

-- Each event is on the line of its step's place, and its location is the line of the program's text that the step's act is of.
abbrev pub ArePlacedSteps : List ℕ → List RapidStep → Naming → List Event → Type 0
ArePlacedSteps lines steps naming events = (k : ℕ) (step : RapidStep) (event : Event) → slice_get steps k ≡ Some step → At events k event
    → (event.line ≡ k + 1) × (place_name naming event.location ≡ decimal (slice_index lines step.position))

-- likewise of acts
abbrev pub ArePlacedActs : List ℕ → Naming → List Event → Type 0
ArePlacedActs lines naming events = (k : ℕ) (event : Event) → At events k event
    → (event.line ≡ k + 1) × (place_name naming event.location ≡ decimal (slice_index lines k))

-- All is told of the steps of a run, with this status: what is printed is the text of what they say, the pairs in it are races of the
-- run, of each access and node the last, each by its lines, and no event is one that no program would give.
pub record TellsRapid (program : Program) (nodes : ℕ) (acts : List Act) (lines : List ℕ) (group : Bool) (layout : Layout) (status : ℕ) (told : List ℕ) : Type 0 where
  pub said : List Said
  pub says : AreSaid lines (rapid_of program.locks nodes acts) said
  pub whole : IsWholeOf Std (all_races group layout) said status told
  pub placed : ArePlacedSteps lines (rapid_of program.locks nodes acts) whole.naming whole.events
  pub races : AreToldOfSteps acts (rapid_of program.locks nodes acts) whole.pairs
  pub formed : whole.fault ≡ None

-- so it is of the acts of a run
pub record TellsActs (acts : List Act) (lines : List ℕ) (group : Bool) (layout : Layout) (status : ℕ) (told : List ℕ) : Type 0 where
  pub whole : IsWholeOf Acts (all_races group layout) (acts_said 0 lines acts) status told
  pub placed : ArePlacedActs lines whole.naming whole.events
  pub races : AreToldOf acts whole.pairs
  pub formed : whole.fault ≡ None
