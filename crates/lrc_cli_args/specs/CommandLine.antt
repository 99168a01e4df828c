-- The words of the command line, as clap reads them, and the choice that they make.
use Rattle.std.specs.Prelude.{◌≡◌, ◌≢◌, ◌⊎◌, Bool, true, false, List, [], ◌∷◌, Option, None, Some, Result, Ok, Err, IsSome, IsSomeAnd, codes, option_map}
use Rattle.std.specs.Borrow.{Bor}
use Rattle.std.specs.Int.{IsOutOfRange}
use Rattle.clap.specs.Words.{IsAmong, Row, Text, fault_of, first_of, kind_of, subcommand_of}
use Rattle.clap.specs.declared.error.Error.{Error}
use Rattle.clap.specs.declared.error.kind.ErrorKind.{ErrorKind}
use Rattle.clap.specs.declared.error.kind.ErrorKind.TheVariants.{ArgumentConflict, InvalidSubcommand, InvalidValue, MissingRequiredArgument, OutOfMemory}
use Rattle.lrc_envelope.specs.declared.picker.Picker.{Picker}
use Rattle.lrc_cli_args.specs.declared.choice.Asking.{Asking}
use Rattle.lrc_cli_args.specs.declared.choice.ChartedActs.{ChartedActs}
use Rattle.lrc_cli_args.specs.declared.choice.Charting.{Charting}
use Rattle.lrc_cli_args.specs.declared.choice.Choice.{Choice}
use Rattle.lrc_cli_args.specs.declared.choice.Choice.TheVariants.{Check, Core, Plain, Show, Judge, Explore, Lint, WhyActs, ChartActs}
use Rattle.lrc_cli_args.specs.declared.choice.ChooseFault.{ChooseFault}
use Rattle.lrc_cli_args.specs.declared.choice.ChooseFault.TheVariants.{Usage, BadNumber, NoMemory}
use Rattle.lrc_cli_args.specs.declared.choice.ExactOptions.{ExactOptions}
use Rattle.lrc_cli_args.specs.declared.choice.Exploring.{Exploring}
use Rattle.lrc_cli_args.specs.declared.choice.ForeignActs.{ForeignActs}
use Rattle.lrc_cli_args.specs.declared.choice.Form.{Form}
use Rattle.lrc_cli_args.specs.declared.choice.Judging.{Judging}
use Rattle.lrc_cli_args.specs.declared.choice.Memory.{Memory}
use Rattle.lrc_cli_args.specs.declared.choice.PlainRun.{PlainRun}
use Rattle.lrc_cli_args.specs.declared.choice.Racing.{Racing}
use Rattle.lrc_cli_args.specs.declared.choice.Reasoning.{Reasoning}
use Rattle.lrc_cli_args.specs.declared.choice.Request.{Request}
use Rattle.lrc_cli_args.specs.declared.choice.Request.TheVariants.{About, Races, Witness as WitnessOf, Reasons as ReasonsOf, Score as ScoreOf, Answer}
use Rattle.lrc_cli_args.specs.declared.choice.RunChoice.{RunChoice}
use Rattle.lrc_cli_args.specs.declared.choice.Scoring.{Scoring}
use Rattle.lrc_cli_args.specs.declared.choice.Shape.{Shape}
use Rattle.lrc_cli_args.specs.declared.choice.Shape.TheVariants.{Report, Trace, Step, Explain, Stats, Chart, Why}
use Rattle.lrc_cli_args.specs.declared.choice.Tell.{Tell as Tells}
use Rattle.lrc_cli_args.specs.declared.choice.Topic.{Topic}
use Rattle.lrc_cli_args.specs.declared.choice.Topic.TheVariants.{Commands, Command, Version}
use Rattle.lrc_cli_args.specs.declared.choice.Way.{Way}
use Rattle.lrc_cli_args.specs.declared.choice.Witnessing.{Witnessing}
use Rattle.lrc_cli_args.specs.declared.misfit.Misfit.{Misfit}
use Rattle.lrc_cli_args.specs.declared.misfit.Misfit.TheVariants.{Order, RunOrder, Page, Form as FormMisfit, Seed, Then as ThenMisfit, Followed as FollowedMisfit, Threads, Messages, Part as PartMisfit, Memory as MemoryMisfit, ExactMemory, ExactOption, Tries as TriesMisfit, IgnoredRaces, Ends as EndsMisfit, ExploreForm, Events, ToldOrder, Tell, Topic as TopicMisfit, TraceForm, Questions, Score, Reasons, ReasonLines, Witness, WitnessLines, Hide, TextSource, SameAct, Sources, NoSource, RunOption, ChartRunOption, Number}
use Rattle.lrc_cli_args.specs.declared.races.Question.TheVariants.{Told, Scored, Reasoned, Witnessed}
use Rattle.lrc_cli_words.specs.Commands.{is_command, treadmarks}
use Rattle.clap.specs.Takes.{is_given}
use Rattle.lrc_cli_args.specs.Options.{AreChartedActs, AreEventsChosen, AreForeignActs, AreLines, AreOptions, AreRunOptions, HasBadCount, HasBadExploreNumber, HasChartedActsMisfit, HasEventsMisfit, HasExactMisfit, HasMemoryMisfit, HasForeignMisfit, HasFormMisfitIn, HasOptionsMisfit, HasRacesMisfit, HasValue, HasWayMisfitIn, IsAsking, IsChartTaken, IsHiding}
use Rattle.lrc_cli_args.specs.Options.{IsExactChosen, IsExploreTaken, IsFlag, IsFormIn, IsJudgeTaken, IsMemory, IsPart, IsPicker, IsPlainTaken, IsQuestion, IsRacesTaken, IsRunTaken, IsShowingTaken, IsStepTaken}
use Rattle.lrc_cli_args.specs.Options.{asks_outcomes, IsSimTaken, IsThreadsWayIn, IsTraceForm, IsTraceTaken, IsWayIn, IsWhyTaken, most_in, nodes_in, option_number, outcome_in, some_number_in, takes_tries, texts_of, tries_in}

-- no words at all stand for `sim -`
abbrev pub words_meant : List Text → List Text
words_meant [] = codes "sim" ∷ codes "-" ∷ []
words_meant (word ∷ words) = word ∷ words

-- ---- what clap makes sure of

-- the command that asks more of a run of the nodes, with what clap makes sure of in its matches
abbrev pub IsAskTaken : Text × List Row → Type 0
IsAskTaken found = ((found.0 ≡ codes "trace") × IsTraceTaken found.1)
    ⊎ ((found.0 ≡ codes "step") × IsStepTaken found.1)
    ⊎ ((found.0 ≡ codes "explain") × IsShowingTaken found.1)
    ⊎ ((found.0 ≡ codes "stats") × IsShowingTaken found.1)
    ⊎ ((found.0 ≡ codes "chart") × IsChartTaken found.1)

-- the command that shows something of a run of the nodes
abbrev pub IsShowTaken : Text × List Row → Type 0
IsShowTaken found = ((found.0 ≡ codes "sim") × IsSimTaken found.1)
    ⊎ ((found.0 ≡ codes "run") × IsRunTaken found.1)
    ⊎ IsAskTaken found

-- the command that the words name, with what clap makes sure of in its matches
abbrev pub IsCommandTaken : Option (Text × List Row) → Type 0
IsCommandTaken None = ⊥
IsCommandTaken (Some found) = ((found.0 ≡ codes "check") × HasValue (codes "FILE") found.1)
    ⊎ ((found.0 ≡ codes "core") × HasValue (codes "FILE") found.1)
    ⊎ ((found.0 ≡ codes "plain") × IsPlainTaken found.1)
    ⊎ ((found.0 ≡ codes "judge") × IsJudgeTaken found.1)
    ⊎ ((found.0 ≡ codes "explore") × IsExploreTaken found.1)
    ⊎ IsShowTaken found

-- the command says something of the program
abbrev pub IsTopicTaken : Text × List Row → Type 0
IsTopicTaken found = (found.0 ≡ codes "help") ⊎ (found.0 ≡ codes "version")

-- the command that looks for the races of a trace
abbrev pub IsRacesFound : Text × List Row → Type 0
IsRacesFound found = (found.0 ≡ codes "races") × IsRacesTaken found.1

-- the command that says what is wrong with a text, or why an act is as it is
abbrev pub IsHintTaken : Text × List Row → Type 0
IsHintTaken found = ((found.0 ≡ codes "lint") × HasValue (codes "FILE") found.1) ⊎ ((found.0 ≡ codes "why") × IsWhyTaken found.1)

-- the command that is answered to the texts in files
abbrev pub IsAnswerTaken : Option (Text × List Row) → Type 0
IsAnswerTaken found = IsSomeAnd found IsHintTaken ⊎ IsCommandTaken found

-- any command
abbrev pub IsRequestTaken : Option (Text × List Row) → Type 0
IsRequestTaken found = IsSomeAnd found IsTopicTaken ⊎ IsSomeAnd found IsRacesFound ⊎ IsAnswerTaken found

-- ---- the choice that the matches make

-- a run on the plain machine is chosen by these matches
abbrev pub IsPlainRun : List Row → PlainRun → Type 0
IsPlainRun rows run = AreOptions run.file.now run.nodes.count run.nodes_given run.steps.count rows

-- a run of the nodes, on threads or not
pub record IsRun (threads : Bool) (rows : List Row) (run : RunChoice) : Type 0 where
  pub options : AreRunOptions run.options rows
  pub way : IsWayIn threads rows run.way

-- the same, where a flag says whether it is on threads
pub record IsShowingRun (rows : List Row) (run : RunChoice) : Type 0 where
  pub threads : Bool
  pub asked : IsFlag (codes "threads") threads rows
  pub run_is : IsRun threads rows run

-- a run of the command `run`
pub record IsThreadsRun (rows : List Row) (run : RunChoice) : Type 0 where
  pub options : AreRunOptions run.options rows
  pub way : IsThreadsWayIn rows run.way

-- which part of a run is charted, and how
pub record IsCharting (rows : List Row) (charting : Charting) : Type 0 where
  pub text : IsFlag (codes "text") charting.text rows
  pub from : some_number_in (codes "from") rows ≡ charting.from
  pub to : some_number_in (codes "to") rows ≡ charting.to
  pub hiding : IsHiding (first_of (codes "hide") rows) charting.hides_quiet
  pub source : IsFlag (codes "source") charting.source rows
  pub apart : charting.text ≡ true → charting.source ≡ false

-- what is to be judged
pub record IsJudging (rows : List Row) (judging : Judging) : Type 0 where
  pub file : first_of (codes "FILE") rows ≡ Some judging.file.now
  pub nodes : some_number_in (codes "nodes") rows ≡ option_map (λ nodes. nodes.count) judging.nodes
  pub pairs : IsFlag (codes "pairs") judging.pairs rows
  pub all : IsFlag (codes "all") judging.all rows
  pub memory : IsExactChosen rows judging.memory

-- what is to be explored
pub record IsExploring (rows : List Row) (exploring : Exploring) : Type 0 where
  pub file : first_of (codes "FILE") rows ≡ Some exploring.file.now
  pub nodes : nodes_in rows ≡ exploring.nodes.count
  pub given : exploring.nodes_given ≡ is_given (codes "nodes") rows
  pub most : most_in rows ≡ exploring.most.count
  pub memory : IsMemory rows exploring.memory
  pub outcomes : IsFlag (codes "outcomes") exploring.outcomes rows
  pub outcome : outcome_in rows ≡ option_map (λ outcome. outcome.number) exploring.outcome
  pub tries : tries_in rows ≡ option_map (λ tries. tries.count) exploring.tries
  pub apart : IsSome (tries_in rows) → takes_tries exploring.memory exploring.outcomes (outcome_in rows) ≡ true
  pub ignores : IsFlag (codes "ignore-races") exploring.ignores_races rows
  pub plainly : exploring.ignores_races ≡ true → asks_outcomes exploring.outcomes (outcome_in rows) rows ≡ false
  pub ends : IsFlag (codes "ends") exploring.ends rows
  pub ends_plainly : exploring.ends ≡ true → asks_outcomes exploring.outcomes (outcome_in rows) rows ≡ false
  pub events : AreEventsChosen exploring.memory exploring.outcomes (outcome_in rows) exploring.ends rows exploring.events

-- a chart of a run
pub record IsRunChart (rows : List Row) (run : RunChoice) (charting : Charting) : Type 0 where
  pub acts : first_of (codes "acts") rows ≡ None
  pub run_is : IsShowingRun rows run
  pub charting_is : IsCharting rows charting

-- a chart of acts from anywhere
pub record IsActsChart (rows : List Row) (acts : ChartedActs) (charting : Charting) : Type 0 where
  pub file : first_of (codes "FILE") rows ≡ None
  pub acts_are : AreChartedActs rows acts
  pub charting_is : IsCharting rows charting

-- Why an act of a run is as it is.
pub record IsWhy (rows : List Row) (run : RunChoice) (asking : Asking) : Type 0 where
  pub acts : first_of (codes "acts") rows ≡ None
  pub run_is : IsRun false rows run
  pub asking_is : IsAsking rows asking

-- what is shown of a run is chosen by the command that clap found, with its matches
abbrev pub IsShowChoice : Text × List Row → RunChoice → Shape → Type 0
IsShowChoice found run Report = ((found.0 ≡ codes "sim") × IsRun false found.1 run) ⊎ ((found.0 ≡ codes "run") × IsThreadsRun found.1 run)
IsShowChoice found run (Trace form) = (found.0 ≡ codes "trace") × IsFormIn found.1 form × IsShowingRun found.1 run
IsShowChoice found run (Step part) = (found.0 ≡ codes "step") × IsPart found.1 part × IsShowingRun found.1 run
IsShowChoice found run Explain = (found.0 ≡ codes "explain") × IsShowingRun found.1 run
IsShowChoice found run Stats = (found.0 ≡ codes "stats") × IsShowingRun found.1 run
IsShowChoice found run (Chart charting) = (found.0 ≡ codes "chart") × IsRunChart found.1 run charting
IsShowChoice found run (Why asking) = (found.0 ≡ codes "why") × IsWhy found.1 run asking

-- Why an act from anywhere is as it is.
pub record IsWhyActs (rows : List Row) (acts : ForeignActs) (asking : Asking) : Type 0 where
  pub file : first_of (codes "FILE") rows ≡ None
  pub acts_are : AreForeignActs rows acts
  pub asking_is : IsAsking rows asking

-- the choice is the command that clap found, with its matches
abbrev pub IsChoice : Text × List Row → Choice → Type 0
IsChoice found (Check text) = (found.0 ≡ codes "check") × (first_of (codes "FILE") found.1 ≡ Some text.now)
IsChoice found (Core text) = (found.0 ≡ codes "core") × (first_of (codes "FILE") found.1 ≡ Some text.now)
IsChoice found (Plain run) = (found.0 ≡ codes "plain") × IsPlainRun found.1 run
IsChoice found (Show run shape) = IsShowChoice found run shape
IsChoice found (Judge judging) = (found.0 ≡ codes "judge") × IsJudging found.1 judging
IsChoice found (Explore exploring) = (found.0 ≡ codes "explore") × IsExploring found.1 exploring
IsChoice found (Lint file) = (found.0 ≡ codes "lint") × (first_of (codes "FILE") found.1 ≡ Some file.now)
IsChoice found (WhyActs acts asking) = (found.0 ≡ codes "why") × IsWhyActs found.1 acts asking
IsChoice found (ChartActs acts charting) = (found.0 ≡ codes "chart") × IsActsChart found.1 acts charting

-- what the program is to say of itself
abbrev pub IsTopic : Text × List Row → Topic → Type 0
IsTopic found Commands = (found.0 ≡ codes "help") × (first_of (codes "COMMAND") found.1 ≡ None)
IsTopic found (Command command) = (found.0 ≡ codes "help") × (first_of (codes "COMMAND") found.1 ≡ Some command.name.now)
IsTopic found Version = found.0 ≡ codes "version"

-- which races are looked for
pub record IsRacing (rows : List Row) (racing : Racing) : Type 0 where
  pub file : first_of (codes "FILE") rows ≡ Some racing.file.now
  pub form : IsTraceForm (first_of (codes "as") rows) racing.form
  pub asked : IsQuestion rows (Told racing.grouping)
  pub sure : IsFlag (codes "sure") racing.sure rows
  pub json : IsFlag (codes "json") racing.json rows
  pub strict : IsFlag (codes "strict") racing.strict rows

-- Which report is judged. Its lines are no objects, and of it and the trace at most one is standard input.
pub record IsScoring (rows : List Row) (scoring : Scoring) : Type 0 where
  pub file : first_of (codes "FILE") rows ≡ Some scoring.file.now
  pub form : IsTraceForm (first_of (codes "as") rows) scoring.form
  pub asked : IsQuestion rows (Scored scoring.report)
  pub apart : scoring.report.now ≡ codes "-" → scoring.file.now ≢ codes "-"
  pub sure : IsFlag (codes "sure") scoring.sure rows
  pub json : IsFlag (codes "json") false rows
  pub strict : IsFlag (codes "strict") scoring.strict rows

-- Of which two lines it is asked how their events are ordered.
pub record IsReasoning (rows : List Row) (reasoning : Reasoning) : Type 0 where
  pub file : first_of (codes "FILE") rows ≡ Some reasoning.file.now
  pub form : IsTraceForm (first_of (codes "as") rows) reasoning.form
  pub texts : Bor (List (Bor Text))
  pub asked : IsQuestion rows (Reasoned texts)
  pub lines : AreLines (texts_of texts) reasoning.lines
  pub sure : IsFlag (codes "sure") false rows
  pub json : IsFlag (codes "json") false rows
  pub strict : IsFlag (codes "strict") reasoning.strict rows

-- Of which two lines it is asked whether they are a sure race. The trace may be read twice, so it is a file.
pub record IsWitnessing (rows : List Row) (witnessing : Witnessing) : Type 0 where
  pub file : first_of (codes "FILE") rows ≡ Some witnessing.file.now
  pub no_input : witnessing.file.now ≢ codes "-"
  pub form : IsTraceForm (first_of (codes "as") rows) witnessing.form
  pub texts : Bor (List (Bor Text))
  pub asked : IsQuestion rows (Witnessed texts)
  pub lines : AreLines (texts_of texts) witnessing.lines
  pub sure : IsFlag (codes "sure") false rows
  pub json : IsFlag (codes "json") false rows
  pub strict : IsFlag (codes "strict") witnessing.strict rows

-- what the command that clap found asks for, with its matches
abbrev pub IsRequest : Text × List Row → Request → Type 0
IsRequest found (About topic) = IsTopic found topic
IsRequest found (Races racing) = (found.0 ≡ codes "races") × IsRacing found.1 racing
IsRequest found (WitnessOf witnessing) = (found.0 ≡ codes "races") × IsWitnessing found.1 witnessing
IsRequest found (ReasonsOf reasoning) = (found.0 ≡ codes "races") × IsReasoning found.1 reasoning
IsRequest found (ScoreOf scoring) = (found.0 ≡ codes "races") × IsScoring found.1 scoring
IsRequest found (Answer choice) = IsChoice found choice

-- ---- what does not fit

abbrev pub HasPlainMisfit : List Row → Misfit → Type 0
HasPlainMisfit rows misfit = (misfit ≡ Number) × HasBadCount rows

-- of a run of the nodes, on threads or not: words are looked at before numbers
pub record HasMisfitOfRun (threads : Bool) (rows : List Row) (misfit : Misfit) : Type 0 where
  pub why : HasWayMisfitIn threads rows misfit ⊎ ((way : Way) × IsWayIn threads rows way × HasOptionsMisfit rows misfit)

-- the same, where a flag says whether it is on threads
pub record HasShowingMisfit (rows : List Row) (misfit : Misfit) : Type 0 where
  pub threads : Bool
  pub asked : IsFlag (codes "threads") threads rows
  pub why : HasMisfitOfRun threads rows misfit

pub record HasTraceMisfit (rows : List Row) (misfit : Misfit) : Type 0 where
  pub why : HasFormMisfitIn rows misfit ⊎ ((form : Form) × IsFormIn rows form × HasShowingMisfit rows misfit)

-- of which part of a run is charted, and how
abbrev pub HasChartingMisfit : List Row → Misfit → Type 0
HasChartingMisfit rows misfit = ((misfit ≡ Hide) × ((hides : Bool) → ¬ IsHiding (first_of (codes "hide") rows) hides))
    ⊎ ((misfit ≡ TextSource) × IsFlag (codes "text") true rows × IsFlag (codes "source") true rows)

-- Of `chart`: how it is charted; then where the acts are from, a FILE or a file of acts; then what does not fit of these.
pub record HasChartMisfit (rows : List Row) (misfit : Misfit) : Type 0 where
  pub why : HasChartingMisfit rows misfit
      ⊎ ((misfit ≡ Sources) × IsSome (first_of (codes "FILE") rows) × IsSome (first_of (codes "acts") rows))
      ⊎ ((misfit ≡ NoSource) × (first_of (codes "FILE") rows ≡ None) × (first_of (codes "acts") rows ≡ None))
      ⊎ ((charting : Charting) × IsCharting rows charting × IsSome (first_of (codes "FILE") rows) × (first_of (codes "acts") rows ≡ None)
      × HasShowingMisfit rows misfit)
      ⊎ ((charting : Charting) × IsCharting rows charting × (first_of (codes "FILE") rows ≡ None) × IsSome (first_of (codes "acts") rows)
      × HasChartedActsMisfit rows misfit)

-- of the command `run`
pub record HasThreadsMisfit (rows : List Row) (misfit : Misfit) : Type 0 where
  pub why : ((misfit ≡ RunOrder) × ((picker : Picker) → ¬ IsPicker (first_of (codes "order") rows) picker))
      ⊎ ((picker : Picker) × IsPicker (first_of (codes "order") rows) picker × HasOptionsMisfit rows misfit)

-- of `judge`: what does not fit in its memory, then the number of nodes
abbrev pub HasJudgeMisfit : List Row → Misfit → Type 0
HasJudgeMisfit rows misfit = HasExactMisfit rows misfit
    ⊎ ((misfit ≡ Number) × ((memory : Option ExactOptions) × IsExactChosen rows memory)
    × IsSomeAnd (some_number_in (codes "nodes") rows) (IsOutOfRange 1 16))

-- a memory and whether outcomes are asked for are chosen by these matches
abbrev pub AreSought : List Row → Memory → (outcomes : Bool) → Type 0
AreSought rows memory outcomes = IsMemory rows memory × IsFlag (codes "outcomes") outcomes rows

-- an option that may not stand beside outcomes or a memory is not given, or these are not
abbrev pub StandsPlainly : Text → (outcomes : Bool) → List Row → Type 0
StandsPlainly name outcomes rows =
    (given : Bool) × IsFlag name given rows × (given ≡ true → asks_outcomes outcomes (outcome_in rows) rows ≡ false)

-- Of `explore`: the memory and its options; then runs at random that are asked for and may not be; then races that are to be ignored and may
-- not be; then ends that are asked for and may not be; then events; then numbers.
pub record HasExploreMisfit (rows : List Row) (misfit : Misfit) : Type 0 where
  pub why : HasMemoryMisfit rows misfit
      ⊎ ((misfit ≡ TriesMisfit) × (memory : Memory) × (outcomes : Bool) × AreSought rows memory outcomes × IsSome (tries_in rows)
      × (takes_tries memory outcomes (outcome_in rows) ≡ false))
      ⊎ ((misfit ≡ IgnoredRaces) × (memory : Memory) × (outcomes : Bool) × AreSought rows memory outcomes
      × (IsSome (tries_in rows) → takes_tries memory outcomes (outcome_in rows) ≡ true) × IsFlag (codes "ignore-races") true rows
      × (asks_outcomes outcomes (outcome_in rows) rows ≡ true))
      ⊎ ((misfit ≡ EndsMisfit) × (memory : Memory) × (outcomes : Bool) × AreSought rows memory outcomes
      × (IsSome (tries_in rows) → takes_tries memory outcomes (outcome_in rows) ≡ true) × StandsPlainly (codes "ignore-races") outcomes rows
      × IsFlag (codes "ends") true rows × (asks_outcomes outcomes (outcome_in rows) rows ≡ true))
      ⊎ ((memory : Memory) × (outcomes : Bool) × AreSought rows memory outcomes
      × (IsSome (tries_in rows) → takes_tries memory outcomes (outcome_in rows) ≡ true) × StandsPlainly (codes "ignore-races") outcomes rows
      × StandsPlainly (codes "ends") outcomes rows
      × ((ends : Bool) × IsFlag (codes "ends") ends rows × HasEventsMisfit memory outcomes (outcome_in rows) ends rows misfit))
      ⊎ ((misfit ≡ Number) × (memory : Memory) × (outcomes : Bool) × AreSought rows memory outcomes
      × (IsSome (tries_in rows) → takes_tries memory outcomes (outcome_in rows) ≡ true) × StandsPlainly (codes "ignore-races") outcomes rows
      × StandsPlainly (codes "ends") outcomes rows
      × ((ends : Bool) × IsFlag (codes "ends") ends rows × ((events : Option Tells) × AreEventsChosen memory outcomes (outcome_in rows) ends rows events))
      × HasBadExploreNumber rows)

-- what does not fit in what clap found of a command that shows something of a run
abbrev pub HasShowMisfit : Text × List Row → Misfit → Type 0
HasShowMisfit found misfit = ((found.0 ≡ codes "sim") × HasMisfitOfRun false found.1 misfit)
    ⊎ ((found.0 ≡ codes "run") × HasThreadsMisfit found.1 misfit)
    ⊎ ((found.0 ≡ codes "trace") × HasTraceMisfit found.1 misfit)
    ⊎ ((found.0 ≡ codes "step") × HasShowingMisfit found.1 misfit)
    ⊎ ((found.0 ≡ codes "explain") × HasShowingMisfit found.1 misfit)
    ⊎ ((found.0 ≡ codes "stats") × HasShowingMisfit found.1 misfit)
    ⊎ ((found.0 ≡ codes "chart") × HasChartMisfit found.1 misfit)

-- what does not fit in what clap found
abbrev pub HasMisfit : Text × List Row → Misfit → Type 0
HasMisfit found misfit = ((found.0 ≡ codes "plain") × HasPlainMisfit found.1 misfit)
    ⊎ ((found.0 ≡ codes "judge") × HasJudgeMisfit found.1 misfit)
    ⊎ ((found.0 ≡ codes "explore") × HasExploreMisfit found.1 misfit)
    ⊎ HasShowMisfit found misfit

-- Of `why`: of which acts it is asked; then where they are from, a FILE or a file of acts; then what does not fit of these.
pub record HasWhyMisfit (rows : List Row) (misfit : Misfit) : Type 0 where
  pub why : ((misfit ≡ SameAct) × (some_number_in (codes "and") rows ≡ Some (option_number (codes "act") rows)))
      ⊎ ((misfit ≡ Sources) × IsSome (first_of (codes "FILE") rows) × IsSome (first_of (codes "acts") rows))
      ⊎ ((misfit ≡ NoSource) × (first_of (codes "FILE") rows ≡ None) × (first_of (codes "acts") rows ≡ None))
      ⊎ ((asking : Asking) × IsAsking rows asking × IsSome (first_of (codes "FILE") rows) × (first_of (codes "acts") rows ≡ None)
      × HasMisfitOfRun false rows misfit)
      ⊎ ((asking : Asking) × IsAsking rows asking × (first_of (codes "FILE") rows ≡ None) × IsSome (first_of (codes "acts") rows)
      × HasForeignMisfit rows misfit)

-- what does not fit in what is answered to the texts in files
abbrev pub HasAnswerMisfit : Text × List Row → Misfit → Type 0
HasAnswerMisfit found misfit = ((found.0 ≡ codes "why") × HasWhyMisfit found.1 misfit) ⊎ HasMisfit found misfit

-- help is wanted on a word that is no command
abbrev pub HasTopicMisfit : Text × List Row → Misfit → Type 0
HasTopicMisfit found misfit =
    (found.0 ≡ codes "help") × (misfit ≡ TopicMisfit) × IsSomeAnd (first_of (codes "COMMAND") found.1) (λ word. is_command word ≡ false)

abbrev pub HasRequestMisfit : Text × List Row → Misfit → Type 0
HasRequestMisfit found misfit = HasTopicMisfit found misfit ⊎ ((found.0 ≡ codes "races") × HasRacesMisfit found.1 misfit)
    ⊎ HasAnswerMisfit found misfit

-- ---- faults

-- the kind of the usage text on what does not fit: a word that an option does not take, or options that do not stand together
abbrev pub IsUsageKind : Misfit → ErrorKind → Type 0
IsUsageKind Order kind = kind ≡ InvalidValue
IsUsageKind RunOrder kind = kind ≡ InvalidValue
IsUsageKind Page kind = kind ≡ InvalidValue
IsUsageKind FormMisfit kind = kind ≡ InvalidValue
IsUsageKind Seed kind = kind ≡ ArgumentConflict
IsUsageKind ThenMisfit kind = kind ≡ InvalidValue
IsUsageKind FollowedMisfit kind = kind ≡ ArgumentConflict
IsUsageKind Threads kind = kind ≡ ArgumentConflict
IsUsageKind Messages kind = kind ≡ ArgumentConflict
IsUsageKind PartMisfit kind = kind ≡ ArgumentConflict
IsUsageKind MemoryMisfit kind = kind ≡ InvalidValue
IsUsageKind ExactMemory kind = kind ≡ InvalidValue
IsUsageKind ExactOption kind = kind ≡ ArgumentConflict
IsUsageKind TriesMisfit kind = kind ≡ ArgumentConflict
IsUsageKind IgnoredRaces kind = kind ≡ ArgumentConflict
IsUsageKind EndsMisfit kind = kind ≡ ArgumentConflict
IsUsageKind ExploreForm kind = kind ≡ InvalidValue
IsUsageKind Events kind = kind ≡ ArgumentConflict
IsUsageKind ToldOrder kind = kind ≡ InvalidValue
IsUsageKind Tell kind = kind ≡ ArgumentConflict
IsUsageKind TopicMisfit kind = kind ≡ InvalidSubcommand
IsUsageKind TraceForm kind = kind ≡ InvalidValue
IsUsageKind Questions kind = kind ≡ ArgumentConflict
IsUsageKind Score kind = kind ≡ ArgumentConflict
IsUsageKind Reasons kind = kind ≡ ArgumentConflict
IsUsageKind ReasonLines kind = kind ≡ InvalidValue
IsUsageKind Witness kind = kind ≡ ArgumentConflict
IsUsageKind WitnessLines kind = kind ≡ InvalidValue
IsUsageKind Hide kind = kind ≡ InvalidValue
IsUsageKind TextSource kind = kind ≡ ArgumentConflict
IsUsageKind SameAct kind = kind ≡ ArgumentConflict
IsUsageKind Sources kind = kind ≡ ArgumentConflict
IsUsageKind NoSource kind = kind ≡ MissingRequiredArgument
IsUsageKind RunOption kind = kind ≡ ArgumentConflict
IsUsageKind ChartRunOption kind = kind ≡ ArgumentConflict
IsUsageKind Number kind = ⊥

-- the fault of what does not fit
abbrev pub IsMisfitFault : Misfit → ChooseFault → Type 0
IsMisfitFault misfit (Usage error) = IsUsageKind misfit (kind_of error)
IsMisfitFault misfit BadNumber = misfit ≡ Number
IsMisfitFault misfit NoMemory = misfit ≢ Number

-- The fault that clap's error stands for: want of memory, or one of the words.
abbrev pub choose_fault : ErrorKind → Error → ChooseFault
choose_fault OutOfMemory error = NoMemory
choose_fault _ error = Usage error

abbrev pub fault_from : Error → ChooseFault
fault_from error = choose_fault (kind_of error) error

-- Why clap finds no choice: a fault of the words, or want of memory.
abbrev pub IsFoundFault : List Text → ChooseFault → Type 0
IsFoundFault words (Usage error) = IsAmong (kind_of error) (fault_of treadmarks words)
IsFoundFault words BadNumber = ⊥
IsFoundFault words NoMemory = Unit {0}

-- clap finds no fault in the words, and this does not fit in what it found
abbrev pub AreMisfits : List Text → Misfit → Type 0
AreMisfits words misfit = (fault_of treadmarks words ≡ []) × IsSomeAnd (subcommand_of treadmarks words) (λ found. HasRequestMisfit found misfit)

-- What the words come to: where clap finds no fault in them, the request that it read, or words that do not fit, or a number
-- that is out of range; where it finds one, that fault. Memory may run out at any words.
abbrev pub Chooses : List Text → Result Request ChooseFault → Type 0
Chooses words (Ok request) = (fault_of treadmarks words ≡ []) × IsSomeAnd (subcommand_of treadmarks words) (λ found. IsRequest found request)
Chooses words (Err BadNumber) = AreMisfits words Number
Chooses words (Err (Usage error)) = IsAmong (kind_of error) (fault_of treadmarks words)
    ⊎ ((misfit : Misfit) × AreMisfits words misfit × IsUsageKind misfit (kind_of error))
Chooses words (Err NoMemory) = Unit {0}
