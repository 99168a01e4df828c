-- What the program answers to a choice: a text that it prints and its status, or the first fault.
use Rattle.std.specs.Prelude.{◌≡◌, ◌≢◌, ◌⊎◌, ◌&&◌, ℕ, Bool, true, false, not, List, Option, None, Some, Result, Ok, Err, codes, option_map}
use Rattle.lrc_acts.specs.ActsText.{ReadsActs}
use Rattle.lrc_acts.specs.declared.reading.ActsFault.TheVariants.{BadAct, TooLong}
use Rattle.lrc_exec.specs.Rounds.{AreActsOfRounds}
use Rattle.lrc_program.specs.declared.Program.{Program}
use Rattle.lrc_trace.specs.declared.act.Act.{Act}
use Rattle.lrc_text.specs.Parts.{whole_text}
use Rattle.lrc_explore.specs.Answers.{FitsSettled, MetTooMany}
use Rattle.lrc_explore.specs.Met.{ComputesTooLong}
use Rattle.lrc_explore_text.specs.Explored.{Explores, MeetsTooMany}
use Rattle.lrc_explore_text.specs.Ends.{TellsEnds}
use Rattle.lrc_explore_text.specs.Orders.{TellsFindings}
use Rattle.lrc_explore_text.specs.OutcomeRun.{HasFewerOutcomes, TellsNumberedRun}
use Rattle.lrc_explain_waits.specs.Traps.{Wording}
use Rattle.lrc_source.specs.Telling.{AreLines, ReadText, traps_of}
use Rattle.lrc_judge_all.specs.JudgesAll.{JudgesAll}
use Rattle.lrc_judge_text.specs.Judgement.{Judges}
use Rattle.lrc_judge_text.specs.PairsTold.{HasItsRaces, told_text}
use Rattle.lrc_judge_text.specs.declared.memory.ExactMemory.{ExactMemory}
use Rattle.lrc_page.specs.Page.{words_of}
use Rattle.lrc_named.specs.Named.{IsReadAsNamed}
use Rattle.lrc_named_linted.specs.Linted.{TellsNamed}
use Rattle.lrc_named_warned.specs.Warned.{WarnsNamed}
use Rattle.lrc_lint_fault.specs.Told.{TellsNoProgram}
use Rattle.lrc_lint.specs.Linted.{LintsProgram}
use Rattle.lrc_why_text.specs.Answers.{AnswersActs, RefusesActs}
use Rattle.lrc_why_text.specs.declared.fault.WhyFault.TheVariants as why_faults
use Rattle.lrc_world.specs.Ends.{ends_of}
use Rattle.lrc_report.specs.ReportText.{report_text, status_of}
use Rattle.lrc_cli_answer.specs.Labels.{labels_in}
use Rattle.lrc_cli_runs.specs.Reasoned.{asked_of}
use Rattle.lrc_cli_answer.specs.Texts.{IsTextFault, IsTextOf}
use Rattle.lrc_cli_answer.specs.declared.printout.Printout.{Printout}
use Rattle.lrc_cli.specs.declared.answer.Answered.{Answered}
use Rattle.lrc_cli.specs.declared.answer.Answered.TheVariants.{Printed, Judged, Met}
use Rattle.lrc_cli_args.specs.declared.choice.Choice.{Choice}
use Rattle.lrc_cli_args.specs.declared.choice.Choice.TheVariants.{Check, Core, Plain, Show, Judge, Explore, Lint, WhyActs, ChartActs}
use Rattle.lrc_cli.specs.Reading.{HoldsAsRead, IsFaultAsRead, exploring_for, nodes_for}
use Rattle.lrc_cli.specs.Showing.{RefusesAsRead, ShowsAsRead}
use Rattle.lrc_cli_args.specs.declared.choice.Asking.{Asking}
use Rattle.lrc_cli_args.specs.declared.choice.ChartedActs.{ChartedActs}
use Rattle.lrc_cli_args.specs.declared.choice.Charting.{Charting}
use Rattle.lrc_chart_acts.specs.Picture.{IsActsPortrait, IsActsPortraitFault}
use Rattle.lrc_chart_acts.specs.declared.fault.ActsChartFault.TheVariants as chart_faults
use Rattle.lrc_chart_model.specs.declared.picture.Picture.{Picture}
use Rattle.lrc_cli_runs.specs.Charted.{IsDrawn, part_of}
use Rattle.lrc_chart_title.specs.Title.{title_text_of_acts}
use Rattle.lrc_cli_args.specs.declared.choice.ForeignActs.{ForeignActs}
use Rattle.lrc_cli_args.specs.declared.choice.ExactOptions.{ExactOptions}
use Rattle.lrc_cli_args.specs.declared.choice.Exploring.{Exploring}
use Rattle.lrc_cli_args.specs.declared.choice.Memory.{Memory}
use Rattle.lrc_cli_args.specs.declared.choice.Memory.TheVariants.{Flat, Lazy, Exact}
use Rattle.lrc_lazy_text.specs.Listed.{FitLazyRuns, MetTooManyLazily, TellsLazyOutcomes}
use Rattle.lrc_lazy_text.specs.One.{HasFewerLazyOutcomes, TellsNumberedLazyRun}
use Rattle.lrc_cli_args.specs.declared.choice.OutcomeNumber.{OutcomeNumber}
use Rattle.lrc_cli_args.specs.declared.choice.Judging.{Judging}
use Rattle.lrc_cli_args.specs.declared.choice.Tell.{Tell}
use Rattle.lrc_cli.specs.Events.{IsEventsAnswer}
use Rattle.lrc_cli.specs.Met.{IsEventsMet, IsMetIn}
use Rattle.lrc_cli.specs.Exact.{HasExactFault, HasExactRunFault, ShowsExactOutcomes, ShowsExactRun, tries_asked}
use Rattle.lrc_cli_answer.specs.declared.fault.Fault.{Fault}
use Rattle.lrc_cli_answer.specs.declared.fault.Fault.TheVariants.{Acts, LongActs, NoAct, NoOutcome, TooManyStates, NoMemory}
use Rattle.lrc_cli_answer.specs.declared.fault.Fault.TheVariants as printout_faults

-- the text is a program's, and `ok` says so
abbrev pub IsChecked : List ℕ → List ℕ → ℕ → Type 0
IsChecked text out status = (program : Program) × IsTextOf text program × (out ≡ codes "ok\n") × (status ≡ 0)

-- the text is a program's, and is printed as it stands
abbrev pub IsCored : List ℕ → List ℕ → ℕ → Type 0
IsCored text out status = (program : Program) × IsTextOf text program × (out ≡ text) × (status ≡ 0)

-- the text and the status are those of these acts
abbrev pub IsPrintoutOfActs : ℕ → List Act → List ℕ → ℕ → Type 0
IsPrintoutOfActs nodes acts out status =
    (out ≡ report_text acts (ends_of nodes acts)) × (status ≡ status_of (ends_of nodes acts))

-- the text and the status are those of the program's acts in rounds on the plain machine
abbrev pub IsPrintoutOfRounds : Program → ℕ → ℕ → List ℕ → ℕ → Type 0
IsPrintoutOfRounds program nodes steps out status =
    (acts : List Act) × AreActsOfRounds program nodes steps acts × IsPrintoutOfActs nodes acts out status

-- how many nodes the acts are of, where that is said
abbrev pub judged_nodes : Judging → Option ℕ
judged_nodes judging = option_map (λ nodes. nodes.count) judging.nodes

-- the memory is the exact memory that the acts are held against; it is there where one is named
pub record IsJudgedMemory (judging : Judging) (memory : Option ExactMemory) : Type 0 where
  pub pages : option_map (λ m. m.page_words) memory ≡ option_map (λ exact. words_of exact.size) judging.memory
  pub collections : option_map (λ m. m.collect) memory ≡ option_map (λ exact. exact.collect.count) judging.memory

-- the text shows a run that has the outcome of this number
abbrev pub ShowsOutcome : Exploring → Program → (places : List ℕ) → (number : ℕ) → List ℕ → ℕ → Type 0
ShowsOutcome exploring program places number out status = TellsNumberedRun program exploring.nodes.count places number out × (status ≡ 0)

-- the text and the status are what is said of every order
abbrev pub ShowsOrders : Exploring → Wording → Program → (places : List ℕ) → List ℕ → ℕ → Type 0
ShowsOrders exploring wording program places out status = Explores wording program exploring.nodes.count places exploring.outcomes out status

-- the text lists the outcomes of all lazy runs, and the search met no more states than it may
abbrev pub ShowsLazyOutcomes : Exploring → Program → List ℕ → ℕ → Type 0
ShowsLazyOutcomes exploring program out status = TellsLazyOutcomes program exploring.nodes.count (tries_asked exploring) out × (status ≡ 0)
    × FitLazyRuns program exploring.nodes.count exploring.most.count

-- the text shows a lazy run that has the outcome of this number, and the search for the outcomes met no more states than it may
abbrev pub ShowsLazyRun : Exploring → Program → (places : List ℕ) → (number : ℕ) → List ℕ → ℕ → Type 0
ShowsLazyRun exploring program places number out status = TellsNumberedLazyRun program exploring.nodes.count places number out × (status ≡ 0)
    × FitLazyRuns program exploring.nodes.count exploring.most.count

-- the text and the status are what is said of stuck orders and of traps, whether or not an order races
abbrev pub ShowsFindings : Exploring → Wording → Program → (places : List ℕ) → List ℕ → ℕ → Type 0
ShowsFindings exploring wording program places out status = TellsFindings wording program exploring.nodes.count places out status

-- the text and the status are what is said of every order and of ends, where races are looked for or ignored, and the search met no more
-- states than it may, unless it ended at a race, whose status is 3
abbrev pub ShowsEnds : Exploring → Wording → Program → (places : List ℕ) → List ℕ → ℕ → Type 0
ShowsEnds exploring wording program places out status =
    TellsEnds wording program exploring.nodes.count places (not exploring.ignores_races) out status
    × (status ≢ 3 → FitsSettled program exploring.nodes.count exploring.most.count)

-- of one flat memory: of the outcome that is asked for, of every order and of ends where they are asked for, of every order but for races
-- where they are ignored, or of every order
abbrev pub IsFlatAnswer : Option OutcomeNumber → (ends ignores_races : Bool) → Exploring → Wording → Program → (places : List ℕ) → List ℕ → ℕ → Type 0
IsFlatAnswer (Some outcome) ends ignores_races exploring wording program places out status =
    ShowsOutcome exploring program places outcome.number out status
IsFlatAnswer None true ignores_races exploring wording program places out status = ShowsEnds exploring wording program places out status
IsFlatAnswer None false true exploring wording program places out status = ShowsFindings exploring wording program places out status
IsFlatAnswer None false false exploring wording program places out status = ShowsOrders exploring wording program places out status

-- of any memory that keeps lazy reading: of the outcome that is asked for, of all outcomes, or else of every order, since races are the same
abbrev pub IsLazyAnswer : Option OutcomeNumber → (outcomes : Bool) → Exploring → Wording → Program → (places : List ℕ) → List ℕ → ℕ → Type 0
IsLazyAnswer (Some outcome) outcomes exploring wording program places out status = ShowsLazyRun exploring program places outcome.number out status
IsLazyAnswer None true exploring wording program places out status = ShowsLazyOutcomes exploring program out status
IsLazyAnswer None false exploring wording program places out status = ShowsOrders exploring wording program places out status

-- of the exact memory, likewise
abbrev pub IsExactAnswer : Option OutcomeNumber → (outcomes : Bool) → ExactOptions → Exploring → Wording → Program → (places : List ℕ) → List ℕ → ℕ
    → Type 0
IsExactAnswer (Some outcome) outcomes options exploring wording program places out status =
    ShowsExactRun options exploring program places outcome.number out status
IsExactAnswer None true options exploring wording program places out status = ShowsExactOutcomes options exploring program out status
IsExactAnswer None false options exploring wording program places out status = ShowsOrders exploring wording program places out status

-- of the memory that is asked for
abbrev pub IsAnswerTo : Memory → Exploring → Wording → Program → (places : List ℕ) → List ℕ → ℕ → Type 0
IsAnswerTo Flat exploring wording program places out status =
    IsFlatAnswer exploring.outcome exploring.ends exploring.ignores_races exploring wording program places out status
IsAnswerTo Lazy exploring wording program places out status =
    IsLazyAnswer exploring.outcome exploring.outcomes exploring wording program places out status
IsAnswerTo (Exact options) exploring wording program places out status =
    IsExactAnswer exploring.outcome exploring.outcomes options exploring wording program places out status

-- the labels of a text, and what it says of traps
abbrev pub wording_in : ReadText → Program → Wording
wording_in text program = record { labels = labels_in text.core program; traps = traps_of text.telling }

-- The text and the status are what is said of the program that this text is of, in the words of the text.
abbrev pub IsSaid : Exploring → ReadText → Program → List ℕ → ℕ → Type 0
IsSaid exploring text program out status = (places : List ℕ) × AreLines text program places
    × IsAnswerTo exploring.memory exploring (wording_in text program) program places out status

-- Where events are asked for, they stand in place of all that is said.
abbrev pub IsShown : Option Tell → Exploring → ReadText → Program → List ℕ → ℕ → Type 0
IsShown (Some tell) exploring text program out status = IsEventsAnswer exploring.outcome exploring tell program out status
IsShown None exploring text program out status = IsSaid exploring text program out status

abbrev pub IsExploration : Exploring → ReadText → Program → List ℕ → ℕ → Type 0
IsExploration exploring text program out status = IsShown exploring.events exploring text program out status

-- So it is of what a search met that was cut short: the text is that, and the fault is told behind it.
abbrev pub IsSaidMet : Exploring → ReadText → Program → List ℕ → Fault → Type 0
IsSaidMet exploring text program out fault = (places : List ℕ) × AreLines text program places
    × IsMetIn exploring.memory exploring (wording_in text program) program places out fault

abbrev pub IsShownMet : Option Tell → Exploring → ReadText → Program → List ℕ → Fault → Type 0
IsShownMet (Some tell) exploring text program out fault = IsEventsMet exploring.outcome exploring tell program out fault
IsShownMet None exploring text program out fault = IsSaidMet exploring text program out fault

abbrev pub IsExplorationMet : Exploring → ReadText → Program → List ℕ → Fault → Type 0
IsExplorationMet exploring text program out fault = IsShownMet exploring.events exploring text program out fault

-- What is told of a named program: of one with a fault where the first one is, and how it may be mended, with status 1; of one without a fault
-- exactly its warnings, with status 0.
abbrev pub IsToldAsNamed : List ℕ → List ℕ → List ℕ → ℕ → Type 0
IsToldAsNamed file text out status = (TellsNamed file text out × (status ≡ 1)) ⊎ (WarnsNamed file text out × (status ≡ 0))

-- the text and the status are what `lint` says of a text of this file that is read as a named program
abbrev pub IsLintedAsNamed : List ℕ → List ℕ → List ℕ → ℕ → Type 0
IsLintedAsNamed file text out status = IsReadAsNamed text × IsToldAsNamed file text out status

-- of a text of the core: that it is no program, or its warnings
abbrev pub IsLintedAsCore : List ℕ → List ℕ → List ℕ → ℕ → Type 0
IsLintedAsCore file text out status = (TellsNoProgram file text out × (status ≡ 1)) ⊎ (LintsProgram file text out × (status ≡ 0))

-- of any text
abbrev pub IsLinted : List ℕ → List ℕ → List ℕ → ℕ → Type 0
IsLinted file text out status =
    IsLintedAsNamed file text out status ⊎ ((¬ IsReadAsNamed text) × IsLintedAsCore file text out status)

-- how many nodes acts from anywhere are of, where that is said
abbrev pub foreign_nodes : ForeignActs → Option ℕ
foreign_nodes acts = option_map (λ nodes. nodes.count) acts.nodes

-- the text is what is answered of the acts
abbrev pub IsReasoned : ForeignActs → Asking → List ℕ → List ℕ → ℕ → Type 0
IsReasoned acts asking text out status = AnswersActs (foreign_nodes acts) acts.size (asked_of asking) text out × (status ≡ 0)

-- how many nodes the acts are of, where that is said
abbrev pub charted_nodes : ChartedActs → Option ℕ
charted_nodes acts = option_map (λ nodes. nodes.count) acts.nodes

-- the text is a picture of the acts, under the words by which it is had
pub record IsActsCharted (acts : ChartedActs) (charting : Charting) (text out : List ℕ) (status : ℕ) : Type 0 where
  pub picture : Picture
  pub portrait : IsActsPortrait (title_text_of_acts acts charting) (charted_nodes acts) text (part_of charting) picture
  pub drawn : IsDrawn charting.text picture out
  pub ended : status ≡ 0

-- a judgement of acts, with their racing pairs or not; where that is asked for, with each read that breaks a rule
abbrev pub IsJudged : (all pairs : Bool) → Judging → List ℕ → List ℕ → ℕ → Type 0
IsJudged true pairs judging text out status =
    (memory : Option ExactMemory) × IsJudgedMemory judging memory × JudgesAll (judged_nodes judging) memory pairs text out status
IsJudged false pairs judging text out status =
    (memory : Option ExactMemory) × IsJudgedMemory judging memory × Judges (judged_nodes judging) memory pairs text out status

-- What is printed, with the status: `ok` where the text is a program's, the text of its core, the report of what the program does in rounds on
-- the plain machine, what is shown of its run, a judgement of acts, or what every order of the program comes to.
abbrev pub Prints : Choice → List ℕ → Option (List ℕ) → List ℕ → ℕ → Type 0
Prints (Check file) text events_text out status = HoldsAsRead text (λ nodes read. IsChecked read.core out status)
Prints (Core file) text events_text out status = HoldsAsRead text (λ nodes read. IsCored read.core out status)
Prints (Plain run) text events_text out status = HoldsAsRead text (λ nodes read. (program : Program) × IsTextOf read.core program
    × IsPrintoutOfRounds program (nodes_for run.nodes_given run.nodes nodes).count run.steps.count out status)
Prints (Show run shape) text events_text out status = ShowsAsRead run shape text events_text out status
Prints (Judge judging) text events_text out status = IsJudged judging.all judging.pairs judging text out status
Prints (Explore exploring) text events_text out status = HoldsAsRead text (λ nodes read. (program : Program) × IsTextOf read.core program
    × IsExploration (exploring_for exploring nodes) read program out status)
Prints (Lint file) text events_text out status = IsLinted file.now text out status
Prints (WhyActs acts asking) text events_text out status = IsReasoned acts asking text out status
Prints (ChartActs acts charting) text events_text out status = IsActsCharted acts charting text out status

-- What is printed before a fault: what a search met that was cut short.
abbrev pub Meets : Choice → List ℕ → List ℕ → Fault → Type 0
Meets (Explore exploring) text out fault = HoldsAsRead text (λ nodes read. (program : Program) × IsTextOf read.core program
    × IsExplorationMet (exploring_for exploring nodes) read program out fault)
Meets _ text out fault = ⊥

-- what is answered is printed, which is so of a text and a status; or it was met before a fault, which is so of a text and the fault
abbrev pub IsAnswered : (List ℕ → ℕ → Type 0) → (List ℕ → Fault → Type 0) → Answered → Type 0
IsAnswered prints meets (Printed printout) = prints (whole_text printout.parts.items) printout.status
IsAnswered prints meets (Judged judgement) = ⊥
IsAnswered prints meets (Met parts fault) = meets (whole_text parts.items) fault

-- the fault of a text of acts
abbrev pub IsActsFault : Option ℕ → List ℕ → Fault → Type 0
IsActsFault nodes text LongActs = ReadsActs nodes text (Err TooLong)
IsActsFault nodes text (Acts line) = ReadsActs nodes text (Err (BadAct line))
IsActsFault nodes text NoMemory = Unit {0}
IsActsFault nodes text _ = ⊥

-- why it is not answered of acts why one is as it is: the text of acts, or no act at a position
abbrev pub IsWhyFault : ForeignActs → Asking → List ℕ → Fault → Type 0
IsWhyFault acts asking text LongActs = RefusesActs (foreign_nodes acts) (asked_of asking) text why_faults.TooLong
IsWhyFault acts asking text (Acts line) = RefusesActs (foreign_nodes acts) (asked_of asking) text (why_faults.BadAct line)
IsWhyFault acts asking text (NoAct position count) = RefusesActs (foreign_nodes acts) (asked_of asking) text (why_faults.NoAct position count)
IsWhyFault acts asking text NoMemory = Unit {0}
IsWhyFault acts asking text _ = ⊥

-- why there is no picture of acts: the text of acts, or more rows than a chart may have
abbrev pub IsActsChartFault : ChartedActs → Charting → List ℕ → Fault → Type 0
IsActsChartFault acts charting text LongActs = IsActsPortraitFault (charted_nodes acts) text (part_of charting) chart_faults.LongActs
IsActsChartFault acts charting text (Acts line) = IsActsPortraitFault (charted_nodes acts) text (part_of charting) (chart_faults.BadAct line)
IsActsChartFault acts charting text printout_faults.TooLong = IsActsPortraitFault (charted_nodes acts) text (part_of charting) chart_faults.TooLong
IsActsChartFault acts charting text NoMemory = Unit {0}
IsActsChartFault acts charting text _ = ⊥

-- the fault where the outcome of this number is asked for: there are fewer, or the search met more states than it might
abbrev pub HasOutcomeFault : Exploring → Program → (number : ℕ) → Fault → Type 0
HasOutcomeFault exploring program number (NoOutcome missed) = (missed ≡ number) × HasFewerOutcomes program exploring.nodes.count number
HasOutcomeFault exploring program number (TooManyStates most) =
    (most ≡ exploring.most.count) × MeetsTooMany program exploring.nodes.count most true
HasOutcomeFault exploring program number NoMemory = Unit {0}
HasOutcomeFault exploring program number _ = ⊥

-- the fault of a search through every order: it met more states than it might, or, where no outcomes are asked for, it looked at more acts
abbrev pub HasOrdersFault : Exploring → Program → Fault → Type 0
HasOrdersFault exploring program (TooManyStates most) =
    (most ≡ exploring.most.count) × MeetsTooMany program exploring.nodes.count most exploring.outcomes
    × (exploring.outcomes ≡ false → ComputesTooLong program exploring.nodes.count most)
HasOrdersFault exploring program NoMemory = Unit {0}
HasOrdersFault exploring program _ = ⊥

-- of one through all lazy runs
abbrev pub HasLazyFault : Exploring → Program → Fault → Type 0
HasLazyFault exploring program (TooManyStates most) = (most ≡ exploring.most.count) × MetTooManyLazily program exploring.nodes.count most
HasLazyFault exploring program NoMemory = Unit {0}
HasLazyFault exploring program _ = ⊥

-- the same where the outcome of this number is asked for: there are fewer, too
abbrev pub HasLazyRunFault : Exploring → Program → (number : ℕ) → Fault → Type 0
HasLazyRunFault exploring program number (NoOutcome missed) = (missed ≡ number) × HasFewerLazyOutcomes program exploring.nodes.count number
HasLazyRunFault exploring program number (TooManyStates most) = (most ≡ exploring.most.count) × MetTooManyLazily program exploring.nodes.count most
HasLazyRunFault exploring program number NoMemory = Unit {0}
HasLazyRunFault exploring program number _ = ⊥

-- of one that looks for no race: it looked at more acts than it might
abbrev pub HasFindingsFault : Exploring → Program → Fault → Type 0
HasFindingsFault exploring program (TooManyStates most) =
    (most ≡ exploring.most.count) × MetTooMany program exploring.nodes.count most false false × ComputesTooLong program exploring.nodes.count most
HasFindingsFault exploring program NoMemory = Unit {0}
HasFindingsFault exploring program _ = ⊥

-- of one for ends, and of one for the order of a line, where races are looked for or ignored
abbrev pub HasLineFault : Exploring → Program → Fault → Type 0
HasLineFault exploring program (TooManyStates most) =
    (most ≡ exploring.most.count) × MetTooMany program exploring.nodes.count most false (not exploring.ignores_races)
    × ComputesTooLong program exploring.nodes.count most
HasLineFault exploring program NoMemory = Unit {0}
HasLineFault exploring program _ = ⊥

-- by what is asked for
abbrev pub IsFlatFault : Option OutcomeNumber → (ends ignores_races : Bool) → Exploring → Program → Fault → Type 0
IsFlatFault (Some outcome) ends ignores_races exploring program fault = HasOutcomeFault exploring program outcome.number fault
IsFlatFault None true ignores_races exploring program fault = HasLineFault exploring program fault
IsFlatFault None false true exploring program fault = HasFindingsFault exploring program fault
IsFlatFault None false false exploring program fault = HasOrdersFault exploring program fault

abbrev pub IsLazyFault : Option OutcomeNumber → (outcomes : Bool) → Exploring → Program → Fault → Type 0
IsLazyFault (Some outcome) outcomes exploring program fault = HasLazyRunFault exploring program outcome.number fault
IsLazyFault None true exploring program fault = HasLazyFault exploring program fault
IsLazyFault None false exploring program fault = HasOrdersFault exploring program fault

abbrev pub IsExactFault : Option OutcomeNumber → (outcomes : Bool) → ExactOptions → Exploring → Program → Fault → Type 0
IsExactFault (Some outcome) outcomes options exploring program fault = HasExactRunFault options exploring program outcome.number fault
IsExactFault None true options exploring program fault = HasExactFault options exploring program fault
IsExactFault None false options exploring program fault = HasOrdersFault exploring program fault

-- the fault of a search through the runs of the memory that is asked for
abbrev pub IsFaultIn : Memory → Exploring → Program → Fault → Type 0
IsFaultIn Flat exploring program fault = IsFlatFault exploring.outcome exploring.ends exploring.ignores_races exploring program fault
IsFaultIn Lazy exploring program fault = IsLazyFault exploring.outcome exploring.outcomes exploring program fault
IsFaultIn (Exact options) exploring program fault = IsExactFault exploring.outcome exploring.outcomes options exploring program fault

-- the fault of a search for the order whose events are asked for: of an outcome, by the memory, or of a line
abbrev pub HasOutcomeEventsFault : Memory → Exploring → Program → (number : ℕ) → Fault → Type 0
HasOutcomeEventsFault Flat exploring program number fault = HasOutcomeFault exploring program number fault
HasOutcomeEventsFault Lazy exploring program number fault = HasOutcomeFault exploring program number fault
HasOutcomeEventsFault (Exact options) exploring program number fault = HasExactRunFault options exploring program number fault

abbrev pub IsEventsFault : Option OutcomeNumber → Exploring → Program → Fault → Type 0
IsEventsFault (Some outcome) exploring program fault = HasOutcomeEventsFault exploring.memory exploring program outcome.number fault
IsEventsFault None exploring program fault = HasLineFault exploring program fault

abbrev pub IsFaultOfSearch : Option Tell → Exploring → Program → Fault → Type 0
IsFaultOfSearch (Some tell) exploring program fault = IsEventsFault exploring.outcome exploring program fault
IsFaultOfSearch None exploring program fault = IsFaultIn exploring.memory exploring program fault

abbrev pub IsSearchFault : Exploring → Program → Fault → Type 0
IsSearchFault exploring program fault = IsFaultOfSearch exploring.events exploring program fault

-- The first fault: of the text, then of the events, then of the run or the search, then of what is shown of the run. Memory may run out at any time.
abbrev pub IsFault : Choice → List ℕ → Option (List ℕ) → Fault → Type 0
IsFault (Check file) text events_text fault = IsFaultAsRead text fault (λ nodes read. IsTextFault read.core fault)
IsFault (Core file) text events_text fault = IsFaultAsRead text fault (λ nodes read. IsTextFault read.core fault)
IsFault (Plain run) text events_text fault = IsFaultAsRead text fault (λ nodes read. IsTextFault read.core fault)
IsFault (Show run shape) text events_text fault = RefusesAsRead run shape text events_text fault
IsFault (Judge judging) text events_text fault = IsActsFault (judged_nodes judging) text fault
IsFault (Explore exploring) text events_text fault = IsFaultAsRead text fault (λ nodes read. IsTextFault read.core fault
    ⊎ ((program : Program) × IsTextOf read.core program × IsSearchFault (exploring_for exploring nodes) program fault))
IsFault (Lint file) text events_text fault = fault ≡ NoMemory
IsFault (WhyActs acts asking) text events_text fault = IsWhyFault acts asking text fault
IsFault (ChartActs acts charting) text events_text fault = IsActsChartFault acts charting text fault

-- whether the choice asks for racing pairs that are found while they are written
abbrev pub asks_pairs : Choice → Bool
asks_pairs (Judge judging) = judging.pairs && not judging.all
asks_pairs _ = false

-- What is answered to a choice: what is printed, a judgement with the racing pairs that are asked for, what is printed before a fault, or the first
-- fault.
abbrev pub Answers : Choice → List ℕ → Option (List ℕ) → Result Answered Fault → Type 0
Answers choice text events_text (Ok (Printed printout)) = Prints choice text events_text (whole_text printout.parts.items) printout.status
Answers choice text events_text (Ok (Judged judgement)) = (asks_pairs choice ≡ true) × HasItsRaces judgement
    × Prints choice text events_text (told_text judgement) judgement.status
Answers choice text events_text (Ok (Met parts fault)) = Meets choice text (whole_text parts.items) fault
Answers choice text events_text (Err fault) = IsFault choice text events_text fault

-- a printout, as an answer
abbrev pub printed : Result Printout Fault → Result Answered Fault
printed (Ok printout) = Ok (Printed printout)
printed (Err fault) = Err fault

-- what a judgement keeps of its races is of its acts
abbrev pub KeepsRaces : Result Answered Fault → Type 0
KeepsRaces (Ok (Judged judgement)) = HasItsRaces judgement
KeepsRaces _ = Unit {0}
