-- What is answered to a choice: what is printed, or a fault.
use Rattle.std.proofs.Common.{◌≡◌, inl, ℕ, List, Option, Result, Ok, Err, IfErr, IfOk, refl, sym, subst}
use Rattle.lrc_cli_args.specs.declared.choice.Asking.{Asking}
use Rattle.lrc_cli_args.specs.declared.choice.ChartedActs.{ChartedActs}
use Rattle.lrc_cli_args.specs.declared.choice.Charting.{Charting}
use Rattle.lrc_cli_args.specs.declared.choice.Exploring.{Exploring}
use Rattle.lrc_cli_args.specs.declared.choice.ForeignActs.{ForeignActs}
use Rattle.lrc_chart_acts.specs.Picture.{IsActsPortraitFault}
use Rattle.lrc_chart_acts.specs.declared.fault.ActsChartFault.{ActsChartFault}
use Rattle.lrc_chart_acts.specs.declared.fault.ActsChartFault.TheVariants as chart_faults
use Rattle.lrc_cli_runs.specs.Charted.{part_of}
use Rattle.lrc_why_text.specs.Answers.{RefusesActs}
use Rattle.lrc_why_text.specs.declared.fault.WhyFault.{WhyFault}
use Rattle.lrc_why_text.specs.declared.fault.WhyFault.TheVariants as why_faults
use Rattle.lrc_cli.specs.Answer.{Answers, IsActsChartFault, IsAnswered, IsFault, IsWhyFault, KeepsRaces, Meets, Prints, charted_nodes, foreign_nodes, printed}
use Rattle.lrc_cli_answer.specs.FaultLine.{fault_of_acts_chart, fault_of_why}
use Rattle.lrc_cli_runs.specs.Reasoned.{asked_of}
use Rattle.lrc_cli.specs.Showing.{AnswersAsRead}
use Rattle.lrc_text.specs.Parts.{whole_text}
use Rattle.lrc_cli_answer.specs.declared.printout.Printout.{Printout}
use Rattle.lrc_cli.specs.declared.answer.Answered.{Answered}
use Rattle.lrc_cli.specs.declared.answer.Answered.TheVariants.{Printed, Judged, Met}
use Rattle.lrc_cli_args.specs.declared.choice.Choice.{Choice}
use Rattle.lrc_cli_args.specs.declared.choice.Choice.TheVariants.{Check, Core, Plain, Show, Judge, Explore, Lint, WhyActs, ChartActs}
use Rattle.lrc_cli_args.specs.declared.choice.RunChoice.{RunChoice}
use Rattle.lrc_cli_args.specs.declared.choice.Shape.{Shape}
use Rattle.lrc_cli_answer.specs.declared.fault.Fault.{Fault}
use Rattle.lrc_cli_answer.specs.declared.fault.Fault.TheVariants.{NoMemory}

-- what holds of what is printed and of the fault, in one
answered : (choice : Choice) (text : List ℕ) (events : Option (List ℕ)) (r : Result Printout Fault)
    → IfOk r (λ printout. Prints choice text events (whole_text printout.parts.items) printout.status)
    → IfErr r (λ fault. IsFault choice text events fault) → Answers choice text events (printed r)
answered choice text events (Ok printout) prints faults = prints
answered choice text events (Err fault) prints faults = faults

pub answers_of : (choice : Choice) (text : List ℕ) (events : Option (List ℕ)) (r : Result Printout Fault) (a : Result Answered Fault) → a ≡ printed r
    → IfOk r (λ printout. Prints choice text events (whole_text printout.parts.items) printout.status)
    → IfErr r (λ fault. IsFault choice text events fault) → Answers choice text events a
answers_of choice text events r a is prints faults = subst (Answers choice text events) (sym is) (answered choice text events r prints faults)

-- ---- of what is printed, or was met before a fault

-- what is printed is answered
printed_so : (P : List ℕ → ℕ → Type 0) (M : List ℕ → Fault → Type 0) (r : Result Printout Fault)
    → IfOk r (λ printout. P (whole_text printout.parts.items) printout.status) → IfOk (printed r) (IsAnswered P M)
printed_so P M (Ok printout) holds = holds
printed_so P M (Err fault) holds = tt

refused_so : (Q : Fault → Type 0) (r : Result Printout Fault) → IfErr r Q → IfErr (printed r) Q
refused_so Q (Ok printout) holds = tt
refused_so Q (Err fault) holds = holds

pub printed_ok : (P : List ℕ → ℕ → Type 0) (M : List ℕ → Fault → Type 0) (r : Result Printout Fault) (a : Result Answered Fault) → a ≡ printed r
    → IfOk r (λ printout. P (whole_text printout.parts.items) printout.status) → IfOk a (IsAnswered P M)
printed_ok P M r a is holds = subst (λ (b : Result Answered Fault). IfOk b (IsAnswered P M)) (sym is) (printed_so P M r holds)

pub printed_err : (Q : Fault → Type 0) (r : Result Printout Fault) (a : Result Answered Fault) → a ≡ printed r → IfErr r Q → IfErr a Q
printed_err Q r a is holds = subst (λ (b : Result Answered Fault). IfErr b Q) (sym is) (refused_so Q r holds)

-- what holds by less
pub answered_weaker : (P Q : List ℕ → ℕ → Type 0) (M N : List ℕ → Fault → Type 0) → ((out : List ℕ) (status : ℕ) → P out status → Q out status)
    → ((out : List ℕ) (fault : Fault) → M out fault → N out fault) → (a : Answered) → IsAnswered P M a → IsAnswered Q N a
answered_weaker P Q M N prints meets (Printed printout) is = prints (whole_text printout.parts.items) printout.status is
answered_weaker P Q M N prints meets (Judged judgement) is = absurd is
answered_weaker P Q M N prints meets (Met parts fault) is = meets (whole_text parts.items) fault is

-- what is answered of the orders of a program
explored_so : (exploring : Exploring) (text : List ℕ) (events : Option (List ℕ)) (r : Result Answered Fault)
    → IfOk r (IsAnswered (Prints (Explore exploring) text events) (Meets (Explore exploring) text))
    → IfErr r (λ fault. IsFault (Explore exploring) text events fault) → Answers (Explore exploring) text events r
explored_so exploring text events (Ok (Printed printout)) is faults = is
explored_so exploring text events (Ok (Judged judgement)) is faults = absurd is
explored_so exploring text events (Ok (Met parts fault)) is faults = is
explored_so exploring text events (Err fault) is faults = faults

pub answers_explored : (choice : Choice) (exploring : Exploring) (text : List ℕ) (events : Option (List ℕ)) (r : Result Answered Fault)
    → choice ≡ Explore exploring → IfOk r (IsAnswered (Prints (Explore exploring) text events) (Meets (Explore exploring) text))
    → IfErr r (λ fault. IsFault (Explore exploring) text events fault) → Answers choice text events r
answers_explored choice exploring text events r same is faults =
    subst (λ (chosen : Choice). Answers chosen text events r) (sym same) (explored_so exploring text events r is faults)

-- a judgement that is answered keeps its races
pub keeps_races : (choice : Choice) (text : List ℕ) (events : Option (List ℕ)) (a : Result Answered Fault) → Answers choice text events a → KeepsRaces a
keeps_races choice text events (Ok (Printed printout)) h = tt
keeps_races choice text events (Ok (Judged judgement)) h = h.1
keeps_races choice text events (Ok (Met parts fault)) h = tt
keeps_races choice text events (Err fault) h = tt

-- memory may run out at any choice
pub memory_ran_out : (choice : Choice) (text : List ℕ) (events : Option (List ℕ)) → IsFault choice text events NoMemory
memory_ran_out (Check file) text events = inl tt
memory_ran_out (Core file) text events = inl tt
memory_ran_out (Plain run) text events = inl tt
memory_ran_out (Show run shape) text events = inl tt
memory_ran_out (Judge judging) text events = tt
memory_ran_out (Explore exploring) text events = inl tt
memory_ran_out (Lint file) text events = refl
memory_ran_out (WhyActs acts asking) text events = tt
memory_ran_out (ChartActs acts charting) text events = tt

-- why a text of acts is not answered, as it is told
pub why_fault : (acts : ForeignActs) (asking : Asking) (text : List ℕ) (fault : WhyFault)
    → RefusesActs (foreign_nodes acts) (asked_of asking) text fault → IsWhyFault acts asking text (fault_of_why fault)
why_fault acts asking text why_faults.TooLong h = h
why_fault acts asking text (why_faults.BadAct line) h = h
why_fault acts asking text (why_faults.NoAct position count) h = h
why_fault acts asking text why_faults.NoMemory h = tt

-- why there is no picture of acts, as it is told
pub acts_chart_fault : (acts : ChartedActs) (charting : Charting) (text : List ℕ) (fault : ActsChartFault)
    → IsActsPortraitFault (charted_nodes acts) text (part_of charting) fault → IsActsChartFault acts charting text (fault_of_acts_chart fault)
acts_chart_fault acts charting text chart_faults.LongActs h = h
acts_chart_fault acts charting text (chart_faults.BadAct line) h = h
acts_chart_fault acts charting text chart_faults.TooLong h = h
acts_chart_fault acts charting text chart_faults.NoMemory h = tt

-- what holds for a choice holds for the same choice
pub answers_for : (choice other : Choice) (text : List ℕ) (events : Option (List ℕ)) (r : Result Printout Fault) (a : Result Answered Fault)
    → choice ≡ other → a ≡ printed r → IfOk r (λ printout. Prints other text events (whole_text printout.parts.items) printout.status)
    → IfErr r (λ fault. IsFault other text events fault) → Answers choice text events a
answers_for choice other text events r a same is prints faults =
    subst (λ (chosen : Choice). Answers chosen text events a) (sym same) (answers_of other text events r a is prints faults)

-- what is answered to a choice of a run is what is answered to that choice
pub answers_of_run : (run : RunChoice) (shape : Shape) (text : List ℕ) (events : Option (List ℕ)) (r : Result Printout Fault)
    (a : Result Answered Fault) → a ≡ printed r → AnswersAsRead run shape text events r → Answers (Show run shape) text events a
answers_of_run run shape text events (Ok printout) a is h = subst (Answers (Show run shape) text events) (sym is) h
answers_of_run run shape text events (Err fault) a is h = subst (Answers (Show run shape) text events) (sym is) h
