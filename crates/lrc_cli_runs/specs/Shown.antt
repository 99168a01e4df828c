-- What is shown of a run.
use Rattle.std.specs.Prelude.{◌≡◌, ℕ, List, Option, length, map}
use Rattle.lrc_clock.specs.Keeping.{KeepsTime}
use Rattle.lrc_program.specs.declared.Program.{Program}
use Rattle.lrc_events.specs.Writing.{events_text}
use Rattle.lrc_acts_text.specs.ActsText.{acts_text}
use Rattle.lrc_acts_text.specs.Json.{json_of_acts}
use Rattle.lrc_acts_text.specs.Rapid.{rapid_text}
use Rattle.lrc_trace.specs.declared.end.End.{End}
use Rattle.lrc_report.specs.ReportText.{run_status_of, run_text}
use Rattle.lrc_run.specs.Run.{turns_of_nodes}
use Rattle.lrc_source.specs.Telling.{ReadText}
use Rattle.lrc_states.specs.declared.told.Telling.TheVariants.{InWords}
use Rattle.lrc_stats.specs.StatsText.{stats_text}
use Rattle.lrc_world.specs.declared.keep.Keep.{Keep}
use Rattle.lrc_world.specs.declared.keep.Keep.TheVariants.{All, Newest, Turns}
use Rattle.lrc_world.specs.declared.report.Report.{Report}
use Rattle.lrc_world.specs.declared.run.Run.{Run}
use Rattle.lrc_why_run.specs.Answers.{AnswersRun}
use Rattle.lrc_turns_text.specs.TurnsText.{messages_text}
use Rattle.lrc_cli_args.specs.declared.choice.Form.{Form}
use Rattle.lrc_bytes_turns.specs.Turns.{bytes_text}
use Rattle.lrc_turns_text.specs.Turns.{turns_told}
use Rattle.lrc_cli_args.specs.declared.choice.Form.TheVariants.{Acts, Bytes, Events, Json, Messages, Rapid, States}
use Rattle.lrc_cli_args.specs.declared.choice.Part.{Part}
use Rattle.lrc_world.specs.declared.turned.Turned.{Turned}
use Rattle.lrc_cli_args.specs.declared.choice.RunChoice.{RunChoice}
use Rattle.lrc_cli_args.specs.declared.choice.RunOptions.{RunOptions}
use Rattle.lrc_cli_args.specs.declared.choice.Shape.{Shape}
use Rattle.lrc_cli_args.specs.declared.choice.Shape.TheVariants as shapes
use Rattle.lrc_cli_args.specs.declared.choice.Shape.TheVariants.{Chart, Explain, Stats, Step, Trace, Why}
use Rattle.lrc_cli_runs.specs.Charted.{IsCharted, IsTooLong}
use Rattle.lrc_cli_runs.specs.Explained.{IsExplained}
use Rattle.lrc_cli_answer.specs.Labels.{labels_in}
use Rattle.lrc_cli_runs.specs.Lines.{AreLinesIn}
use Rattle.lrc_cli_runs.specs.Reasoned.{IsUntold, asked_of}
use Rattle.lrc_cli_runs.specs.Runs.{IsRunWith, turns_in}
use Rattle.lrc_cli_runs.specs.Stated.{HasTooManyTurns, IsFormTooLong, IsStated, IsStepped, name_of}
use Rattle.lrc_cli_answer.specs.declared.fault.Fault.{Fault}
use Rattle.lrc_cli_answer.specs.declared.fault.Fault.TheVariants.{NoAct, NoMemory, TooLong, TooManyTurns}

-- A run in one of the forms, where the acts are of these lines: its acts, also with the messages among them, or as JSON with the labels of
-- the text and the time that its node has just after each, or as accesses and their order; or its events that are not skipped.
abbrev pub IsWrittenAs : Form → ReadText → Program → RunOptions → Run → (lines out : List ℕ) → Type 0
IsWrittenAs Acts text program options run lines out = out ≡ acts_text run.report.acts.items lines
IsWrittenAs Messages text program options run lines out =
    out ≡ messages_text (turns_of_nodes run.report) (map (λ turn. turn.node) (turns_in program options run.events.items)) lines
IsWrittenAs Events text program options run lines out = out ≡ events_text (map (λ turn. turn.event) (turns_in program options run.events.items))
IsWrittenAs Json text program options run lines out =
    (times : List (List ℕ)) × KeepsTime options.nodes.count run.report.acts.items times × (out ≡ json_of_acts (labels_in text.core program) run.report.acts.items lines times)
IsWrittenAs Rapid text program options run lines out =
    out ≡ rapid_text program.locks options.nodes.count run.report.acts.items lines
IsWrittenAs (States part) text program options run lines out = ⊥
IsWrittenAs (Bytes part) text program options run lines out = ⊥

-- a trace of a run of the program that this text is of, in a form with these lines of its acts
abbrev pub IsFormShown : Form → ReadText → Program → RunOptions → Run → List ℕ → Type 0
IsFormShown form text program options run out =
    (lines : List ℕ) × AreLinesIn text program options.nodes.count run.report.acts.items lines
    × IsWrittenAs form text program options run lines out

-- The turns that some events make, with the bytes that the nodes of the report took and sent in them; those of a part. Each is the next one of
-- its node's log.
abbrev pub IsBytes : Part → Report → List Turned → List ℕ → Type 0
IsBytes part report turned out =
    out ≡ bytes_text part.from part.to (map (λ turn. turn.event) turned) (turns_told (turns_of_nodes report) (map (λ turn. turn.node) turned))

-- the same in any form: with the states of the nodes, or with the bytes of their messages, it is of turns
abbrev pub IsTraceShown : Form → ReadText → Program → RunOptions → Run → List ℕ → Type 0
IsTraceShown (States part) text program options run out = IsStated InWords part text program options run out
IsTraceShown (Bytes part) text program options run out = IsBytes part run.report (turns_in program options run.events.items) out
IsTraceShown form text program options run out = IsFormShown form text program options run out

-- why there is none: too many turns are to be shown
abbrev pub IsTraceFault : Form → ReadText → Program → RunOptions → Run → Fault → Type 0
IsTraceFault form text program options run TooManyTurns = IsFormTooLong form text program options run
IsTraceFault form text program options run NoMemory = Unit {0}
IsTraceFault form text program options run _ = ⊥

-- what is shown of a run of that program
abbrev pub IsShown : Shape → RunChoice → ReadText → Program → Run → List ℕ → Type 0
IsShown shapes.Report choice text program run out = out ≡ run_text run.report.acts.items run.report.ends.items run.report.races.items run.report.first_race
IsShown (Trace form) choice text program run out = IsTraceShown form text program choice.options run out
IsShown Explain choice text program run out = IsExplained text program choice.options run.report.acts.items run.report.first_race out
IsShown Stats choice text program run out = out ≡ stats_text (length run.events.items) (turns_of_nodes run.report)
IsShown (Chart charting) choice text program run out = IsCharted charting choice text program run out
IsShown (Step part) choice text program run out = IsStepped (name_of choice.options.file.now) part text program choice.options run out
IsShown (Why asking) choice text program run out =
    AnswersRun text program choice.options.nodes.count choice.options.size run.report.acts.items (asked_of asking) out

-- why a run that was made is not shown so: a chart of it would be too long, there are too many turns, or there is no act that is asked of
abbrev pub IsShowFault : Shape → RunChoice → ReadText → Program → Run → Fault → Type 0
IsShowFault shape choice text program run NoMemory = Unit {0}
IsShowFault (Chart charting) choice text program run TooLong = IsTooLong charting choice.options text program run
IsShowFault (Trace form) choice text program run TooManyTurns = IsFormTooLong form text program choice.options run
IsShowFault (Step part) choice text program run TooManyTurns = HasTooManyTurns part text program choice.options run
IsShowFault (Why asking) choice text program run (NoAct position acts) = IsUntold asking (length run.report.acts.items) (NoAct position acts)
IsShowFault shape choice text program run fault = ⊥

-- What is kept of a run that is shown so. A report, one with reasons, and reasons of acts say nothing of turns; states are made again of the
-- events; and counts say nothing of the events or of where the acts come from.
abbrev pub keep_for : Shape → Keep
keep_for shapes.Report = Newest
keep_for (Trace (States part)) = Newest
keep_for (Trace form) = All
keep_for Explain = Newest
keep_for Stats = Turns
keep_for (Chart charting) = All
keep_for (Step part) = Newest
keep_for (Why asking) = Newest

-- a run of the program of which all is kept, where what is shown so tells of it
abbrev pub IsRunFor : Shape → Program → RunOptions → Run → Type 0
IsRunFor shape program options run = (keep : Keep) × (keep_for shape ≡ All → keep ≡ All) × IsRunWith program options keep run

-- The status behind what is shown: that of the run. A chart and reasons say nothing for or against a run, and their status is 0.
abbrev pub shown_status : Shape → Option ℕ → List End → ℕ
shown_status (Chart charting) first_race ends = 0
shown_status (Why asking) first_race ends = 0
shown_status shape first_race ends = run_status_of first_race ends
