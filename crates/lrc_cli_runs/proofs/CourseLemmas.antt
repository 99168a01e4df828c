-- What is known of a run, and why there is no chart of it.
use Rattle.std.proofs.Common.{◌≡◌, ℕ, List, Option, map, subst}
use Rattle.lrc_clock.specs.Keeping.{KeepsTime}
use Rattle.lrc_judge.specs.FirstPairs.{AreFirstPairs}
use Rattle.lrc_judge.specs.declared.lanes.Pair.{Pair}
use Rattle.lrc_labels.specs.Reading.{Label}
use Rattle.lrc_program.specs.declared.Program.{Program}
use Rattle.lrc_chart_build.specs.Course.{CourseRecord}
use Rattle.lrc_run.specs.Run.{turns_of_nodes}
use Rattle.lrc_source.specs.Telling.{ReadText}
use Rattle.lrc_world.specs.declared.run.Run.{Run}
use Rattle.lrc_trace.specs.declared.act.Act.{Act}
use Rattle.lrc_turns_text.specs.Turns.{Made, turns_told}
use Rattle.lrc_cli_args.specs.declared.choice.Charting.{Charting}
use Rattle.lrc_cli_args.specs.declared.choice.RunChoice.{RunChoice}
use Rattle.lrc_cli_args.specs.declared.choice.RunOptions.{RunOptions}
use Rattle.lrc_cli_args.specs.declared.choice.Shape.TheVariants.{Chart}
use Rattle.lrc_cli_runs.specs.Charted.{AreInvalidIn, AreWaitsIn, IsChartFault, IsCourse}
use Rattle.lrc_cli_answer.specs.Labels.{labels_in}
use Rattle.lrc_cli_runs.specs.Lines.{AreLinesIn}
use Rattle.lrc_cli_runs.specs.Runs.{turns_in}
use Rattle.lrc_cli_runs.specs.Shown.{IsShowFault}
use Rattle.lrc_cli_answer.specs.declared.fault.Fault.{Fault}
use Rattle.lrc_cli_answer.specs.declared.fault.Fault.TheVariants.{LongActs, NoAct, Text, Names, Events, Acts, Worn, TooManyStates, NoOutcome, TooManyTurns, TooLong, Mismatch, NoMemory}

-- what was found of a run's acts is known of the run
pub course_of_run : (text : ReadText) (program : Program) (options : RunOptions) (run : Run)
    (turns : List Made) (invalid : List (List ℕ)) (acts : List Act) (lines : List ℕ) (times : List (List ℕ)) (pairs : List Pair) (labels : List Label) (waits : List (Option ℕ))
    → turns ≡ turns_told (turns_of_nodes run.report) (map (λ turn. turn.node) (turns_in program options run.events.items))
    → AreInvalidIn program options run.events.items invalid → acts ≡ run.report.acts.items → AreLinesIn text program options.nodes.count acts lines → KeepsTime options.nodes.count acts times → AreFirstPairs acts pairs
    → labels ≡ labels_in text.core program → AreWaitsIn text program options acts waits
    → IsCourse text program options run (record {
      turns = turns;
      invalid = invalid;
      known = record { acts = acts; lines = lines; times = times; pairs = pairs; labels = labels };
      waits = waits;
    })
course_of_run text program options run turns invalid acts lines times pairs labels waits made broken same lined timed paired named waited = record {
  turns = made;
  invalid = broken;
  acts = same;
  lines = subst (λ (found : List Act). AreLinesIn text program options.nodes.count found lines) same lined;
  times = subst (λ (found : List Act). KeepsTime options.nodes.count found times) same timed;
  pairs = subst (λ (found : List Act). AreFirstPairs found pairs) same paired;
  labels = named;
  waits = subst (λ (found : List Act). AreWaitsIn text program options found waits) same waited;
}

-- why there is no chart of what is known of a run is why the run is not shown
pub chart_unshown : (charting : Charting) (choice : RunChoice) (text : ReadText) (program : Program) (run : Run)
    (course : CourseRecord) (fault : Fault) → IsCourse text program choice.options run course → IsChartFault charting course fault
    → IsShowFault (Chart charting) choice text program run fault
chart_unshown charting choice text program run course TooLong known long = (course, known, long)
chart_unshown charting choice text program run course NoMemory known h = tt
chart_unshown charting choice text program run course (Text line kind) known h = h
chart_unshown charting choice text program run course (Names line kind) known h = h
chart_unshown charting choice text program run course (Events line) known h = h
chart_unshown charting choice text program run course (Acts line) known h = h
chart_unshown charting choice text program run course Worn known h = h
chart_unshown charting choice text program run course (TooManyStates most) known h = h
chart_unshown charting choice text program run course (NoOutcome number) known h = h
chart_unshown charting choice text program run course TooManyTurns known h = h
chart_unshown charting choice text program run course Mismatch known h = h
chart_unshown charting choice text program run course LongActs known h = h
chart_unshown charting choice text program run course (NoAct position acts) known h = h
