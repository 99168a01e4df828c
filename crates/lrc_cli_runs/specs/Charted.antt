-- A run as a picture.
use Rattle.std.specs.Prelude.{◌≡◌, ◌<◌, ◌≤◌, ℕ, Bool, false, true, List, Option, Some, None, codes, if◌then◌else◌, length, map}
use Rattle.lrc_clock.specs.Keeping.{KeepsTime}
use Rattle.lrc_chart_svg.specs.Marks.{all_marks, is_space, named_once, attribute_value}
use Rattle.lrc_chart_svg.specs.Root.{IsRootOf}
use Rattle.lrc_chart_svg.specs.Shown.{picture_marks}
use Rattle.lrc_judge.specs.FirstPairs.{AreFirstPairs}
use Rattle.lrc_program.specs.declared.Program.{Program}
use Rattle.lrc_explain_waits.specs.Circles.{waits_of}
use Rattle.lrc_explain_waits.specs.Stand.{stands_of}
use Rattle.lrc_trace.specs.declared.act.Act.{Act}
use Rattle.lrc_chart_model.specs.declared.picture.Picture.{Picture}
use Rattle.lrc_chart_build.specs.Course.{CourseRecord, rows_shown}
use Rattle.lrc_chart_build.specs.Portrait.{IsPortrait, MOST_SHOWN}
use Rattle.lrc_chart_build.specs.declared.part.Part.{Part}
use Rattle.lrc_chart_invalid.specs.Invalidated.{invalidated_at}
use Rattle.lrc_protocol.specs.declared.event.Event.{Event}
use Rattle.lrc_replay.specs.Turns.{turns_of}
use Rattle.lrc_run.specs.Run.{turns_of_nodes}
use Rattle.lrc_world.specs.declared.run.Run.{Run}
use Rattle.lrc_chart_text.specs.Sketch.{sketch_text}
use Rattle.lrc_source.specs.Telling.{AreLines, ReadText, shown_text}
use Rattle.lrc_svg.specs.Texts.{document_text}
use Rattle.lrc_svg.specs.declared.element.Document.{Document}
use Rattle.lrc_chart_title.specs.Title.{title_text}
use Rattle.lrc_turns_text.specs.Turns.{turns_told}
use Rattle.lrc_cli_args.specs.declared.choice.Charting.{Charting}
use Rattle.lrc_cli_args.specs.declared.choice.RunChoice.{RunChoice}
use Rattle.lrc_cli_args.specs.declared.choice.RunOptions.{RunOptions}
use Rattle.lrc_cli_answer.specs.Labels.{labels_in}
use Rattle.lrc_cli_runs.specs.Lines.{AreLinesIn}
use Rattle.lrc_cli_runs.specs.Runs.{options_of, turns_in}
use Rattle.lrc_cli_answer.specs.declared.fault.Fault.{Fault}
use Rattle.lrc_cli_answer.specs.declared.fault.Fault.TheVariants.{NoMemory, TooLong}

-- for whom each node waits when a run of the program that this text is of has made these acts
abbrev pub AreWaitsIn : ReadText → Program → RunOptions → List Act → List (Option ℕ) → Type 0
AreWaitsIn text program options acts waits = (places : List ℕ) × AreLines text program places
    × (waits ≡ waits_of (stands_of program options.nodes.count places (Some options.steps.count) acts))

-- of each turn of the run of these events the pages whose copies become invalid at it
abbrev pub AreInvalidIn : Program → RunOptions → List Event → List (List ℕ) → Type 0
AreInvalidIn program options events invalid =
    invalid ≡ map invalidated_at (turns_of program options.nodes.count (options_of options) events)

-- What is known of a run of the program that this text is of: the turns that its nodes made, one after another, and the pages that become
-- invalid at each; its acts with their lines and their times, the first pairs of its races, the labels of the text, and for whom its nodes
-- wait when it has ended.
pub record IsCourse (text : ReadText) (program : Program) (options : RunOptions) (run : Run)
    (course : CourseRecord) : Type 0 where
  pub turns : course.turns ≡ turns_told (turns_of_nodes run.report) (map (λ turn. turn.node) (turns_in program options run.events.items))
  pub invalid : AreInvalidIn program options run.events.items course.invalid
  pub acts : course.known.acts ≡ run.report.acts.items
  pub lines : AreLinesIn text program options.nodes.count run.report.acts.items course.known.lines
  pub times : KeepsTime options.nodes.count run.report.acts.items course.known.times
  pub pairs : AreFirstPairs run.report.acts.items course.known.pairs
  pub labels : course.known.labels ≡ labels_in text.core program
  pub waits : AreWaitsIn text program options run.report.acts.items course.waits

-- which part of it a chart shows
abbrev pub part_of : Charting → Part
part_of charting = record { from = charting.from; to = charting.to; hides_quiet = charting.hides_quiet }

-- the text that stands beside it
abbrev pub source_of : Charting → List ℕ → Option (List ℕ)
source_of charting text = if charting.source then Some text else None

-- An SVG document that shows a picture: its elements are those of scalable vector graphics, and show what the picture has, and it is as
-- large as the picture.
pub record IsShownBy (picture : Picture) (document : Document) : Type 0 where
  pub marks : all_marks document.inside.items ≡ picture_marks picture
  pub once : named_once document.attributes.items ≡ true
  pub space : attribute_value is_space document.attributes.items ≡ codes "http://www.w3.org/2000/svg"
  pub root : IsRootOf picture document.attributes.items

-- a picture for a terminal, or as an SVG document
abbrev pub IsDrawn : (terminal : Bool) → Picture → List ℕ → Type 0
IsDrawn true picture out = out ≡ sketch_text picture
IsDrawn false picture out = (document : Document) × IsShownBy picture document × (out ≡ document_text document)

-- a chart of a run of so many nodes, under a title, of a program with this text: it has no more rows than a chart may have
pub record IsChart (charting : Charting) (title : List ℕ) (nodes : ℕ) (course : CourseRecord) (text out : List ℕ) : Type 0 where
  pub few : length (rows_shown course (part_of charting)) ≤ MOST_SHOWN
  pub picture : Picture
  pub portrait : IsPortrait title nodes course (part_of charting) (source_of charting text) picture
  pub drawn : IsDrawn charting.text picture out

-- a chart of a run of the program that this text is of, under the words by which it is had
abbrev pub IsCharted : Charting → RunChoice → ReadText → Program → Run → List ℕ → Type 0
IsCharted charting choice text program run out = (course : CourseRecord) × IsCourse text program choice.options run course
    × IsChart charting (title_text choice charting) choice.options.nodes.count course (shown_text text) out

-- why there is no chart of a run: it would have more rows than a chart may have
abbrev pub IsChartFault : Charting → CourseRecord → Fault → Type 0
IsChartFault charting course TooLong = MOST_SHOWN < length (rows_shown course (part_of charting))
IsChartFault charting course NoMemory = Unit {0}
IsChartFault charting course fault = ⊥

-- a chart of the run of the program that this text is of would have more rows than a chart may have
abbrev pub IsTooLong : Charting → RunOptions → ReadText → Program → Run → Type 0
IsTooLong charting options text program run =
    (course : CourseRecord) × IsCourse text program options run course × IsChartFault charting course TooLong
