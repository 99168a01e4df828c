-- What is printed of the acts of every run is read as these acts.
use Rattle.std.proofs.Common.{◌≡◌, ◌<◌, ◌≤◌, ℕ, List, Option, Some, None, All, sym, subst, arith}
use Rattle.std.specs.Prelude.{IfSome}
use Rattle.std.proofs.lemmas.List.Elements.{All-weaker}
use Rattle.lrc_program.specs.declared.Program.{Program}
use Rattle.lrc_lang.specs.Faults.{IsText}
use Rattle.lrc_program.specs.Tree.{program_of}
use Rattle.lrc_trace.specs.declared.act.Act.{Act}
use Rattle.lrc_trace.specs.Reading.{ReadsLazily}
use Rattle.lrc_exec.specs.Follows.{FollowsText}
use Rattle.lrc_protocol.specs.declared.event.Event.{Event}
use Rattle.lrc_protocol.specs.Node.{OptionsRecord}
use Rattle.lrc_protocol.specs.Run.{World, run_of}
use Rattle.lrc_protocol.proofs.Texts.{text}
use Rattle.lrc_reading_laws.proofs.Whole.{reads}
use Rattle.lrc_lines.specs.Walks.{act_lines}
use Rattle.lrc_text.specs.Lines.{lines_of}
use Rattle.lrc_acts.specs.ActsText.{IsAmong, SayActs}
use Rattle.lrc_acts.specs.Printed.{IsPrinted, IsRanged, numbers_from}
use Rattle.lrc_acts.proofs.PrintLemmas as print
use Rattle.lrc_acts_text_laws.specs.PrintedRun.{IsPrintedRun}
use Rattle.lrc_acts_text_laws.proofs.Literals.{text_values}
use Rattle.lrc_acts_text_laws.proofs.Ranged.{all_ranged}
use Rattle.lrc_acts_text_laws.proofs.PlacesFit.{act_lines_fit, places_fit}
use Rattle.lrc_acts_text_laws.proofs.Reading.{acts_printed, among}

pub text_ranged : (text : List ℕ) (program : Program) (nodes : ℕ) (acts : List Act) → IsText text (program_of program) → nodes ≤ 16
    → FollowsText program nodes acts → ReadsLazily acts → All IsRanged acts
text_ranged text program nodes acts is few follows lazy =
    all_ranged program nodes acts few (text_values text (program_of program) is) follows lazy

run_ranged : (source : List ℕ) (program : Program) (nodes : ℕ) (options : OptionsRecord) (events : List Event) (world : World)
    → IsText source (program_of program) → nodes ≤ 16 → run_of program nodes options events ≡ Some world → All IsRanged world.acts
run_ranged source program nodes options events world is few e =
    text_ranged source program nodes world.acts is few (text program nodes options events world e)
    (reads program nodes options world (record { events = events; runs = e }))

is_among : (given : Option ℕ) (nodes node : ℕ) → IfSome given (λ most. nodes ≤ most) → node < nodes → IsAmong given node
is_among None nodes node room lt = tt
is_among (Some most) nodes node room lt = omega (arith, lt, room)

module _ (nodes : ℕ) (acts : List Act) (printed : List ℕ) (is : IsPrintedRun nodes acts printed) where
  pub acts_ranged : All IsRanged acts
  acts_ranged =
      subst (All IsRanged) (sym is.are_acts) (run_ranged is.text is.program nodes is.options is.events is.world is.is_text is.few is.runs)

  are_printed : IsPrinted acts printed
  are_printed =
      subst (IsPrinted acts) (sym is.is_printed)
      (acts_printed acts (act_lines is.program nodes is.places acts) acts_ranged
      (act_lines_fit is.program nodes is.places (places_fit is.text (program_of is.program) is.places is.is_text.fits is.are_places) acts))

  below : All (λ act. act.node < nodes) acts
  below =
      subst (All (λ (act : Act). act.node < nodes)) (sym is.are_acts)
      (text is.program nodes is.options is.events is.world is.runs).in_range

  pub acts_said : (given : Option ℕ) → IfSome given (λ most. nodes ≤ most) → SayActs given 1 (lines_of printed) acts (numbers_from 1 acts)
  acts_said given room =
      among (print.printed_from 1 are_printed)
      (All-weaker (λ (act : Act). act.node < nodes) (λ (act : Act). IsAmong given act.node)
      (λ act lt. is_among given nodes act.node room lt) acts below)
