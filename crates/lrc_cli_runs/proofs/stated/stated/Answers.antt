use Rattle.std.proofs.Common.{◌≡◌, ◌∙◌, List, Some, subst, sym}
use Rattle.lrc_program.specs.declared.Program.{Program}
use Rattle.lrc_protocol.specs.Node.{OptionsRecord}
use Rattle.lrc_protocol.specs.Run.{World, run_of}
use Rattle.lrc_protocol.specs.declared.event.Event.{Event}
use Rattle.lrc_source.specs.Telling.{ReadText}
use Rattle.lrc_states.specs.States.{AreStates, IsUnshown, Told}
use Rattle.lrc_states.specs.declared.fault.StatesFault.TheVariants.{TooLong}
use Rattle.lrc_states.specs.declared.told.Range.{Range}
use Rattle.lrc_text.specs.Parts.{whole_text}
use Rattle.lrc_cli_args.specs.declared.choice.Part.{Part}
use Rattle.lrc_cli_args.specs.declared.choice.RunOptions.{RunOptions}
use Rattle.lrc_world.specs.declared.keep.Keep.{Keep}
use Rattle.lrc_world.specs.declared.run.Run.{Run}
use Rattle.lrc_cli_runs.specs.Runs.{IsRunWith, options_of}
use Rattle.lrc_cli_runs.specs.Stated.{range_of, told_of}
use Rattle.lrc_cli_runs.proofs.stated.stated.Goals as goal

-- what is told of a run that was made, by these options and events, is told of the run
of_run : (P : Told → Range → Type 0) (text : ReadText) (program : Program) (options : RunOptions) (keep : Keep) (run : Run) (part : Part)
    (made_by : OptionsRecord) (events : List Event) (range : Range) → IsRunWith program options keep run
    → made_by ≡ options_of options → events ≡ run.events.items → range ≡ range_of part
    → ((made : World) → run_of program options.nodes.count made_by events ≡ Some made
    → P (record { text = text; program = program; nodes = options.nodes.count; options = made_by; events = events }) range)
    → P (told_of text program options run) (range_of part)
of_run P text program options keep run part made_by events range ran by_options by_events by_range told =
    let nodes = options.nodes.count in
    let of_these = λ (o : OptionsRecord) (es : List Event).
    run_of program nodes o es ≡ Some ran.made in
    let makes : of_these made_by events =
    subst (λ (o : OptionsRecord). of_these o events) (sym by_options) (subst (λ (es : List Event). of_these (options_of options) es) (sym by_events) ran.makes) in
    let seen = λ (o : OptionsRecord) (es : List Event).
    P (record { text = text; program = program; nodes = nodes; options = o; events = es }) (range_of part) in
    subst (λ (es : List Event). seen (options_of options) es) by_events
    (subst (λ (o : OptionsRecord). seen o events) by_options
    (subst (λ (r : Range). P (record { text = text; program = program; nodes = nodes; options = made_by; events = events }) r) by_range (told ran.made makes)))

pub returns-in-Ok-clause-ok : goal.returns-in-Ok-clause-ok
returns-in-Ok-clause-ok c =
    of_run (λ told range. AreStates told range c.args.telling (whole_text c.in-Ok.parts.items)) c.args.source.now.text c.args.source.now.program c.args.options.now c.requires.ran.0
    c.args.run.now c.args.part c.options_of.result c.deref.result.now c.range_of.result c.requires.ran.1
    (c.options_of.ensures ∙ c.setting_of-setting.ensures.options) c.deref.ensures.value c.range_of.ensures c.in-Ok.ensures.states

pub returns-in-Err-TooLong-clause-err : goal.returns-in-Err-TooLong-clause-err
returns-in-Err-TooLong-clause-err c =
    of_run (λ told range. IsUnshown told range TooLong) c.args.source.now.text c.args.source.now.program c.args.options.now c.requires.ran.0
    c.args.run.now c.args.part c.options_of.result c.deref.result.now c.range_of.result c.requires.ran.1
    (c.options_of.ensures ∙ c.setting_of-setting.ensures.options) c.deref.ensures.value c.range_of.ensures
    (λ made makes. rw c.in-Err-TooLong.field-0-is at (c.in-Err-TooLong.ensures.fault made makes))
