use Rattle.std.proofs.Common.{◌≡◌, ◌∙◌, ℕ, IfOk, List, Result, Some, map, subst, sym}
use Rattle.std.specs.Prelude.{Vec}
use Rattle.std.specs.declared.alloc.Global.{Global}
use Rattle.lrc_program.specs.declared.Program.{Program}
use Rattle.lrc_chart_invalid.specs.Invalidated.{invalidated_at}
use Rattle.lrc_chart_invalid.proofs.Finding.{pages_in}
use Rattle.lrc_protocol.specs.Node.{OptionsRecord}
use Rattle.lrc_protocol.specs.Run.{World, run_of}
use Rattle.lrc_protocol.specs.declared.event.Event.{Event}
use Rattle.lrc_replay.specs.Turns.{turns_of}
use Rattle.lrc_cli_args.specs.declared.choice.RunOptions.{RunOptions}
use Rattle.lrc_world.specs.declared.keep.Keep.TheVariants.{All as Whole}
use Rattle.lrc_world.specs.declared.run.Run.{Run}
use Rattle.lrc_cli_runs.specs.Charted.{AreInvalidIn}
use Rattle.lrc_cli_runs.specs.Runs.{IsRunWith, options_of}
use Rattle.lrc_cli_runs.proofs.charted.pages_invalid.Goals as goal

-- what is found of a run of these events is found of the run
of_run : {E : Type 0} (r : Result (Vec (Vec ℕ Global) Global) E) (program code : Program) (options : RunOptions) (run : Run) (made_by : OptionsRecord)
    (events : List Event) → IsRunWith program options Whole run → code ≡ program → made_by ≡ options_of options → events ≡ run.events.items
    → ((end : World) → run_of code options.nodes.count made_by events ≡ Some end
    → IfOk r (λ found. pages_in found.items ≡ map invalidated_at (turns_of code options.nodes.count made_by events)))
    → IfOk r (λ found. AreInvalidIn program options run.events.items (pages_in found.items))
of_run r program code options run made_by events ran by_code by_options by_events found =
    let nodes = options.nodes.count in
    let Makes : Program → OptionsRecord → List Event → Type 0 = λ p o es. run_of p nodes o es ≡ Some ran.made in
    let Finds : Program → OptionsRecord → List Event → Type 0 = λ p o es.
    IfOk r (λ pages. pages_in pages.items ≡ map invalidated_at (turns_of p nodes o es)) in
    let makes : Makes code made_by events =
    subst (λ (p : Program). Makes p made_by events) (sym by_code)
    (subst (λ (o : OptionsRecord). Makes program o events) (sym by_options)
    (subst (λ (es : List Event). Makes program (options_of options) es) (sym by_events) ran.makes)) in
    subst (λ (es : List Event). Finds program (options_of options) es) by_events
    (subst (λ (o : OptionsRecord). Finds program o events) by_options
    (subst (λ (p : Program). Finds p made_by events) by_code (found ran.made makes)))

pub returns : goal.returns
returns c =
    of_run c.invalidated.result c.args.source.now.program c.code.result.now c.args.options.now c.args.run.now c.options_of.result c.deref.result.now
    c.requires c.code.ensures (c.options_of.ensures ∙ c.setting_of-setting.ensures.options) c.deref.ensures.value c.invalidated.ensures
