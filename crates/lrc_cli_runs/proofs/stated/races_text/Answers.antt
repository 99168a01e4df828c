use Rattle.std.proofs.Common.{◌∙◌, ◌<◌, ℕ, All, List, ap, ap₂, length, subst, sym}
use Rattle.std.proofs.lemmas.Result.{IfOk-weaker}
use Rattle.lrc_program.specs.declared.Program.{Program}
use Rattle.lrc_lines.specs.Walks.{act_lines}
use Rattle.lrc_trace.specs.declared.act.Act.{Act}
use Rattle.lrc_judge.specs.Order.{IsOrderOf}
use Rattle.lrc_step.specs.RaceLines.{TellsRaces}
use Rattle.lrc_step.specs.declared.shown.Part.{Part}
use Rattle.lrc_cli_runs.specs.Lines.{AreLinesIn}
use Rattle.lrc_cli_runs.specs.Stated.{acts_shown}
use Rattle.lrc_cli_runs.proofs.RunLemmas.{acts_in_range}
use Rattle.lrc_cli_runs.proofs.stated.races_text.Goals as goal

pub races_part-requires-clause-order : goal.races_part-requires-clause-order
races_part-requires-clause-order c =
    subst (λ (acts : List Act). IsOrderOf acts c.args.order.now) (sym c.as_slice-acts.ensures.value) c.requires.order

pub races_part-requires-clause-nodes : goal.races_part-requires-clause-nodes
races_part-requires-clause-nodes c =
    subst (λ (acts : List Act). All (λ act. act.node < c.args.options.now.nodes.count) acts) (sym c.as_slice-acts.ensures.value)
    (acts_in_range c.args.source.now.program c.args.options.now c.requires.ran.0 c.args.run.now c.requires.ran.1)

pub returns : goal.returns
returns c =
    let acts = c.args.run.now.report.acts.items in
    let lines = c.in_ok-lines.lines.items in
    IfOk-weaker c.races_part.result _ _
    (λ told tells. (
      lines,
      subst (λ (made : List Act). AreLinesIn c.args.source.now.text c.args.source.now.program c.args.options.now.nodes.count made lines) c.as_slice-acts.ensures.value (
        c.args.source.now.lines,
        c.lines.ensures.text,
        c.in_ok-lines.ensures
            ∙ ap₂ (λ (p : Program) (l : List ℕ). act_lines p c.args.options.now.nodes.count l c.as_slice-acts.result.now) c.code.ensures c.lines.ensures.lines,
      ),
      subst (λ (shown : Part). TellsRaces acts lines shown told.items) (c.acts_shown-shown.ensures.shown ∙ ap (acts_shown c.args.part) (ap length c.as_slice-acts.ensures.value))
          (subst (λ (places : List ℕ). TellsRaces acts places c.acts_shown-shown.result told.items) c.deref.ensures.value
          (subst (λ (made : List Act). TellsRaces made c.deref.result.now c.acts_shown-shown.result told.items) c.as_slice-acts.ensures.value tells)),
    ))
    c.races_part.ensures
