use Rattle.std.proofs.Common.{◌∙◌, ◌<◌, All, List, ap, length, subst, sym}
use Rattle.std.proofs.lemmas.Result.{IfOk-weaker}
use Rattle.lrc_trace.specs.declared.act.Act.{Act}
use Rattle.lrc_judge.specs.Order.{IsOrderOf}
use Rattle.lrc_step.specs.declared.shown.Part.{Part}
use Rattle.lrc_step.specs.ReasonLines.{TellsWhys}
use Rattle.lrc_cli_runs.specs.Stated.{acts_shown}
use Rattle.lrc_cli_runs.proofs.RunLemmas.{acts_in_range}
use Rattle.lrc_cli_runs.proofs.stated.reasons_text.Goals as goal

pub reasons_part-requires-clause-order : goal.reasons_part-requires-clause-order
reasons_part-requires-clause-order c =
    subst (λ (acts : List Act). IsOrderOf acts c.args.order.now) (sym c.as_slice-acts.ensures.value) c.requires.order

pub reasons_part-requires-clause-nodes : goal.reasons_part-requires-clause-nodes
reasons_part-requires-clause-nodes c =
    subst (λ (acts : List Act). All (λ act. act.node < c.args.options.now.nodes.count) acts) (sym c.as_slice-acts.ensures.value)
    (acts_in_range c.args.source.now.program c.args.options.now c.requires.ran.0 c.args.run.now c.requires.ran.1)

pub returns : goal.returns
returns c =
    let text = c.args.source.now.text in
    let program = c.args.source.now.program in
    let nodes = c.args.options.now.nodes.count in
    let size = c.args.options.now.size in
    let acts = c.args.run.now.report.acts.items in
    IfOk-weaker c.reasons_part.result _ _
    (λ told tells.
    subst (λ (shown : Part). TellsWhys text program nodes size acts shown told.items)
    (c.acts_shown-shown.ensures.shown ∙ ap (acts_shown c.args.part) (ap length c.as_slice-acts.ensures.value))
    (subst (λ (made : List Act). TellsWhys text program nodes size made c.acts_shown-shown.result told.items) c.as_slice-acts.ensures.value tells))
    c.reasons_part.ensures
