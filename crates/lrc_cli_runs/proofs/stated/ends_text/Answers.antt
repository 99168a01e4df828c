use Rattle.std.proofs.Common.{ℕ, List, Vec, Global, subst}
use Rattle.std.proofs.lemmas.Result.{IfOk-weaker}
use Rattle.lrc_trace.specs.declared.act.Act.{Act}
use Rattle.lrc_step.specs.EndLines.{TellsEnds}
use Rattle.lrc_cli_runs.proofs.stated.ends_text.Goals as goal

pub returns : goal.returns
returns c =
    let options = c.args.options.now in
    let told = λ (acts : List Act) (line : Vec ℕ Global).
    TellsEnds c.args.source.now.text c.args.source.now.program options.nodes.count options.steps.count acts c.args.explained.now line.items in
    IfOk-weaker c.explain_part.result (told c.as_slice-acts.result.now) (told c.args.run.now.report.acts.items)
    (λ line tells. subst (λ (acts : List Act). told acts line) c.as_slice-acts.ensures.value tells) c.explain_part.ensures
