use Rattle.std.proofs.Common.{◌∙◌, ap, length, refl}
use Rattle.lrc_cli_runs.proofs.LineLemmas.{statements_count}
use Rattle.lrc_cli_runs.proofs.RunLemmas.{statements_of}
use Rattle.lrc_cli_runs.proofs.trace.trace_parts.Goals as goal

pub form_part-requires-clause-each : goal.form_part-requires-clause-each
form_part-requires-clause-each c =
    let run = c.args.run.now in
    let its = statements_of c.args.source.now.program c.args.options.now run run.report.acts.items c.requires.ran refl c.deref.result.now c.deref.ensures.value in
    ap length c.deref-2.ensures.value ∙ c.in_ok-lines.ensures.each ∙ ap length its
    ∙ statements_count c.args.source.now.program c.args.options.now.nodes.count run.report.acts.items
