use Rattle.std.proofs.Common.{IfErr, subst, sym}
use Rattle.std.proofs.lemmas.Result.{IfErr-weaker}
use Rattle.lrc_cli_args.specs.declared.choice.Form.{Form}
use Rattle.lrc_cli_runs.specs.Shown.{IsTraceFault}
use Rattle.lrc_cli_runs.proofs.StatedLemmas.{states_untraced}
use Rattle.lrc_cli_runs.proofs.trace.traced.Goals as goal

pub returns-in-States-clause-err : goal.returns-in-States-clause-err
returns-in-States-clause-err c =
    subst (λ (form : Form). IfErr c.stated.result (IsTraceFault form c.args.source.now.text c.args.source.now.program c.args.options.now c.args.run.now)) (sym c.in-States.is)
    (IfErr-weaker c.stated.result _ _ (states_untraced c.in-States.part c.args.source.now.text c.args.source.now.program c.args.options.now c.args.run.now) c.stated.ensures.err)
