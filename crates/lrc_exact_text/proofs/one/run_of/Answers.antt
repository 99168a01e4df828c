use Rattle.std.proofs.Common.{subst}
use Rattle.lrc_exact_judge.specs.Shape.{shape_of}
use Rattle.lrc_exact_text.specs.Calm.{IsCalmRun}
use Rattle.lrc_exact_text.proofs.WithoutRaces.{calm_fewer, calm_run_is}
use Rattle.lrc_exact_text.proofs.one.run_of.Goals as goal

pub returns-in-Run-clause-run : goal.returns-in-Run-clause-run
returns-in-Run-clause-run c =
    let program = c.args.program.now in
    let calm = subst (IsCalmRun program c.args.layout.nodes c.args.number) c.in-Run.is c.in_ok-acts.ensures in
    calm_run_is program (shape_of c.args.layout) calm.0 c.args.number c.in-Run.acts.items calm.1

pub returns-in-Fewer-clause-run : goal.returns-in-Fewer-clause-run
returns-in-Fewer-clause-run c =
    let program = c.args.program.now in
    let calm = subst (IsCalmRun program c.args.layout.nodes c.args.number) c.in-Fewer.is c.in_ok-acts.ensures in
    calm_fewer program (shape_of c.args.layout) calm.0 c.args.number calm.1
