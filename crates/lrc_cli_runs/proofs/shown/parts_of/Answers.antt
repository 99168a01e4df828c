use Rattle.std.proofs.Common.{◌<◌, All, IfErr, List, ap, subst, sym}
use Rattle.std.proofs.lemmas.Result.{IfErr-weaker}
use Rattle.lrc_trace.specs.declared.act.Act.{Act}
use Rattle.lrc_cli_args.specs.declared.choice.Shape.{Shape}
use Rattle.lrc_cli_runs.specs.Shown.{IsRunFor, IsShowFault, keep_for}
use Rattle.lrc_cli_runs.proofs.RunLemmas.{acts_of_few, whole_run}
use Rattle.lrc_cli_runs.proofs.StatedLemmas.{step_unshown, trace_unshown}
use Rattle.lrc_cli_runs.proofs.shown.parts_of.Goals as goal

pub traced-requires : goal.traced-requires
traced-requires c =
    subst (λ (shape : Shape). IsRunFor shape c.args.source.now.program c.args.choice.now.options c.args.run.now) c.in-Trace.is c.requires.ran

pub charted-requires : goal.charted-requires
charted-requires c =
    whole_run c.args.shape c.args.source.now.program c.args.choice.now.options c.args.run.now c.requires.ran (ap keep_for c.in-Chart.is)

pub explained_alone-requires : goal.explained_alone-requires
explained_alone-requires c =
    subst (λ (acts : List Act). All (λ act. act.node < 16) acts) (sym c.as_slice-acts.ensures.value)
    (acts_of_few c.args.source.now.program c.args.choice.now.options c.requires.ran.0 c.args.run.now c.requires.ran.2)

pub reasons_of_run-requires : goal.reasons_of_run-requires
reasons_of_run-requires c =
    subst (λ (acts : List Act). All (λ act. act.node < 16) acts) (sym c.as_slice-acts.ensures.value)
    (acts_of_few c.args.source.now.program c.args.choice.now.options c.requires.ran.0 c.args.run.now c.requires.ran.2)

pub stepped-requires : goal.stepped-requires
stepped-requires c = record { ran = (c.requires.ran.0, c.requires.ran.2) }

pub returns-in-Trace-clause-err : goal.returns-in-Trace-clause-err
returns-in-Trace-clause-err c =
    subst (λ (shape : Shape). IfErr c.traced.result (IsShowFault shape c.args.choice.now c.args.source.now.text c.args.source.now.program c.args.run.now)) (sym c.in-Trace.is)
    (IfErr-weaker c.traced.result _ _ (trace_unshown c.in-Trace.form c.args.choice.now c.args.source.now.text c.args.source.now.program c.args.run.now) c.traced.ensures.err)

pub returns-in-Step-clause-err : goal.returns-in-Step-clause-err
returns-in-Step-clause-err c =
    subst (λ (shape : Shape). IfErr c.stepped.result (IsShowFault shape c.args.choice.now c.args.source.now.text c.args.source.now.program c.args.run.now)) (sym c.in-Step.is)
    (IfErr-weaker c.stepped.result _ _ (step_unshown c.in-Step.part c.args.choice.now c.args.source.now.text c.args.source.now.program c.args.run.now) c.stepped.ensures.err)
