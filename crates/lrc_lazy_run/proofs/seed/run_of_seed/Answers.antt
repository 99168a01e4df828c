use Rattle.std.proofs.Common.{subst}
use Rattle.std.specs.Prelude.{IfErr, IfOk}
use Rattle.lrc_world.specs.declared.keep.Keep.TheVariants.{Newest}
use Rattle.lrc_world.specs.declared.run.Order.TheVariants.{Random}
use Rattle.lrc_world.specs.Random.{WanderingWearsOut}
use Rattle.lrc_world.specs.Report.{IsWornFault}
use Rattle.lrc_world.specs.Runs.{IsRunIn}
use Rattle.lrc_node.specs.Options.{options_of}
use Rattle.lrc_lazy_run.proofs.seed.run_of_seed.Goals as goal

pub returns-clause-run : goal.returns-clause-run
returns-clause-run c =
    let program = c.args.program.now in
    let s = c.setting_of-setting in
    subst (λ o. IfOk c.run_in.result (IsRunIn (Random c.args.seed) program c.args.nodes.count o Newest)) s.ensures.options
    (subst (λ n. IfOk c.run_in.result (IsRunIn (Random c.args.seed) program n (options_of s.result) Newest)) s.ensures.nodes c.run_in.ensures.run)

pub returns-clause-fault : goal.returns-clause-fault
returns-clause-fault c =
    let program = c.args.program.now in
    let s = c.setting_of-setting in
    subst (λ o. IfErr c.run_in.result (IsWornFault (WanderingWearsOut program c.args.nodes.count o c.args.seed))) s.ensures.options
    (subst (λ n. IfErr c.run_in.result (IsWornFault (WanderingWearsOut program n (options_of s.result) c.args.seed))) s.ensures.nodes c.run_in.ensures.fault)
