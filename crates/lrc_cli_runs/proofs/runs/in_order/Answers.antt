use Rattle.std.proofs.Common.{ℕ, subst}
use Rattle.lrc_protocol.specs.Node.{OptionsRecord}
use Rattle.lrc_world.specs.Runs.{IsRunIn, IsTurnFault, WearsOutIn}
use Rattle.lrc_node.specs.Options.{options_of as options_in}
use Rattle.lrc_cli_runs.proofs.runs.in_order.Goals as goal

pub returns-in-Ok-clause-run : goal.returns-in-Ok-clause-run
returns-in-Ok-clause-run c =
    let program = c.args.program.now in
    let run = c.in-Ok.run' in
    subst (λ (o : OptionsRecord). IsRunIn c.args.order program c.args.options.now.nodes.count o c.args.keep run) c.setting_of.ensures.options
    (subst (λ (n : ℕ). IsRunIn c.args.order program n (options_in c.setting_of.result) c.args.keep run) c.setting_of.ensures.nodes
    c.in-Ok.ensures.run)

pub returns-in-Err-Worn-clause-err : goal.returns-in-Err-Worn-clause-err
returns-in-Err-Worn-clause-err c =
    let program = c.args.program.now in
    subst (λ (o : OptionsRecord). WearsOutIn c.args.order program c.args.options.now.nodes.count o) c.setting_of.ensures.options
    (subst (λ (n : ℕ). WearsOutIn c.args.order program n (options_in c.setting_of.result)) c.setting_of.ensures.nodes
    (subst (IsTurnFault program c.setting_of.result c.args.order) c.in-Err-Worn.field-0-is c.in-Err-Worn.ensures.fault))
