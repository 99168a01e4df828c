use Rattle.std.proofs.Common.{ℕ, subst, sym}
use Rattle.lrc_protocol.specs.Node.{OptionsRecord}
use Rattle.lrc_run.specs.Halts.{IsHalt}
use Rattle.lrc_run.specs.Run.{IsThreadedRun}
use Rattle.lrc_node.specs.Options.{options_of as options_in}
use Rattle.lrc_world.specs.declared.run.Run.{Run}
use Rattle.lrc_cli_runs.specs.Runs.{options_of}
use Rattle.lrc_cli_runs.proofs.threads.threaded.Goals as goal

pub returns-in-Ok-clause-run : goal.returns-in-Ok-clause-run
returns-in-Ok-clause-run g c =
    let program = c.args.program.now in
    let run = c.in-Ok.run' in
    let setting = c.setting_of-setting.result in (
      run.wires,
      subst (λ (made : Run). IsThreadedRun program c.args.options.now.nodes.count (options_of c.args.options.now) c.args.order c.args.keep made run.wires)
          (sym c.made.ensures)
          (subst (λ (o : OptionsRecord). IsThreadedRun program c.args.options.now.nodes.count o c.args.order c.args.keep run.made run.wires)
          c.setting_of-setting.ensures.options
          (subst (λ (n : ℕ). IsThreadedRun program n (options_in setting) c.args.order c.args.keep run.made run.wires) c.setting_of-setting.ensures.nodes
          c.in-Ok.ensures.run)),
    )

pub returns-in-Err-clause-err : goal.returns-in-Err-clause-err
returns-in-Err-clause-err g c =
    let program = c.args.program.now in
    let halt = c.in-Err.halt in
    let setting = c.setting_of-setting.result in (
      halt,
      subst (λ (o : OptionsRecord). IsHalt program c.args.options.now.nodes.count o c.args.order halt) c.setting_of-setting.ensures.options
          (subst (λ (n : ℕ). IsHalt program n (options_in setting) c.args.order halt) c.setting_of-setting.ensures.nodes c.in-Err.ensures.halt),
      c.said.ensures,
    )
