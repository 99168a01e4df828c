use Rattle.std.proofs.Common.{ℕ, subst, sym}
use Rattle.lrc_protocol.specs.Node.{OptionsRecord}
use Rattle.lrc_run.specs.Halts.{IsRunFault, fault_of}
use Rattle.lrc_world.specs.declared.keep.Keep.TheVariants.{Turns}
use Rattle.lrc_run.specs.Run.{IsThreadedRun}
use Rattle.lrc_run.proofs.Halting.{of_halt}
use Rattle.lrc_node.specs.Options.{options_of}
use Rattle.lrc_run.proofs.runs.run_gated.Goals as goal

pub returns-in-Ok-clause-run : goal.returns-in-Ok-clause-run
returns-in-Ok-clause-run g c =
    let run = c.in-Ok.run' in
    let setting = c.in_ok-setting.setting in
    let program = c.args.program.now in
    let picker = c.args.picker in (
      run.made,
      c.told_of.ensures.report,
      subst (λ wires. IsThreadedRun program c.args.nodes c.args.options.now picker Turns run.made wires) (sym c.told_of.ensures.wires)
          (subst (λ (n : ℕ). IsThreadedRun program n c.args.options.now picker Turns run.made run.wires) c.in_ok-setting.ensures.0
          (subst (λ (o : OptionsRecord). IsThreadedRun program setting.nodes.count o picker Turns run.made run.wires) c.in_ok-setting.ensures.1
          c.in-Ok.ensures.run)),
    )

pub returns-in-Err-clause-fault : goal.returns-in-Err-clause-fault
returns-in-Err-clause-fault g c =
    let setting = c.in_ok-setting.setting in
    let program = c.args.program.now in
    let options = c.args.options.now in
    let picker = c.args.picker in
    let halt = c.in-Err.halt in
    subst (IsRunFault program c.args.nodes options picker) (sym c.from.ensures)
    (subst (λ (n : ℕ). IsRunFault program n options picker (fault_of halt)) c.in_ok-setting.ensures.0
    (subst (λ (o : OptionsRecord). IsRunFault program setting.nodes.count o picker (fault_of halt)) c.in_ok-setting.ensures.1
    (of_halt program setting.nodes.count (options_of setting) picker halt c.in-Err.ensures.halt)))
