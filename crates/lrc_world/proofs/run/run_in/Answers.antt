use Rattle.std.proofs.Common.{◌≡◌, ℕ, IfErr, IfOk, sym, subst, Result}
use Rattle.lrc_program.specs.declared.Program.{Program}
use Rattle.lrc_protocol.specs.Node.{OptionsRecord}
use Rattle.lrc_world.specs.declared.keep.Keep.{Keep}
use Rattle.lrc_world.specs.declared.report.TurnFault.{TurnFault}
use Rattle.lrc_world.specs.declared.run.Order.{Order}
use Rattle.lrc_world.specs.declared.run.Run.{Run}
use Rattle.lrc_world.specs.Report.{IsWornFault}
use Rattle.lrc_world.specs.Runs.{IsRunIn, WearsOutIn}
use Rattle.lrc_world.proofs.run.run_in.Goals as goal

module _ (P : ℕ → OptionsRecord → Order → Type 0) where
  -- the same of equal numbers, options and orders
  moved : {n m : ℕ} {o p : OptionsRecord} {a b : Order} → n ≡ m → o ≡ p → b ≡ a → P n o a → P m p b
  moved {n} {m} {o} {p} {a} {b} counted told is holds =
      subst (P m p) (sym is) (subst (λ o. P m o a) told (subst (λ n. P n o a) counted holds))

module _ (program : Program) (keep : Keep) (result : Result Run TurnFault) where
  abbrev Runs : ℕ → OptionsRecord → Order → Type 0
  Runs n o order = IfOk result (IsRunIn order program n o keep)

  abbrev Fails : ℕ → OptionsRecord → Order → Type 0
  Fails n o order = IfErr result (IsWornFault (WearsOutIn order program n o))

pub returns-in-Events-clause-run : goal.returns-in-Events-clause-run
returns-in-Events-clause-run c =
    moved (Runs c.args.program.now c.args.keep c.by_events.result) c.number-nodes.ensures c.options_of-options.ensures c.in-Events.is c.by_events.ensures.run

pub returns-in-Events-clause-fault : goal.returns-in-Events-clause-fault
returns-in-Events-clause-fault c =
    moved (Fails c.args.program.now c.args.keep c.by_events.result) c.number-nodes.ensures c.options_of-options.ensures c.in-Events.is c.by_events.ensures.fault

pub returns-in-Rounds-clause-run : goal.returns-in-Rounds-clause-run
returns-in-Rounds-clause-run c =
    moved (Runs c.args.program.now c.args.keep c.led.result) c.number-nodes.ensures c.options_of-options.ensures c.in-Rounds.is c.led.ensures.run

pub returns-in-Rounds-clause-fault : goal.returns-in-Rounds-clause-fault
returns-in-Rounds-clause-fault c =
    moved (Fails c.args.program.now c.args.keep c.led.result) c.number-nodes.ensures c.options_of-options.ensures c.in-Rounds.is c.led.ensures.fault

pub returns-in-Random-clause-run : goal.returns-in-Random-clause-run
returns-in-Random-clause-run c =
    moved (Runs c.args.program.now c.args.keep c.led-in-Random.result) c.number-nodes.ensures c.options_of-options.ensures c.in-Random.is c.led-in-Random.ensures.run

pub returns-in-Random-clause-fault : goal.returns-in-Random-clause-fault
returns-in-Random-clause-fault c =
    moved (Fails c.args.program.now c.args.keep c.led-in-Random.result) c.number-nodes.ensures c.options_of-options.ensures c.in-Random.is c.led-in-Random.ensures.fault

pub returns-in-Followed-clause-run : goal.returns-in-Followed-clause-run
returns-in-Followed-clause-run c =
    moved (Runs c.args.program.now c.args.keep c.followed.result) c.number-nodes.ensures c.options_of-options.ensures c.in-Followed.is c.followed.ensures.run

pub returns-in-Followed-clause-fault : goal.returns-in-Followed-clause-fault
returns-in-Followed-clause-fault c =
    moved (Fails c.args.program.now c.args.keep c.followed.result) c.number-nodes.ensures c.options_of-options.ensures c.in-Followed.is c.followed.ensures.fault
