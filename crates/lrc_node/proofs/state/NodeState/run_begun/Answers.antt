use Rattle.std.proofs.Common.{ap}
use Rattle.std.proofs.lemmas.Result.{IfErr-weaker}
use Rattle.lrc_protocol.specs.Turn.{turn_or, worn}
use Rattle.lrc_node.specs.Effects.{effect_asked, turn_asked, RefusesRun}
use Rattle.lrc_node.specs.State.{seen_effect}
use Rattle.lrc_node.proofs.Effects.{refuses_begun, refuses_sent}
use Rattle.lrc_node.proofs.Outcomes.{fault_up}
use Rattle.lrc_node.proofs.state.NodeState.run_begun.Goals as goal

pub returns-in_err-effect-clause-refused : goal.returns-in_err-effect-clause-refused
returns-in_err-effect-clause-refused c =
    fault_up c.from_residual.result c.in_err-effect.field-0.0 (RefusesRun (turn_asked c.args.self.now c.args.ask)) c.from_residual.ensures.1
    (refuses_begun (effect_asked c.args.self.now c.args.ask) c.in_err-effect.field-0.0 c.in_err-effect.ensures.refused)

pub returns-clause-done : goal.returns-clause-done
returns-clause-done c = rw (ap (turn_or worn) c.in_ok-effect.ensures.effect) c.send.ensures.sent

pub returns-clause-refused : goal.returns-clause-refused
returns-clause-refused c =
    let e = ap (turn_or worn) c.in_ok-effect.ensures.effect in
    IfErr-weaker c.send.result _ _ (λ fault. refuses_sent (turn_asked c.args.self.now c.args.ask) (seen_effect c.in_ok-effect.effect c.begin.new.self) fault e)
    c.send.ensures.refused
