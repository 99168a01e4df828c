use Rattle.std.proofs.Common.{◌≡◌, Option, Some, IfOk, ◌∙◌, ap, sym, subst, rules}
use Rattle.lrc_envelope.specs.Envelope.{EnvelopeRecord}
use Rattle.lrc_protocol.specs.Node.{Effect}
use Rattle.lrc_protocol.specs.Turn.{taking, turn_or, unexpected, done}
use Rattle.lrc_protocol.specs.Follows.{is_expected}
use Rattle.lrc_node.specs.State.{seen_effect}
use Rattle.lrc_node.specs.Taking.{effect_of}
use Rattle.lrc_node.proofs.CanTake.{taking_can}
use Rattle.lrc_node.proofs.state.NodeState.take_anew.Goals as goal

pub take_message-requires-clause-can : goal.take_message-requires-clause-can
take_message-requires-clause-can c =
    let expected = ap (λ (v : EnvelopeRecord). is_expected c.args.self.now v.from v.message) c.envelope.view_is ∙ c.requires.expected in
    taking_can c.args.self.now _ c.envelope.inside.from c.envelope.inside.from c.envelope.inside.number c.envelope.inside.message c.requires.reached expected (search rules)

pub returns-clause-done : goal.returns-clause-done
returns-clause-done c =
    let is : effect_of (taking c.args.self.now c.args.envelope.now) c.args.envelope.now.from c.args.envelope.now.message
    ≡ Some (seen_effect c.in_ok-effect.effect c.take_message.new.self) = search rules in
    subst (λ (o : Option Effect). IfOk c.send.result (λ turn. turn_or unexpected o ≡ done turn c.send.new.self)) (sym is) c.send.ensures.sent
