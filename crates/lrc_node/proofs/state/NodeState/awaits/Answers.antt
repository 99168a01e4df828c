use Rattle.std.proofs.Common.{◌≡◌, ◌∙◌, true, false, rules, sym, ap}
use Rattle.lrc_envelope.specs.Envelope.{EnvelopeRecord}
use Rattle.lrc_protocol.specs.Node.{Node}
use Rattle.lrc_protocol.specs.Follows.{is_expected}
use Rattle.lrc_node.specs.Node.{is_turn}
use Rattle.lrc_node.proofs.Takes.{addressed, is_turn_anew, repeated, unaddressed}
use Rattle.lrc_node.proofs.state.NodeState.awaits.Goals as goal

pub returns-then-not-addressed : goal.returns-then-not-addressed
returns-then-not-addressed c =
    let e : c.is_addressed-addressed.result ≡ false = search rules in
    sym (ap is_turn (unaddressed c.args.self.now c.args.envelope.now (sym c.is_addressed-addressed.ensures.addressed ∙ e)))

pub returns-then-repeat : goal.returns-then-repeat
returns-then-repeat c =
    let e : c.is_addressed-addressed.result ≡ true = search rules in
    sym (ap is_turn (repeated c.args.self.now c.args.envelope.now (sym c.is_addressed-addressed.ensures.addressed ∙ e) (sym c.is_repeat-repeat.ensures ∙ c.if-repeat.true)))

pub returns : goal.returns
returns c =
    let node : Node = c.args.self.now in
    let envelope : EnvelopeRecord = c.args.envelope.now in
    let e : c.is_addressed-addressed.result ≡ true = search rules in
    c.expects.ensures
    ∙ ap (λ (v : EnvelopeRecord). is_expected node v.from v.message) c.envelope.view_is
    ∙ sym (is_turn_anew node envelope)
    ∙ sym (ap is_turn (addressed node envelope (sym c.is_addressed-addressed.ensures.addressed ∙ e) (sym c.is_repeat-repeat.ensures ∙ c.if-repeat.false)))
