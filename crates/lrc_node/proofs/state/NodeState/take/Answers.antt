use Rattle.std.proofs.Common.{◌≡◌, true, false, IfErr, rules, sym, ap, ◌∙◌, subst, IfOk}
use Rattle.lrc_envelope.specs.Envelope.{EnvelopeRecord}
use Rattle.lrc_protocol.specs.Node.{Node}
use Rattle.lrc_protocol.specs.Turn.{Outcome, unexpected, take_turn, taking, turn_or, done}
use Rattle.lrc_protocol.specs.Follows.{is_expected}
use Rattle.lrc_protocol.proofs.Expecting.{taken-anew}
use Rattle.lrc_node.specs.Taken.{RefusesTake, unawaited}
use Rattle.lrc_node.specs.declared.fault.NodeFault.TheVariants.{Unexpected}
use Rattle.lrc_node.specs.Taking.{effect_of}
use Rattle.lrc_node.proofs.Takes.{unaddressed, addressed, awaited, unawaited_so, refuses_anew, weaker}
use Rattle.lrc_node.proofs.state.NodeState.take.Goals as goal

pub returns-then-not-is_addressed-clause-refused : goal.returns-then-not-is_addressed-clause-refused
returns-then-not-is_addressed-clause-refused c =
    let e : c.is_addressed.result ≡ false = search rules in
    subst (λ (o : Outcome). RefusesTake o c.args.self.now Unexpected c.args.self.now)
    (sym (unaddressed c.args.self.now c.args.envelope.now (sym c.is_addressed.ensures.addressed ∙ e))) unawaited

pub returns-clause-done : goal.returns-clause-done
returns-clause-done c =
    let node : Node = c.args.self.now in
    let envelope : EnvelopeRecord = c.args.envelope.now in
    let e : c.is_addressed.result ≡ true = search rules in
    let y : c.expects.result ≡ true = search rules in
    let x : is_expected node envelope.from envelope.message ≡ true =
    ap (λ (v : EnvelopeRecord). is_expected node v.from v.message) (sym c.envelope.view_is) ∙ sym c.expects.ensures ∙ y in
    let same : take_turn node envelope ≡ turn_or unexpected (effect_of (taking node envelope) envelope.from envelope.message) =
    addressed node envelope (sym c.is_addressed.ensures.addressed ∙ e) (sym c.is_repeat.ensures ∙ c.if-is_repeat.false) ∙ awaited node envelope x in
    subst (λ (o : Outcome). IfOk c.take_anew.result (λ turn. o ≡ done turn c.take_anew.new.self)) (sym same) c.take_anew.ensures.done

pub returns-clause-unexpected : goal.returns-clause-unexpected
returns-clause-unexpected c u =
    let node : Node = c.args.self.now in
    let envelope : EnvelopeRecord = c.args.envelope.now in
    let e : c.is_addressed.result ≡ true = search rules in
    let y : c.expects.result ≡ true = search rules in
    let x : is_expected node envelope.from envelope.message ≡ true =
    ap (λ (v : EnvelopeRecord). is_expected node v.from v.message) (sym c.envelope.view_is) ∙ sym c.expects.ensures ∙ y in
    absurd (taken-anew node envelope x
    (sym (addressed node envelope (sym c.is_addressed.ensures.addressed ∙ e) (sym c.is_repeat.ensures ∙ c.if-is_repeat.false)) ∙ u))

pub returns-clause-refused : goal.returns-clause-refused
returns-clause-refused c =
    let node : Node = c.args.self.now in
    let envelope : EnvelopeRecord = c.args.envelope.now in
    let e : c.is_addressed.result ≡ true = search rules in
    let y : c.expects.result ≡ true = search rules in
    let x : is_expected node envelope.from envelope.message ≡ true =
    ap (λ (v : EnvelopeRecord). is_expected node v.from v.message) (sym c.envelope.view_is) ∙ sym c.expects.ensures ∙ y in
    let same : take_turn node envelope ≡ turn_or unexpected (effect_of (taking node envelope) envelope.from envelope.message) =
    addressed node envelope (sym c.is_addressed.ensures.addressed ∙ e) (sym c.is_repeat.ensures ∙ c.if-is_repeat.false) ∙ awaited node envelope x in
    subst (λ (o : Outcome). IfErr c.take_anew.result (λ fault. RefusesTake o node fault c.take_anew.new.self)) (sym same)
    (weaker c.take_anew.result _ _ (λ fault h. refuses_anew _ node c.take_anew.new.self fault h) c.take_anew.ensures.refused)

pub returns-then-not-expects-clause-refused : goal.returns-then-not-expects-clause-refused
returns-then-not-expects-clause-refused c =
    let node : Node = c.args.self.now in
    let envelope : EnvelopeRecord = c.args.envelope.now in
    let e : c.is_addressed.result ≡ true = search rules in
    let y : c.expects.result ≡ false = search rules in
    let x : is_expected node envelope.from envelope.message ≡ false =
    ap (λ (v : EnvelopeRecord). is_expected node v.from v.message) (sym c.envelope.view_is) ∙ sym c.expects.ensures ∙ y in
    let same : take_turn node envelope ≡ unexpected =
    addressed node envelope (sym c.is_addressed.ensures.addressed ∙ e) (sym c.is_repeat.ensures ∙ c.if-is_repeat.false) ∙ unawaited_so node envelope x in
    subst (λ (o : Outcome). RefusesTake o node Unexpected node) (sym same) unawaited
