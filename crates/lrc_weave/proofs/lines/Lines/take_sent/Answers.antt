use Rattle.std.proofs.Common.{[], ◌∷◌, IfOk, map, refl, rules, subst}
use Rattle.lrc_weave.specs.Matched.{message_of, sent_as}
use Rattle.lrc_weave.specs.Compared.{AreNext}
use Rattle.lrc_weave.proofs.Lining.{sent_next}
use Rattle.lrc_weave.proofs.lines.Lines.take_sent.Goals as goal

pub returns-then-to-len : goal.returns-then-to-len
returns-then-to-len c =
    let message = sent_as c.args.stamp c.args.envelope.now in
    let next = subst
    (λ line. IfOk c.take_put.result (λ is. AreNext (message ∷ []) (map (λ wire. message_of wire.now) line.now)
    (map (λ wire. message_of wire.now) c.take_put.new.line.now) is))
    c.index_mut.ensures.value c.take_put.ensures in
    sent_next (λ line. map (λ wire. message_of wire.now) line.now) message c.from-to.result c.args.self.now.lines.items _
    c.index_mut.result.now c.take_put.new.line _ c.take_put.result (search rules) (search rules) refl next
