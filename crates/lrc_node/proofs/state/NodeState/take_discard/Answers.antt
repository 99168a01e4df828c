use Rattle.std.proofs.Common.{◌≡◌, ◌≤◌, length, sym, ◌∙◌, ap, subst}
use Rattle.lrc_time.specs.Time.{entry}
use Rattle.lrc_protocol.specs.Barriers.{Collection}
use Rattle.lrc_protocol.specs.Node.{discard, Node}
use Rattle.lrc_node.proofs.state.NodeState.take_discard.Goals as goal

pub collect-requires-clause-time : goal.collect-requires-clause-time
collect-requires-clause-time c =
    let waits : c.args.self.now.mail.wait ≡ discard c.in-Discard.collection = sym (ap (λ (n : Node). n.mail.wait) c.self.view_is)
    ∙ sym c.in-Discard.ensures.was in
    ap (λ (x : Collection). length x.time) c.collection.view_is
    ∙ (c.requires.time c.in-Discard.collection waits).0
    ∙ sym (ap (λ (n : Node). n.setting.nodes) c.self.view_is)
    ∙ sym c.self.invariant.last

pub collect-requires-clause-own : goal.collect-requires-clause-own
collect-requires-clause-own c =
    let waits : c.args.self.now.mail.wait ≡ discard c.in-Discard.collection = sym (ap (λ (n : Node). n.mail.wait) c.self.view_is)
    ∙ sym c.in-Discard.ensures.was in
    let own = (c.requires.time c.in-Discard.collection waits).1 in
    let here = subst (λ (n : Node). entry n.memory.store.last n.setting.me ≤ entry c.in-Discard.collection.time n.setting.me) (sym c.self.view_is) own in
    let mine = subst (λ me. entry c.self.inside.memory.memory.store.last me ≤ entry c.in-Discard.collection.time me) (sym c.self.invariant.own_memory) here in
    subst (λ (x : Collection). entry c.self.inside.memory.memory.store.last c.self.inside.memory.me ≤ entry x.time
    c.self.inside.memory.me) (sym c.collection.view_is) mine
