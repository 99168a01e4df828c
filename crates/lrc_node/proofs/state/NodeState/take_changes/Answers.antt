use Rattle.std.proofs.Common.{sym, subst}
use Rattle.lrc_envelope.specs.Records.{ChangesReplyRecord}
use Rattle.lrc_memory.specs.Turns.{AreAwaited}
use Rattle.lrc_protocol.specs.Node.{Node}
use Rattle.lrc_node.proofs.state.NodeState.take_changes.Goals as goal

pub attach-requires : goal.attach-requires
attach-requires c =
    let here = subst (λ (n : Node). AreAwaited n.options.size n.memory.store c.args.from c.args.reply.now.page
    c.args.reply.now.parts) (sym c.self.view_is) c.requires.awaited in
    let sized = subst (λ size. AreAwaited size c.self.inside.memory.memory.store c.args.from c.args.reply.now.page
    c.args.reply.now.parts) (sym c.self.invariant.sized) here in
    record {
      awaited = subst (λ (m : ChangesReplyRecord). AreAwaited c.self.inside.memory.size c.self.inside.memory.memory.store
          c.args.from m.page m.parts) (sym c.reply.view_is) sized;
    }
