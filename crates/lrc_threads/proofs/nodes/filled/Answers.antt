use Rattle.std.proofs.Common.{◌≡◌, ◌++◌, [], ◌∷◌, ap, arith, length, rules}
use Rattle.std.proofs.lemmas.List.{length_push}
use Rattle.lrc_node.specs.Options.{options_of}
use Rattle.lrc_protocol.specs.Node.{fresh_node}
use Rattle.lrc_threads.proofs.Joined.{past_more}
use Rattle.lrc_threads.proofs.Threads.{left_unborn}
use Rattle.lrc_threads.proofs.nodes.filled.Goals as goal

pub loop-me-preserved : goal.loop-me-preserved
loop-me-preserved c =
    let setting = c.args.setting.now in
    let before = c.loop-me.pasts.items in
    let past = c.unborn.result in
    let items : c.push_reserved.new.self.items ≡ before ++ c.unborn.result ∷ [] = search rules in
    record {
      count = omega (arith, c.loop-me.invariant.count, ap length items, length_push before c.unborn.result);
      few = omega (arith, c.loop-me-test.true, c.number-nodes.ensures);
      room = omega (arith, c.loop-me.invariant.room, c.push_reserved.ensures.capacity);
      pasts = past_more c.args.program.now setting.nodes.count (options_of setting) before c.push_reserved.new.self.items c.unborn.result c.loop-me.me items
          c.loop-me.invariant.count c.loop-me.invariant.pasts
          (left_unborn (fresh_node c.args.program.now setting.nodes.count (options_of setting) c.loop-me.me) past.log.items past.trace past.is_ready past.stop
          c.unborn.ensures.log c.unborn.ensures.stop);
    }
