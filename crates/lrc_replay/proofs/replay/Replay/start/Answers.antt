use Rattle.std.proofs.Common.{◌≡◌, ◌∙◌, ◌++◌, ◌∷◌, [], ap, arith, map, rules, Some}
use Rattle.std.specs.List.{range_with_len}
use Rattle.lrc_node.specs.Node.{TracedNode}
use Rattle.lrc_protocol.specs.Node.{fresh_node}
use Rattle.lrc_replay.proofs.Replayed.{fresh_are, fresh_more}
use Rattle.lrc_replay.proofs.replay.Replay.start.Goals as goal

pub loop-me-preserved : goal.loop-me-preserved
loop-me-preserved c =
    let items : c.push.new.self.items ≡ c.loop-me.made.items ++ c.in-Ok.node ∷ [] = search rules in
    fresh_more (fresh_node c.args.code.now c.args.nodes c.args.options.now) c.loop-me.made.items c.push.new.self.items c.in-Ok.node c.loop-me.me
    c.loop-me.invariant items (ap (λ (t : TracedNode). t.node) c.in-Ok.ensures)

pub returns : goal.returns
returns c =
    let all : c.loop-me.me ≡ c.args.nodes = omega arith in
    let fresh = fresh_node c.args.code.now c.args.nodes c.args.options.now in
    record {
      nodes = c.loop-me.invariant ∙ ap (λ n. map (λ me. Some (fresh me)) (range_with_len 0 n)) all ∙ fresh_are fresh (range_with_len 0 c.args.nodes);
      flight = c.new-2.ensures.items;
    }
