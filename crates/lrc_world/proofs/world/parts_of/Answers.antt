use Rattle.std.proofs.Common.{◌∙◌, ◌++◌, [], ◌∷◌, ap, map, sym}
use Rattle.lrc_node.specs.Logged.{TracedLog}
use Rattle.lrc_world.proofs.Lists.{map-both, map-more}
use Rattle.lrc_world.proofs.world.parts_of.Goals as goal

pub loop-node-preserved : goal.loop-node-preserved
loop-node-preserved c = record {
  logs = map-more (λ log. log.items) (λ (node : TracedLog). node.logged.log) c.loop-node.logs.items c.push.new.self.items c.loop-node.yielded _ c.in-Some.node
      c.in_ok-push.ensures.items c.into_parts-log.ensures.log c.loop-node.invariant.logs;
  traces = c.in_ok-push-2.ensures.items ∙ ap (λ xs. xs ++ c.into_parts-log.result.1 ∷ []) c.loop-node.invariant.traces
      ∙ ap (λ x. map (λ (node : TracedLog). node.trace) c.loop-node.yielded ++ x ∷ []) c.into_parts-log.ensures.trace
      ∙ sym (map-both (λ (node : TracedLog). node.trace) c.loop-node.yielded (c.in-Some.node ∷ []));
}
