use Rattle.std.proofs.Common.{◌≡◌, ◌≤◌, length, map, ap, ◌∙◌, rules}
use Rattle.lrc_node.specs.Logged.{TracedLog}
use Rattle.lrc_world.specs.World.{cut}
use Rattle.lrc_world.proofs.Cutting.{any_cut}
use Rattle.lrc_world.proofs.Kept.{all_logged}
use Rattle.lrc_world.proofs.Over.{over_where}
use Rattle.lrc_world.proofs.world.World.is_over.Goals as goal

pub returns-then-is_empty : goal.returns-then-is_empty
returns-then-is_empty c = λ starts run shows.
    let landed : length c.args.self.now.flight.items ≤ 0 = search rules in
    let same : c.deref.result.now ≡ c.args.self.now.nodes.items = search rules in
    over_where starts c.args.self.now run c.is_any_ready.result shows landed
    (c.is_any_ready.ensures (map (cut starts.keep) run.nodes)
    (ap (map (λ (t : TracedLog). t.logged)) same ∙ all_logged starts c.args.self.now.nodes.items run.nodes shows.nodes)
    ∙ any_cut starts.keep run.nodes)
