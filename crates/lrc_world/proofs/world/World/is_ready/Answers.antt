use Rattle.std.proofs.Common.{◌≤◌, length, map, arith, rules}
use Rattle.std.proofs.lemmas.Option.{slice_get_past}
use Rattle.lrc_node.specs.Logged.{TracedLog, sound}
use Rattle.lrc_world.specs.World.{cut}
use Rattle.lrc_world.proofs.Cutting.{ready_where, unready_where}
use Rattle.lrc_world.proofs.Kept.{all_logged}
use Rattle.lrc_world.proofs.Lists.{same_length}
use Rattle.lrc_world.proofs.NodeTurns.{stands_at}
use Rattle.lrc_world.proofs.world.World.is_ready.Goals as goal

pub returns-in-Some : goal.returns-in-Some
returns-in-Some c = λ starts run shows.
    let s = stands_at c.args.self.now.nodes.items (map (cut starts.keep) run.nodes) c.args.node c.in-Some.logged.now
    (all_logged starts c.args.self.now.nodes.items run.nodes shows.nodes) (search rules) (search rules) in
    ready_where starts.keep run.nodes c.args.node s.0 c.ready.result s.1 (c.ready.ensures.sound s.0 s.2)

pub returns-in-None : goal.returns-in-None
returns-in-None c = λ starts run shows.
    let past : length c.args.self.now.nodes.items ≤ c.args.node = search rules in
    let same = same_length (λ (t : TracedLog). t.logged) sound c.args.self.now.nodes.items (map (cut starts.keep) run.nodes)
    (all_logged starts c.args.self.now.nodes.items run.nodes shows.nodes) in
    unready_where starts.keep run.nodes c.args.node (slice_get_past (map (cut starts.keep) run.nodes) c.args.node (omega (arith, past, same)))
