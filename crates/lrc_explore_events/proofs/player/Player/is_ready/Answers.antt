use Rattle.std.proofs.Common.{◌≡◌, ◌∙◌, ◌<◌, ◌≤◌, arith, get_or, length, refl, rules}
use Rattle.std.proofs.lemmas.Bool.{le-ltb}
use Rattle.std.proofs.lemmas.Option.{slice_get_read}
use Rattle.lrc_explore_events.proofs.Played.{ready_found, ready_nowhere}
use Rattle.lrc_explore_events.proofs.player.Player.is_ready.Goals as goal

pub returns-then-node-len : goal.returns-then-node-len
returns-then-node-len c = λ program nodes world is.
    let items = c.args.self.now.replay.nodes.items in
    let found = c.index.result.now in
    let inside : c.args.node < length items = search rules in
    let at : found ≡ get_or items c.args.node found = search rules in
    c.ready.ensures
    ∙ ready_found items world is.replay.nodes c.args.node found (slice_get_read items (length items) c.args.node found refl inside at)

pub returns-else-node-len : goal.returns-else-node-len
returns-else-node-len c = λ program nodes world is.
    let items = c.args.self.now.replay.nodes.items in
    let past : length items ≤ c.args.node = omega arith in
    le-ltb c.args.node c.len.result (omega arith) ∙ ready_nowhere items world is.replay.nodes c.args.node past
