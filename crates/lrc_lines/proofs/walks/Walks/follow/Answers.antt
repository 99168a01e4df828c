-- The act leads the walk of its node, and no other.
use Rattle.std.proofs.Common.{rules, ◌≡◌, ◌∙◌, ◌<◌, ◌≤◌, ap, get_or, length}
use Rattle.std.proofs.Math.Seq.{map-set_same}
use Rattle.std.proofs.lemmas.Result.{on_err_weaker}
use Rattle.lrc_lines.specs.Seen.{walk_of}
use Rattle.lrc_lines.proofs.Following.{on_ok}
use Rattle.lrc_lines.proofs.Several.{followed_own, followed_past}
use Rattle.lrc_lines.proofs.walks.Walks.follow.Goals as goal

pub returns-then-node-len-clause-walks : goal.returns-then-node-len-clause-walks
returns-then-node-len-clause-walks c =
    let items = c.args.self.now.nodes.items in
    let act = c.args.act.now in
    let node : c.from-node.result ≡ act.node = search rules in
    let inside : c.from-node.result < length items = search rules in
    let is : c.index_mut.result.now ≡ get_or items c.from-node.result c.index_mut.result.now = c.index_mut.ensures.value in
    λ program nodes lines before same. on_ok c.follow.result
    (λ led_is. followed_own program nodes lines before act items c.index_mut.result.now c.follow.new.self c.from-node.result node same inside is led_is)
    c.follow.ensures.ok

pub returns-then-node-len-clause-err : goal.returns-then-node-len-clause-err
returns-then-node-len-clause-err c =
    let items = c.args.self.now.nodes.items in
    let is : c.index_mut.result.now ≡ get_or items c.from-node.result c.index_mut.result.now = c.index_mut.ensures.value in
    on_err_weaker c.follow.result
    (λ same. map-set_same walk_of items c.from-node.result c.follow.new.self c.index_mut.result.now (same ∙ ap walk_of is))
    c.follow.ensures.err

pub returns-else-node-len-clause-walks : goal.returns-else-node-len-clause-walks
returns-else-node-len-clause-walks c =
    let items = c.args.self.now.nodes.items in
    let past : length items ≤ c.args.act.now.node = search rules in
    λ program nodes lines before same. followed_past program nodes lines before c.args.act.now items same past
