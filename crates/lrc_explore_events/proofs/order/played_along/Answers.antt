use Rattle.std.proofs.Common.{◌∙◌, ap}
use Rattle.lrc_lines.specs.Walks.{act_lines}
use Rattle.lrc_explore_events.proofs.Played.{leads_so, starts_along, starts_behind}
use Rattle.lrc_explore_events.proofs.order.played_along.Goals as goal

pub returns : goal.returns
returns c =
    let program = c.args.code.now in
    let nodes = c.args.nodes in
    let options = c.args.options.now in
    let order = c.args.order.now in
    let statements = c.deref.ensures.value ∙ c.in_ok-statements.ensures ∙ ap (λ ns. act_lines program nodes ns order) c.requires.numbers in
    let begun = starts_along program nodes options order c.in_ok-player.player c.in_ok-player.ensures.player c.in_ok-player.ensures.events in
    let followed = c.in_ok-follow.ensures program nodes options statements begun in
    let drained = c.in_ok-drain.ensures program nodes options (starts_behind program nodes options order c.follow.new.player followed) in
    leads_so program nodes options order c.follow.new.player c.drain.new.player followed drained
