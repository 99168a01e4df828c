use Rattle.lrc_exact_events.proofs.Playing.{starts}
use Rattle.lrc_exact_events.proofs.drained.played.Goals as goal

pub returns : goal.returns
returns c =
    let program = c.args.code.now in
    let options = c.args.options.now in
    c.in_ok-follow.ensures program c.args.nodes options
    (starts program c.args.nodes options c.args.order.now c.in_ok-player.player c.in_ok-player.ensures.player c.in_ok-player.ensures.events)
