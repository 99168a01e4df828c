use Rattle.std.proofs.Common.{◌∙◌, ap, slice_get}
use Rattle.lrc_along.specs.Due.{is_midway}
use Rattle.lrc_protocol.specs.Node.{Mail, Wait}
use Rattle.lrc_explore_events.proofs.Played.{begun_found, begun_nowhere}
use Rattle.lrc_explore_events.proofs.player.Player.has_begun.Goals as goal

pub returns-in-Some : goal.returns-in-Some
returns-in-Some c = λ program nodes world is.
    let wait = c.wait.ensures ∙ ap (λ (m : Mail). m.wait) c.mail.ensures.mail in
    c.is_midway.ensures ∙ ap (λ (w : Wait). is_midway w) wait
    ∙ begun_found (slice_get world.nodes c.args.node) c.in-Some.state.now (c.in-Some.ensures world is.replay)

pub returns-in-None : goal.returns-in-None
returns-in-None c = λ program nodes world is. begun_nowhere (slice_get world.nodes c.args.node) (c.in-None.ensures world is.replay)
