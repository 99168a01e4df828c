use Rattle.std.proofs.Common.{inl}
use Rattle.std.proofs.lemmas.Result.{IfOk-weaker}
use Rattle.lrc_explore_events.proofs.Turning.{due_so}
use Rattle.lrc_explore_events.proofs.player.Player.due.Goals as goal

pub returns-in-Some : goal.returns-in-Some
returns-in-Some c = λ program nodes world is statements.
    IfOk-weaker c.event_for.result _ _
    (due_so program nodes c.args.order.now world c.in-Some.act (c.in-Some.ensures program nodes world is statements))
    (c.event_for.ensures program nodes world is)

pub returns-in-None : goal.returns-in-None
returns-in-None c = λ program nodes world is statements. inl (c.in-None.ensures program nodes world is statements)
