use Rattle.std.proofs.Common.{List, All, map, subst, sym}
use Rattle.lrc_post.specs.Mailbox.{MailboxRecord, IsAllGiven}
use Rattle.lrc_weave.specs.Matched.{AreMatched}
use Rattle.lrc_node.specs.Options.{options_of}
use Rattle.lrc_run.specs.Run.{IsThreadedRun}
use Rattle.lrc_run.proofs.Halting.{threaded_run}
use Rattle.lrc_run.proofs.live.finished.Goals as goal

pub returns-in-Ok-clause-run : goal.returns-in-Ok-clause-run
returns-in-Ok-clause-run c = λ picker picked.
    let program = c.args.program.now in
    let nodes = c.args.setting.now.nodes.count in
    let options = options_of c.args.setting.now in
    let logs = map (λ log. log.items) c.args.parts.logs.items in
    let run = c.reported.result.made in
    subst (λ (wires : List MailboxRecord). IsThreadedRun program nodes options picker c.args.keep run wires)
    (sym c.reported.ensures.wires)
    (threaded_run program nodes options picker logs c.in-Ok.told run c.args.wires c.args.keep c.with_turns-kept.result c.args.setting.now.nodes.some
    c.with_turns-kept.ensures c.in-Ok.ensures.told c.reported.ensures.report c.reported.ensures.events c.reported.ensures.turned
    c.reported.ensures.origins c.reported.ensures.over
    (subst (λ (wires : List MailboxRecord). AreMatched logs wires) c.mailboxes.ensures.all c.in-Ok.ensures.matched)
    (subst (λ (wires : List MailboxRecord). All IsAllGiven wires) c.mailboxes.ensures.all c.in-Ok.ensures.taken)
    c.requires.mailboxes
    c.mailboxes.ensures.legal picked)
