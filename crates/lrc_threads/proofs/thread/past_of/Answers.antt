use Rattle.std.proofs.Common.{◌≡◌, Ok, Err, Some, sym, subst, rules}
use Rattle.lrc_protocol.specs.Node.{Node, fresh_node}
use Rattle.lrc_threads.specs.declared.stop.Stop.TheVariants.{Closed}
use Rattle.lrc_threads.specs.Worker.{AreShort, IsLogOf, Leaves, no_turn_yet}
use Rattle.lrc_threads.proofs.Threads.{whole_log, cut_log, leaves_worn, left_unborn}
use Rattle.lrc_threads.proofs.Traced.{is_past, leads_cut, leads_gone}
use Rattle.lrc_threads.proofs.thread.past_of.Goals as goal

pub returns-in_default : goal.returns-in_default
returns-in_default g c =
    let start : Node = fresh_node c.args.code.now c.args.member.nodes c.args.member.options c.args.member.me in
    let past = c.unborn.result in
    left_unborn start past.log.items past.trace past.is_ready past.stop c.unborn.ensures.log c.unborn.ensures.stop

pub returns-in-Ok-work : goal.returns-in-Ok-work
returns-in-Ok-work g c =
    let start : Node = fresh_node c.args.code.now c.args.member.nodes c.args.member.options c.args.member.me in
    let done : c.work.result ≡ Ok tt = search rules in
    let its_log : IsLogOf start c.work.new.node.logged.log × AreShort c.work.new.node.logged.log = whole_log _ _ _ _ start _ tt c.work.result done
    (c.work.ensures.goes (no_turn_yet start) c.in-Ok.ensures.fresh) in
    let led = leads_gone start c.work.new.node tt c.work.result done (c.work.ensures.traced start (no_turn_yet start) c.in-Ok.ensures.leads) in
    let past = c.ended.result in
    subst (Leaves start past.log.items past.trace past.is_ready) (sym c.ended.ensures.stop)
    (is_past start c.work.new.node past.log.items past.trace past.is_ready its_log.0 its_log.1 led c.ended.ensures.log c.ended.ensures.trace c.ended.ensures.ready)

pub returns-in-Err-Closed : goal.returns-in-Err-Closed
returns-in-Err-Closed g c =
    let start : Node = fresh_node c.args.code.now c.args.member.nodes c.args.member.options c.args.member.me in
    let cut : c.work.result ≡ Err Closed = search rules in
    let its_log : IsLogOf start c.work.new.node.logged.log × AreShort c.work.new.node.logged.log = cut_log _ _ _ _ start _ c.work.result cut
    (c.work.ensures.goes (no_turn_yet start) c.in-Ok.ensures.fresh) in
    let led = leads_cut start c.work.new.node c.work.result cut (c.work.ensures.traced start (no_turn_yet start) c.in-Ok.ensures.leads) in
    let ended = c.ended-in-Err-Closed in
    let past = ended.result in
    subst (Leaves start past.log.items past.trace past.is_ready) (sym ended.ensures.stop)
    (is_past start c.work.new.node past.log.items past.trace past.is_ready its_log.0 its_log.1 led ended.ensures.log ended.ensures.trace ended.ensures.ready)

pub returns-in-Err : goal.returns-in-Err
returns-in-Err g c =
    let start : Node = fresh_node c.args.code.now c.args.member.nodes c.args.member.options c.args.member.me in
    let refused : c.work.result ≡ Err c.in-Err.stop = search rules in
    let open_still : c.in-Err.stop ≡ Closed → ⊥ = search rules in
    let ended = c.ended-in-Err in
    let past = ended.result in
    let left = leaves_worn _ _ _ _ start c.work.new.node.logged c.in-Err.stop c.work.result refused open_still
    (c.work.ensures.goes (no_turn_yet start) c.in-Ok.ensures.fresh) past.trace past.is_ready in
    subst (Leaves start past.log.items past.trace past.is_ready) (sym ended.ensures.stop)
    (subst (λ log. Leaves start log past.trace past.is_ready (Some c.in-Err.stop)) (sym ended.ensures.log) left)
