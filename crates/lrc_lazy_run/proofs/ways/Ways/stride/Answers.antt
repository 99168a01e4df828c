use Rattle.std.proofs.Common.{◌∙◌, ◌∷◌, [], ap, arith, refl}
use Rattle.lrc_trace.specs.declared.act.Act.{Act}
use Rattle.lrc_lazy_search.specs.Searching.{renewed}
use Rattle.lrc_lazy_search.proofs.Ahead.{ahead_state}
use Rattle.lrc_lazy_run.proofs.Striding.{comes_of, lead_first, lead_fresh, reached_along, room_after}
use Rattle.lrc_lazy_run.proofs.ways.Ways.stride.Goals as goal

pub act_by-requires : goal.act_by-requires
act_by-requires c = omega (arith, c.in_ok-next.ensures.below, c.requires.ways.task.few)

pub go_along-requires-clause-state : goal.go_along-requires-clause-state
go_along-requires-clause-state c = c.in_ok-next.ensures.valid

pub go_along-requires-clause-room : goal.go_along-requires-clause-room
go_along-requires-clause-room c =
    room_after c.args.sought.now c.args.self.now c.args.place c.args.node c.args.deed c.in_ok-next.next c.requires.ways c.requires.within c.in_ok-next.ensures

pub renew-requires : goal.renew-requires
renew-requires c = ahead_state c.in_ok-next.ensures.valid c.in_ok-turns.ensures.along.ahead

pub keep-requires-clause-reached : goal.keep-requires-clause-reached
keep-requires-clause-reached c =
    let after = c.in_ok-next.ensures in
    let along = c.in_ok-turns.ensures in
    let fresh = c.in_ok-renew.ensures in
    reached_along c.args.sought.now c.args.self.now c.args.place c.args.node c.args.deed c.in_ok-next.next c.renew.new.self c.requires.ways c.requires.within after
    (renewed along.along.ahead fresh.fresh) (fresh.neat (along.neat after.neat)) (fresh.left c.requires.ways.task.some)

pub keep-requires-clause-comes : goal.keep-requires-clause-comes
keep-requires-clause-comes c =
    let sought = c.args.sought.now in
    let task = c.requires.ways.task in
    let after = c.in_ok-next.ensures in
    let acts = c.in_ok-acts.acts.items in
    let one = c.in_ok-acts.ensures ∙ ap (λ (a : Act). a ∷ []) c.act_by.ensures in
    comes_of sought c.args.self.now.states.keys c.args.place c.args.node c.args.deed c.in_ok-next.next c.renew.new.self _ after c.requires.within refl
    (lead_fresh sought after.key c.go_along.new.state c.renew.new.self c.go_along.new.acts.items task
    (c.in_ok-turns.ensures.along.leads after.key
    (lead_first sought after.key c.in_ok-next.next acts c.args.node c.args.deed task after.steps one)) c.in_ok-renew.ensures.fresh)

pub keep-requires-clause-ways : goal.keep-requires-clause-ways
keep-requires-clause-ways c =
    let w = c.requires.ways in
    record { task = w.task; kept = w.kept; few = w.few; small = w.small }

pub returns-then-turns-clause-ways : goal.returns-then-turns-clause-ways
returns-then-turns-clause-ways c =
    let w = c.requires.ways in
    record { task = w.task; kept = w.kept; few = w.few; small = w.small }
