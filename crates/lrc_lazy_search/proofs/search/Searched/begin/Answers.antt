use Rattle.std.proofs.Common.{[], length, ap, refl, arith}
use Rattle.lrc_orders.proofs.Faults.{ok_says}
use Rattle.lrc_lazy_search.proofs.Adding.{first_ahead, first_room, first_turns}
use Rattle.lrc_lazy_search.proofs.Visiting.{all_wait, first_at, none_at}
use Rattle.lrc_lazy_search.proofs.search.Searched.begin.Goals as goal

pub go_ahead-requires-clause-room : goal.go_ahead-requires-clause-room
go_ahead-requires-clause-room c = first_room c.args.task.now c.in_ok-first.first c.in_ok-first.ensures.first

pub add-requires-clause-distinct : goal.add-requires-clause-distinct
add-requires-clause-distinct c = c.requires.none.distinct

pub add-requires-clause-state : goal.add-requires-clause-state
add-requires-clause-state c =
    let e = c.in_ok-first.ensures in
    let g = c.in_ok-go_ahead.ensures in
    let some = c.requires.task.some in
    (first_ahead c.args.task.now c.in_ok-first.first c.go_ahead.new.self c.requires.task e.first e.state e.nothing e.notes e.neat (e.left some)
    g.ahead (g.neat e.neat) (g.left some)).valid

pub add-requires-clause-neat : goal.add-requires-clause-neat
add-requires-clause-neat c = c.in_ok-go_ahead.ensures.neat c.in_ok-first.ensures.neat

pub returns-clause-at : goal.returns-clause-at
returns-clause-at c =
    let task = c.args.task.now in
    let e = c.in_ok-first.ensures in
    let g = c.in_ok-go_ahead.ensures in
    let some = c.requires.task.some in
    let reached = first_ahead task c.in_ok-first.first c.go_ahead.new.self c.requires.task e.first e.state e.nothing e.notes e.neat (e.left some)
    g.ahead (g.neat e.neat) (g.left some) in
    ok_says c.add.result
    (λ adds.
    first_at task c.args.self.now c.add.new.self c.in_ok-first.first c.go_ahead.new.self c.requires.task c.requires.none adds e.first e.nothing e.notes
    g.ahead reached)
    c.add.ensures

pub returns-clause-all : goal.returns-clause-all
returns-clause-all c =
    ok_says c.add.result (λ adds. all_wait c.args.task.now.flat c.args.self.now c.add.new.self _ c.requires.none adds) c.add.ensures

pub returns-then-branch-clause-at : goal.returns-then-branch-clause-at
returns-then-branch-clause-at c =
    let e = c.in_ok-first.ensures in
    none_at c.args.task.now c.args.self.now c.requires.none
    (first_turns c.args.task.now [] c.in_ok-first.first c.requires.task refl e.first e.nothing e.notes
    (c.in_ok-go_ahead.ensures.turns c.if-branch.true))

pub returns-then-branch-clause-all : goal.returns-then-branch-clause-all
returns-then-branch-clause-all c =
    let found = c.requires.none.found in
    let long = ap length c.requires.none.waiting in
    omega (arith, found, long)
