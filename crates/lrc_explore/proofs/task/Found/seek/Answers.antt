use Rattle.std.proofs.Common.{◌+◌, ◌<◌, sym, subst, arith}
use Rattle.std.specs.Prelude.{None}
use Rattle.lrc_orders_table.specs.Rows.{row_count}
use Rattle.lrc_explore.specs.Answers.{IsVisit}
use Rattle.lrc_explore.specs.Cut.{are_more, is_longer}
use Rattle.lrc_explore.specs.Met.{IsTrapMet, VisitKeeps}
use Rattle.lrc_explore.specs.Traps.{first_trap}
use Rattle.lrc_explore.proofs.Keys.{more_again, within_more}
use Rattle.lrc_explore.proofs.Seeking.{Seeking, calm_cut, seeking_first, seeking_on, through, trap_cut, trap_met}
use Rattle.lrc_explore.proofs.task.Found.seek.Goals as goal

pub loop-place-init : goal.loop-place-init
loop-place-init c = (
  subst (λ t. Seeking c.args.task.now c.args.self.now c.args.self.now 0 c.args.races None t) (sym c.start_trap-trap.ensures)
      (seeking_first c.args.task.now c.args.self.now c.args.races c.args.start c.requires.found c.requires.start c.requires.trapless),
  λ le. omega (arith, le),
)

pub end_from-requires-clause-cut : goal.end_from-requires-clause-cut
end_from-requires-clause-cut c = are_more (omega (arith, c.if-len-task.true, c.len-in-loop-place.ensures.len))

pub end_from-requires-clause-traps : goal.end_from-requires-clause-traps
end_from-requires-clause-traps c =
    let s = c.loop-place.invariant.0 in trap_met c.args.task.now c.loop-place.self.table.rows c.loop-place.place c.loop-place.trap s.traps s.trapless

pub end_from-requires-in-Cut-clause-cut : goal.end_from-requires-in-Cut-clause-cut
end_from-requires-in-Cut-clause-cut c =
    let place = c.loop-place.place in
    let cut = subst (IsVisit c.args.task.now c.visit.new.self place c.args.races) c.in-Cut.is c.in_ok-p.ensures.visit in
    is_longer place cut.0

pub end_from-requires-in-Cut-clause-calm : goal.end_from-requires-in-Cut-clause-calm
end_from-requires-in-Cut-clause-calm c =
    let s = c.loop-place.invariant.0 in
    calm_cut c.args.task.now c.loop-place.self c.visit.new.self c.loop-place.place c.args.races s.found
    c.in_ok-p.ensures.more.rows (omega (arith, c.loop-place-test.true, c.len.ensures.len)) s.calm

pub end_from-requires-in-Cut-clause-within : goal.end_from-requires-in-Cut-clause-within
end_from-requires-in-Cut-clause-within c =
    let found = c.loop-place.invariant.0.found in
    within_more c.args.task.now c.loop-place.self c.visit.new.self c.loop-place.place found c.in_ok-p.ensures.more
    (omega (arith, c.loop-place-test.true, c.len.ensures.len))

pub end_from-requires-in-Cut-clause-traps : goal.end_from-requires-in-Cut-clause-traps
end_from-requires-in-Cut-clause-traps c =
    let task = c.args.task.now in
    let old = c.loop-place.self in
    let new = c.visit.new.self in
    let place = c.loop-place.place in
    let s = c.loop-place.invariant.0 in
    let e = c.in_ok-p.ensures in
    let cut = subst (IsVisit task new place c.args.races) c.in-Cut.is e.visit in
    let keeps = subst (VisitKeeps task old.table.rows new.table.rows) c.in-Cut.is e.keeps in
    subst (IsTrapMet task new.table.rows) (sym c.first_trap-met.ensures)
    (trap_cut task old.table.rows new.table.rows place c.loop-place.trap c.in-Cut.step cut.0.0 e.more.rows cut.0.1
    s.traps s.trapless keeps cut.1)

pub returns-in-Cut-clause-more : goal.returns-in-Cut-clause-more
returns-in-Cut-clause-more c = more_again c.loop-place.invariant.0.more c.in_ok-p.ensures.more

pub returns-in-Meeting-clause-more : goal.returns-in-Meeting-clause-more
returns-in-Meeting-clause-more c = more_again c.loop-place.invariant.0.more c.in_ok-p.ensures.more

pub loop-place-preserved : goal.loop-place-preserved
loop-place-preserved c =
    let task = c.args.task.now in
    let first = c.args.self.now in
    let old = c.loop-place.self in
    let new = c.visit.new.self in
    let place = c.loop-place.place in
    let races = c.args.races in
    let i = c.loop-place.invariant.0 in
    let e = c.in_ok-p.ensures in
    let lt : place < row_count old.table.rows = omega (arith, c.loop-place-test.true, c.len.ensures.len) in
    let v = subst (IsVisit task new place races) c.in-Past.is e.visit in
    let k = subst (VisitKeeps task old.table.rows new.table.rows) c.in-Past.is e.keeps in (
      subst (λ t. Seeking task first new (place + 1) races c.first_stuck-stuck.result t) (sym c.first_trap-trap.ensures)
          (subst (λ o. Seeking task first new (place + 1) races o (first_trap c.loop-place.trap c.in-Past.step place)) (sym c.first_stuck-stuck.ensures)
          (seeking_on task first old new place races c.loop-place.stuck c.loop-place.trap i e.found e.more lt c.in-Past.halts c.in-Past.step v k)),
      (λ le. omega (arith, le, c.if-len-task.false, c.len-in-loop-place.ensures.len, c.loop-place-test.true, c.len.ensures.len)),
    )

pub returns-clause-sought : goal.returns-clause-sought
returns-clause-sought c =
    through c.args.task.now c.args.self.now c.loop-place.self c.loop-place.place c.args.races c.loop-place.stuck c.loop-place.trap c.loop-place.invariant.0
    (omega (arith, c.loop-place-test.false, c.len.ensures.len))
