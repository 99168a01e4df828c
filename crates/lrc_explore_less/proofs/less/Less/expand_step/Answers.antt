use Rattle.std.proofs.Common.{◌≡◌, subst, arith}
use Rattle.lrc_orders.specs.declared.search.ExploreFault.TheVariants.{TooMany}
use Rattle.lrc_orders.specs.Kept.{IsAddedAt}
use Rattle.lrc_orders.proofs.Faults.{fault_up}
use Rattle.lrc_orders_table.specs.Rows.{row_count}
use Rattle.lrc_explore.proofs.Keys.{within_more}
use Rattle.lrc_explore_less.specs.Passing.{IsCutLess, IsTaken}
use Rattle.lrc_explore_less.proofs.Steps.{after_advanced, after_none, begun_passing, shown_advanced, shown_none, still_less}
use Rattle.lrc_explore_less.proofs.Ways.{widens_again, widens_not}
use Rattle.lrc_explore_less.proofs.less.Less.expand_step.Goals as goal

-- ---- where it cannot be taken

pub returns-in_default-clause-less : goal.returns-in_default-clause-less
returns-in_default-clause-less c =
    let task = c.args.task.now in
    let old = c.args.self.now in
    let new = c.take.new.self in
    let e = c.in_ok-next.ensures in
    still_less task old new c.requires.less e.sound e.widens e.opens (subst (IsTaken task old new c.args.place c.args.step) c.in_default.is e.taken).rows

pub returns-in_default-clause-after : goal.returns-in_default-clause-after
returns-in_default-clause-after c =
    let task = c.args.task.now in
    let old = c.args.self.now in
    let new = c.take.new.self in
    let e = c.in_ok-next.ensures in
    after_none task new.found.table.rows c.args.place c.args.step (subst (IsTaken task old new c.args.place c.args.step) c.in_default.is e.taken).cannot

pub returns-in_default-clause-shows : goal.returns-in_default-clause-shows
returns-in_default-clause-shows c = λ calm.
    let task = c.args.task.now in
    let old = c.args.self.now in
    let new = c.take.new.self in
    let e = c.in_ok-next.ensures in
    shown_none task new.found.table.rows c.args.place c.args.step (subst (IsTaken task old new c.args.place c.args.step) c.in_default.is e.taken).cannot

-- ---- where it leads to a new state

pub advance-requires-clause-passing : goal.advance-requires-clause-passing
advance-requires-clause-passing c =
    let task = c.args.task.now in
    let old = c.args.self.now in
    let new = c.take.new.self in
    let e = c.in_ok-next.ensures in
    let t = subst (IsTaken task old new c.args.place c.args.step) c.in-Some.is e.taken in
    let a = subst (IsAddedAt (row_count old.found.table.rows) (row_count new.found.table.rows) c.in-Some.next) c.if-added.true t.added in
    begun_passing task old new c.requires.less e.sound e.widens e.opens c.in-Some.next (omega (arith, a.0, a.1)) a.1

pub returns-in_ok-advance-clause-widens : goal.returns-in_ok-advance-clause-widens
returns-in_ok-advance-clause-widens c = widens_again c.in_ok-next.ensures.widens c.in_ok-advance.ensures.widens

pub returns-in_ok-advance-clause-after : goal.returns-in_ok-advance-clause-after
returns-in_ok-advance-clause-after c =
    let task = c.args.task.now in
    let old = c.args.self.now in
    let new = c.take.new.self in
    let e = c.in_ok-next.ensures in
    let t = subst (IsTaken task old new c.args.place c.args.step) c.in-Some.is e.taken in
    let full = e.sound.found.reached.full c.args.place
    (within_more task old.found new.found c.args.place c.requires.less.sound.found e.widens.found c.requires.within) in
    after_advanced task old new c.advance.new.self c.args.place c.args.step (c.in-Some.next, c.in-Some.added) t full c.in_ok-advance.ensures.widens

pub returns-in_ok-advance-clause-shows : goal.returns-in_ok-advance-clause-shows
returns-in_ok-advance-clause-shows c =
    let task = c.args.task.now in
    let old = c.args.self.now in
    let new = c.take.new.self in
    let e = c.in_ok-next.ensures in
    let t = subst (IsTaken task old new c.args.place c.args.step) c.in-Some.is e.taken in
    let full = e.sound.found.reached.full c.args.place
    (within_more task old.found new.found c.args.place c.requires.less.sound.found e.widens.found c.requires.within) in
    shown_advanced task old new c.advance.new.self c.args.place c.args.step (c.in-Some.next, c.in-Some.added) t full c.in_ok-advance.ensures.widens

-- ---- where it leads to a state that was found before

pub returns-else-added-clause-less : goal.returns-else-added-clause-less
returns-else-added-clause-less c =
    let task = c.args.task.now in
    let old = c.args.self.now in
    let new = c.take.new.self in
    let e = c.in_ok-next.ensures in
    let t = subst (IsTaken task old new c.args.place c.args.step) c.in-Some.is e.taken in
    still_less task old new c.requires.less e.sound e.widens e.opens
    (subst (IsAddedAt (row_count old.found.table.rows) (row_count new.found.table.rows) c.in-Some.next) c.if-added.false t.added)

pub returns-else-added-clause-after : goal.returns-else-added-clause-after
returns-else-added-clause-after c =
    let task = c.args.task.now in
    let old = c.args.self.now in
    let new = c.take.new.self in
    let e = c.in_ok-next.ensures in
    let t = subst (IsTaken task old new c.args.place c.args.step) c.in-Some.is e.taken in
    let full = e.sound.found.reached.full c.args.place
    (within_more task old.found new.found c.args.place c.requires.less.sound.found e.widens.found c.requires.within) in
    after_advanced task old new new c.args.place c.args.step (c.in-Some.next, c.in-Some.added) t full (widens_not new)

pub returns-else-added-clause-shows : goal.returns-else-added-clause-shows
returns-else-added-clause-shows c =
    let task = c.args.task.now in
    let old = c.args.self.now in
    let new = c.take.new.self in
    let e = c.in_ok-next.ensures in
    let t = subst (IsTaken task old new c.args.place c.args.step) c.in-Some.is e.taken in
    let full = e.sound.found.reached.full c.args.place
    (within_more task old.found new.found c.args.place c.requires.less.sound.found e.widens.found c.requires.within) in
    shown_advanced task old new new c.args.place c.args.step (c.in-Some.next, c.in-Some.added) t full (widens_not new)

-- ---- where some node computes too long

pub returns-in_err-next-clause-long : goal.returns-in_err-next-clause-long
returns-in_err-next-clause-long c =
    let task = c.args.task.now in
    let old = c.args.self.now in
    let new = c.take.new.self in
    fault_up c.from_residual.result c.in_err-next.field-0.0 (λ fault. fault ≡ TooMany → IsCutLess task old new)
    c.from_residual.ensures.1 (λ is.
    let l = c.in_err-next.ensures.long is in
    record {
      less = still_less task old new c.requires.less l.sound l.widens l.opens l.rows;
      widens = l.widens;
      long = (c.args.place, l.long);
    })

pub returns-in_err-advance-clause-long : goal.returns-in_err-advance-clause-long
returns-in_err-advance-clause-long c =
    let task = c.args.task.now in
    let new = c.advance.new.self in
    fault_up c.from_residual-in_err-advance.result c.in_err-advance.field-0.0
    (λ fault. fault ≡ TooMany → IsCutLess task c.args.self.now new) c.from_residual-in_err-advance.ensures.1 (λ is.
    let l = c.in_err-advance.ensures.long is in
    record { less = l.less; widens = widens_again c.in_ok-next.ensures.widens l.widens; long = l.long })
