use Rattle.std.proofs.Common.{subst}
use Rattle.std.specs.Prelude.{Option, MatchOption}
use Rattle.lrc_orders_table.specs.declared.table.Led.{Led}
use Rattle.lrc_orders_table.proofs.RowLaws.{row_within}
use Rattle.lrc_explore.specs.Reached.{CannotTakeAt, LeadsTo}
use Rattle.lrc_explore.proofs.Keys.{within_more}
use Rattle.lrc_explore_less.proofs.soon.moved.Goals as goal

-- ---- where it cannot be taken

pub returns-in_default-clause-within : goal.returns-in_default-clause-within
returns-in_default-clause-within c =
    within_more c.args.task.now c.args.found.now c.row_after.new.self c.args.place c.requires.found c.in_ok-led.ensures.more c.requires.within

-- ---- where it is

pub put-requires-clause-next : goal.put-requires-clause-next
put-requires-clause-next c =
    let task = c.args.task.now in
    let all = c.row_after.new.self.table.rows in
    let P : Option Led → Type 0 = λ o. MatchOption o (CannotTakeAt task all c.args.place c.args.step) (λ led. LeadsTo task all c.args.place c.args.step led.row) in
    subst P c.in-Some.is c.in_ok-led.ensures.taken

pub is_told-requires-clause-within : goal.is_told-requires-clause-within
is_told-requires-clause-within c =
    let task = c.args.task.now in
    let all = c.row_after.new.self.table.rows in
    let P : Option Led → Type 0 = λ o. MatchOption o (CannotTakeAt task all c.args.place c.args.step) (λ led. LeadsTo task all c.args.place c.args.step led.row) in
    let n = subst P c.in-Some.is c.in_ok-led.ensures.taken in
    row_within c.put.new.self.table.rows c.in_ok-next.next n.key (c.in_ok-next.ensures.there n.key n.stands)

pub returns-clause-within : goal.returns-clause-within
returns-clause-within c =
    let task = c.args.task.now in
    let all = c.row_after.new.self.table.rows in
    let P : Option Led → Type 0 = λ o. MatchOption o (CannotTakeAt task all c.args.place c.args.step) (λ led. LeadsTo task all c.args.place c.args.step led.row) in
    let n = subst P c.in-Some.is c.in_ok-led.ensures.taken in
    row_within c.put.new.self.table.rows c.in_ok-next.next n.key (c.in_ok-next.ensures.there n.key n.stands)
