use Rattle.std.proofs.Common.{ap, length, subst}
use Rattle.std.specs.Prelude.{Option, MatchOption}
use Rattle.lrc_orders_table.specs.declared.table.Led.{Led}
use Rattle.lrc_explore.specs.Reached.{CannotTakeAt, LeadsTo}
use Rattle.lrc_explore.specs.Traps.{ShowsTrapAt, led_traps}
use Rattle.lrc_explore.proofs.Keys.{has_after, more_again, within_more}
use Rattle.lrc_explore.proofs.Trapless.{trapless_put, trapless_same}
use Rattle.lrc_explore.proofs.Trapping.{trap_grown}
use Rattle.lrc_explore.proofs.task.Found.expand_step.Goals as goal

pub put-requires-clause-next : goal.put-requires-clause-next
put-requires-clause-next c =
    let task = c.args.task.now in
    let all = c.row_after.new.self.table.rows in
    let P : Option Led → Type 0 = λ o. MatchOption o (CannotTakeAt task all c.args.place c.args.step) (λ led. LeadsTo task all c.args.place c.args.step led.row) in
    subst P c.in-Some.is c.in-Ok.ensures.taken

pub returns-clause-stepped : goal.returns-clause-stepped
returns-clause-stepped c =
    let task = c.args.task.now in
    let place = c.args.place in
    let step = c.args.step in
    let mid = c.row_after.new.self in
    let all = mid.table.rows in
    let none = CannotTakeAt task all place step in
    let P : Option Led → Type 0 = λ o. MatchOption o none (λ led. LeadsTo task all place step led.row) in
    let Q : Option Led → Type 0 = λ o. ShowsTrapAt task all place step (led_traps o) in
    let r = c.in-Ok.ensures in
    let within = within_more task c.args.self.now mid place c.requires.found r.more c.requires.within in
    let n = subst P c.in-Some.is r.taken in
    let e = c.in_ok-_place.ensures in (
      has_after task all c.put.new.self.table.rows place step n.key n.from e.more.rows (e.has n.key n.stands),
      trap_grown task all c.put.new.self.table.rows place step c.in-Some.led.traps e.more.rows
          (r.found.reached.full place within) (subst Q c.in-Some.is r.traps),
    )

pub returns-clause-more : goal.returns-clause-more
returns-clause-more c = more_again c.in-Ok.ensures.more c.in_ok-_place.ensures.more

pub returns-in_default-clause-stepped : goal.returns-in_default-clause-stepped
returns-in_default-clause-stepped c =
    let task = c.args.task.now in
    let all = c.row_after.new.self.table.rows in
    let place = c.args.place in
    let step = c.args.step in
    let none = CannotTakeAt task all place step in
    let P : Option Led → Type 0 = λ o. MatchOption o none (λ led. LeadsTo task all place step led.row) in
    let Q : Option Led → Type 0 = λ o. ShowsTrapAt task all place step (led_traps o) in
    let cannot = subst P c.in_default.is c.in-Ok.ensures.taken in
    (λ key at acts after takes. absurd (cannot key at acts after takes), subst Q c.in_default.is c.in-Ok.ensures.traps)

pub returns-in_default-clause-trapless : goal.returns-in_default-clause-trapless
returns-in_default-clause-trapless c = λ no.
    let e = c.in-Ok.ensures in
    trapless_same c.args.task.now c.args.self.now.table.rows c.row_after.new.self.table.rows c.requires.found.reached e.keeps.widens
    (ap (λ l. length l) e.keeps.rows)

pub returns-clause-trapless : goal.returns-clause-trapless
returns-clause-trapless c = λ no calm.
    let task = c.args.task.now in
    let place = c.args.place in
    let step = c.args.step in
    let mid = c.row_after.new.self.table.rows in
    let e = c.in-Ok.ensures in
    let p = c.in_ok-_place.ensures in
    let P : Option Led → Type 0 = λ o. MatchOption o (CannotTakeAt task mid place step) (λ led. LeadsTo task mid place step led.row) in
    let Q : Option Led → Type 0 = λ o. ShowsTrapAt task mid place step (led_traps o) in
    let n = subst P c.in-Some.is e.taken in
    let shows = subst (ShowsTrapAt task mid place step) no (subst Q c.in-Some.is e.traps) in
    let was = trapless_same task c.args.self.now.table.rows mid c.requires.found.reached e.keeps.widens (ap (λ l. length l) e.keeps.rows) calm in
    trapless_put task mid c.put.new.self.table.rows place c.in_ok-_place._place step c.in-Some.led.row e.found.reached p.more.rows p.only n shows
    (p.there n.key n.stands) was

-- ---- where some node computes too long

pub returns-in-Err-TooMany-clause-found : goal.returns-in-Err-TooMany-clause-found
returns-in-Err-TooMany-clause-found c = (c.in-Err-TooMany.ensures.long c.in-Err-TooMany.field-0-is).found

pub returns-in-Err-TooMany-clause-more : goal.returns-in-Err-TooMany-clause-more
returns-in-Err-TooMany-clause-more c = (c.in-Err-TooMany.ensures.long c.in-Err-TooMany.field-0-is).more

pub returns-in-Err-TooMany-clause-stepped : goal.returns-in-Err-TooMany-clause-stepped
returns-in-Err-TooMany-clause-stepped c = (c.in-Err-TooMany.ensures.long c.in-Err-TooMany.field-0-is).long

pub returns-in-Err-TooMany-clause-trapless : goal.returns-in-Err-TooMany-clause-trapless
returns-in-Err-TooMany-clause-trapless c = λ no.
    let l = c.in-Err-TooMany.ensures.long c.in-Err-TooMany.field-0-is in
    let new = c.row_after.new.self.table.rows in
    trapless_same c.args.task.now c.args.self.now.table.rows new c.requires.found.reached l.keeps.widens
    (ap (λ l. length l) l.keeps.rows)
