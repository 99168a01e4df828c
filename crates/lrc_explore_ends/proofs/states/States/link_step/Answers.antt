use Rattle.std.proofs.Common.{◌∙◌, refl, subst, arith}
use Rattle.std.specs.Prelude.{Option, MatchOption}
use Rattle.lrc_orders_table.specs.declared.table.Led.{Led}
use Rattle.lrc_orders_table.proofs.RowLaws.{row_within}
use Rattle.lrc_explore.specs.Reached.{CannotTakeAt, LeadsTo}
use Rattle.lrc_explore.proofs.Keys.{within_more}
use Rattle.lrc_explore_ends.specs.declared.states.States.{States}
use Rattle.lrc_explore_ends.proofs.Linking.{cannot_known, few_on, kept_stepped, kept_wider, linked_known, linked_stepped, linked_wider}
use Rattle.lrc_explore_ends.proofs.states.States.link_step.Goals as goal

pub row_after-requires-clause-found : goal.row_after-requires-clause-found
row_after-requires-clause-found c = c.requires.stepped.found

pub returns-in_default-clause-stepped : goal.returns-in_default-clause-stepped
returns-in_default-clause-stepped c =
    let old = c.args.self.now in
    let new : States = record { found = c.row_after.new.self; steps = old.steps } in
    let e = c.in_ok-led.ensures in
    kept_stepped c.args.task.now old new c.args.place c.args.step c.requires.stepped e.found e.more refl

pub returns-in_default-clause-wider : goal.returns-in_default-clause-wider
returns-in_default-clause-wider c =
    let old = c.args.self.now in
    let new : States = record { found = c.row_after.new.self; steps = old.steps } in
    let e = c.in_ok-led.ensures in
    kept_wider c.args.task.now old new c.args.place c.args.step c.requires.stepped e.found e.more refl

pub returns-in_default-clause-known : goal.returns-in_default-clause-known
returns-in_default-clause-known c =
    let task = c.args.task.now in
    let old = c.args.self.now in
    let place = c.args.place in
    let new : States = record { found = c.row_after.new.self; steps = old.steps } in
    let e = c.in_ok-led.ensures in
    let all = new.found.table.rows in
    let P : Option Led → Type 0 = λ o. MatchOption o (CannotTakeAt task all place c.args.step) (λ led. LeadsTo task all place c.args.step led.row) in
    cannot_known task old new place c.args.step c.requires.stepped e.found e.more refl
    (within_more task old.found new.found place c.requires.stepped.found e.more c.requires.within) (subst P c.in_default.is e.taken)

pub put-requires-clause-next : goal.put-requires-clause-next
put-requires-clause-next c =
    let task = c.args.task.now in
    let all = c.row_after.new.self.table.rows in
    let P : Option Led → Type 0 = λ o. MatchOption o (CannotTakeAt task all c.args.place c.args.step) (λ led. LeadsTo task all c.args.place c.args.step led.row) in
    subst P c.in-Some.is c.in_ok-led.ensures.taken

pub widen-requires : goal.widen-requires
widen-requires c =
    let few = few_on c.args.task.now c.args.self.now c.row_after.new.self c.put.new.self c.requires.stepped c.in_ok-led.ensures.more c.in_ok-to.ensures.more in
    omega (arith, few, c.len.ensures.len)

pub link-requires : goal.link-requires
link-requires c =
    let task = c.args.task.now in
    let all = c.row_after.new.self.table.rows in
    let P : Option Led → Type 0 = λ o. MatchOption o (CannotTakeAt task all c.args.place c.args.step) (λ led. LeadsTo task all c.args.place c.args.step led.row) in
    let n = subst P c.in-Some.is c.in_ok-led.ensures.taken in
    let within = row_within c.put.new.self.table.rows c.in_ok-to.to n.key (c.in_ok-to.ensures.there n.key n.stands) in
    omega (arith, within, c.in_ok-widen.ensures.count, c.len.ensures.len)

pub returns-clause-stepped : goal.returns-clause-stepped
returns-clause-stepped c =
    let task = c.args.task.now in
    let all = c.row_after.new.self.table.rows in
    let P : Option Led → Type 0 = λ o. MatchOption o (CannotTakeAt task all c.args.place c.args.step) (λ led. LeadsTo task all c.args.place c.args.step led.row) in
    let n = subst P c.in-Some.is c.in_ok-led.ensures.taken in
    let new : States = record { found = c.put.new.self; steps = c.link.new.self } in
    linked_stepped task c.args.self.now new c.row_after.new.self c.widen.new.self c.args.place c.in_ok-to.to c.args.step c.in-Some.led.row c.requires.stepped
    c.in_ok-to.ensures.found c.in_ok-led.ensures.more c.in_ok-to.ensures.more n (c.in_ok-to.ensures.there n.key n.stands)
    (c.in_ok-widen.ensures.count ∙ c.len.ensures.len) c.in_ok-widen.ensures.edges c.in_ok-link.ensures.count c.in_ok-link.ensures.edges

pub returns-clause-wider : goal.returns-clause-wider
returns-clause-wider c =
    let task = c.args.task.now in
    let all = c.row_after.new.self.table.rows in
    let P : Option Led → Type 0 = λ o. MatchOption o (CannotTakeAt task all c.args.place c.args.step) (λ led. LeadsTo task all c.args.place c.args.step led.row) in
    let n = subst P c.in-Some.is c.in_ok-led.ensures.taken in
    let new : States = record { found = c.put.new.self; steps = c.link.new.self } in
    linked_wider task c.args.self.now new c.row_after.new.self c.widen.new.self c.args.place c.in_ok-to.to c.args.step c.in-Some.led.row c.requires.stepped
    c.in_ok-to.ensures.found c.in_ok-led.ensures.more c.in_ok-to.ensures.more n (c.in_ok-to.ensures.there n.key n.stands)
    (c.in_ok-widen.ensures.count ∙ c.len.ensures.len) c.in_ok-widen.ensures.edges c.in_ok-link.ensures.count c.in_ok-link.ensures.edges

pub returns-clause-known : goal.returns-clause-known
returns-clause-known c =
    let task = c.args.task.now in
    let all = c.row_after.new.self.table.rows in
    let P : Option Led → Type 0 = λ o. MatchOption o (CannotTakeAt task all c.args.place c.args.step) (λ led. LeadsTo task all c.args.place c.args.step led.row) in
    let n = subst P c.in-Some.is c.in_ok-led.ensures.taken in
    let new : States = record { found = c.put.new.self; steps = c.link.new.self } in
    linked_known task c.args.self.now new c.row_after.new.self c.widen.new.self c.args.place c.in_ok-to.to c.args.step c.in-Some.led.row c.requires.stepped
    c.in_ok-to.ensures.found c.in_ok-led.ensures.more c.in_ok-to.ensures.more n (c.in_ok-to.ensures.there n.key n.stands)
    (c.in_ok-widen.ensures.count ∙ c.len.ensures.len) c.in_ok-widen.ensures.edges c.in_ok-link.ensures.count c.in_ok-link.ensures.edges
