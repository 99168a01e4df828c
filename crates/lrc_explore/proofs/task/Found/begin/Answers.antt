use Rattle.std.proofs.Common.{subst, sym, ap, ◌∙◌, arith}
use Rattle.lrc_orders.specs.Traps.{has_trap}
use Rattle.lrc_orders_table.proofs.RowLaws.{row_within}
use Rattle.lrc_explore.specs.Reached.{IsKeyOf, SettlesStart}
use Rattle.lrc_explore.specs.Traps.{ShowsStartTrap}
use Rattle.lrc_explore.proofs.Keys.{start_first, start_reached, has_start}
use Rattle.lrc_explore.proofs.Trapless.{trapless_first}
use Rattle.lrc_explore.proofs.Trapping.{start_shown}
use Rattle.lrc_explore.proofs.task.Found.begin.Goals as goal

pub add-requires-clause-reached : goal.add-requires-clause-reached
add-requires-clause-reached c =
    let task = c.args.task.now in
    let state = c.in_ok-state.state in
    let acts = c.settled_start.new.acts.items in
    let key = c.in_ok-key.key in
    let s = subst (λ l. SettlesStart task l acts state) c.new-acts.ensures.items c.in_ok-state.ensures.start in
    let k = subst (λ l. IsKeyOf task state l key) c.deref-2.ensures.value c.in_ok-key.ensures in
    start_reached task state acts key s k

pub add-requires-clause-first : goal.add-requires-clause-first
add-requires-clause-first c =
    let task = c.args.task.now in
    let state = c.in_ok-state.state in
    let acts = c.settled_start.new.acts.items in
    let key = c.in_ok-key.key in
    let s = subst (λ l. SettlesStart task l acts state) c.new-acts.ensures.items c.in_ok-state.ensures.start in
    let k = subst (λ l. IsKeyOf task state l key) c.deref-2.ensures.value c.in_ok-key.ensures in
    start_first task state acts key s k

pub add-requires-clause-bare : goal.add-requires-clause-bare
add-requires-clause-bare c = c.in_ok-key.ensures.bare_spots

pub returns-clause-start : goal.returns-clause-start
returns-clause-start c =
    let task = c.args.task.now in
    let state = c.in_ok-state.state in
    let acts = c.settled_start.new.acts.items in
    let key = c.in_ok-key.key in
    let s = subst (λ l. SettlesStart task l acts state) c.new-acts.ensures.items c.in_ok-state.ensures.start in
    let k = subst (λ l. IsKeyOf task state l key) c.deref-2.ensures.value c.in_ok-key.ensures in
    has_start task state acts key s k c.add.new.self.table.rows c.in_ok-add.ensures.has

pub returns-clause-some : goal.returns-clause-some
returns-clause-some c =
    let has = c.in_ok-add.ensures.has in
    let all = c.add.new.self.table.rows in
    let within = row_within all has.0 c.in_ok-key.key has.1 in
    omega (arith, within)

pub returns-clause-traps : goal.returns-clause-traps
returns-clause-traps c =
    let task = c.args.task.now in
    let state = c.in_ok-state.state in
    let acts = c.settled_start.new.acts.items in
    let s = subst (λ l. SettlesStart task l acts state) c.new-acts.ensures.items c.in_ok-state.ensures.start in
    subst (ShowsStartTrap task) (sym (c.has_trap-traps.ensures ∙ ap has_trap c.deref.ensures.value)) (start_shown task acts state s)

pub returns-clause-trapless : goal.returns-clause-trapless
returns-clause-trapless c =
    let task = c.args.task.now in
    let state = c.in_ok-state.state in
    let acts = c.settled_start.new.acts.items in
    let s = subst (λ l. SettlesStart task l acts state) c.new-acts.ensures.items c.in_ok-state.ensures.start in
    let e = c.in_ok-add.ensures in
    trapless_first task c.add.new.self e.found e.one c.has_trap-traps.result
    (subst (ShowsStartTrap task) (sym (c.has_trap-traps.ensures ∙ ap has_trap c.deref.ensures.value)) (start_shown task acts state s))
