use Rattle.std.proofs.Common.{refl, ap, arith, length}
use Rattle.lrc_orders.proofs.Faults.{ok_says}
use Rattle.lrc_orders.specs.Kept.{Grows}
use Rattle.lrc_orders.specs.Outcome.{HasOutcome}
use Rattle.lrc_lazy_search.specs.Found.{found_count}
use Rattle.lrc_lazy_search.specs.Searching.{AreSound}
use Rattle.lrc_lazy_search.proofs.Adding.{reached_more, reached_next}
use Rattle.lrc_lazy_search.proofs.Searched.{outcome_there, reached_fit}
use Rattle.lrc_lazy_search.proofs.Visiting.{always_ok, both_ok, even_adds, its_long, its_reached, visited_ending, visited_going}
use Rattle.lrc_lazy_search.proofs.search.Searched.visit.Goals as goal

pub can_act-requires-clause-fit : goal.can_act-requires-clause-fit
can_act-requires-clause-fit c =
    let task = c.args.task.now in
    let all = c.args.self.now in
    let key = c.args.state.now in
    reached_fit task.program.now task.flat key _ c.requires.task.words (its_reached task all key all.waiting.items c.requires.at)

pub nexts-requires-clause-fit : goal.nexts-requires-clause-fit
nexts-requires-clause-fit c =
    let task = c.args.task.now in
    let all = c.args.self.now in
    let key = c.args.state.now in
    reached_fit task.program.now task.flat key _ c.requires.task.words (its_reached task all key all.waiting.items c.requires.at)

pub nexts-requires-clause-room : goal.nexts-requires-clause-room
nexts-requires-clause-room c = λ node.
    let task = c.args.task.now in
    let all = c.args.self.now in
    let key = c.args.state.now in
    let few = (its_reached task all key all.waiting.items c.requires.at).counted node in
    let place = its_long task all key all.waiting.items c.requires.at in
    let long = c.requires.at.found.long in
    omega (arith, few, place, long, c.requires.small)

pub add_all-requires-clause-distinct : goal.add_all-requires-clause-distinct
add_all-requires-clause-distinct c = c.requires.at.distinct

pub add_all-requires-clause-reached : goal.add_all-requires-clause-reached
add_all-requires-clause-reached c = λ k after at.
    let task = c.args.task.now in
    let all = c.args.self.now in
    let key = c.args.state.now in
    let e = c.in_ok-nexts.ensures in
    let reached = its_reached task all key all.waiting.items c.requires.at in
    let place = its_long task all key all.waiting.items c.requires.at in
    let long = c.requires.at.found.long in
    reached_more (omega (arith, place, long))
    (reached_next task.program.now task.flat c.requires.task.words c.requires.task.locks key after _ reached (e.sound k after at)
    (e.neat reached.neat k after at) (e.left c.requires.task.some k after at))

pub returns-in_ok-nexts-clause-at : goal.returns-in_ok-nexts-clause-at
returns-in_ok-nexts-clause-at c =
    let task = c.args.task.now in
    let all = c.args.self.now in
    let key = c.args.state.now in
    let e = c.in_ok-nexts.ensures in
    let waiting = all.waiting.items in
    let reached = its_reached task all key waiting c.requires.at in
    let place = its_long task all key waiting c.requires.at in
    let long = c.requires.at.found.long in
    ok_says c.add_all.result
    (λ adds.
    visited_going task all key waiting c.requires.at c.add_all.new.self c.in_ok-nexts.nexts.items refl adds
    (λ k after at.
    reached_more (omega (arith, place, long))
    (reached_next task.program.now task.flat c.requires.task.words c.requires.task.locks key after _ reached (e.sound k after at)
    (e.neat reached.neat k after at) (e.left c.requires.task.some k after at)))
    e.enough (c.can_act.ensures.can c.if-can_act.true))
    c.add_all.ensures

pub returns-in_ok-nexts-clause-even : goal.returns-in_ok-nexts-clause-even
returns-in_ok-nexts-clause-even c =
    ok_says c.add_all.result (λ adds. even_adds c.args.task.now.flat c.args.self.now c.add_all.new.self c.in_ok-nexts.nexts.items adds) c.add_all.ensures

pub take_outcome-requires-clause-sound : goal.take_outcome-requires-clause-sound
take_outcome-requires-clause-sound c = c.requires.at.sound

pub take_outcome-requires-clause-over : goal.take_outcome-requires-clause-over
take_outcome-requires-clause-over c =
    let task = c.args.task.now in
    let all = c.args.self.now in
    let key = c.args.state.now in
    outcome_there task.program.now task.flat key _ c.requires.task.words (its_reached task all key all.waiting.items c.requires.at)
    (c.can_act.ensures.still c.if-can_act.false)

pub returns-else-can_act-clause-at : goal.returns-else-can_act-clause-at
returns-else-can_act-clause-at c =
    let task = c.args.task.now in
    let all = c.args.self.now in
    let key = c.args.state.now in
    let e = c.take_outcome.ensures in
    let new = c.take_outcome.new.self in
    ok_says c.take_outcome.result
    (λ (is : Grows all.outcomes.keys new.outcomes.keys × (AreSound task.program.now task.flat new.outcomes.keys × HasOutcome new.outcomes.keys key.notes.items)).
    visited_ending task all key all.waiting.items c.requires.at new e.found (ap (λ w. w.items) e.waiting) is.0 is.1.0
    (c.can_act.ensures.still c.if-can_act.false) is.1.1)
    (both_ok _ _ c.take_outcome.result e.more (both_ok _ _ c.take_outcome.result e.sound e.has))

pub returns-else-can_act-clause-even : goal.returns-else-can_act-clause-even
returns-else-can_act-clause-even c =
    let e = c.take_outcome.ensures in
    let found = ap found_count e.found in
    let waiting = ap (λ w. length w.items) e.waiting in
    always_ok c.take_outcome.result (omega (arith, found, waiting))
