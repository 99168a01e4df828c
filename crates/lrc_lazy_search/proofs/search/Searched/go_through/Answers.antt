use Rattle.std.proofs.Common.{◌∷◌, ap, arith, length, refl}
use Rattle.lrc_lazy_search.proofs.Visiting.{all_exact, all_fits, at_as, emptied}
use Rattle.lrc_lazy_search.proofs.search.Searched.go_through.Goals as goal

pub visit-requires-clause-at : goal.visit-requires-clause-at
visit-requires-clause-at c =
    let all = c.loop-state.self in
    at_as c.args.task.now all _ all.waiting.items (c.in-Some.state ∷ c.pop_front.new.self.items) refl refl c.in-Some.ensures.items c.loop-state.invariant.at

pub returns-clause-exact : goal.returns-clause-exact
returns-clause-exact c =
    let all = c.loop-state.self in
    let none = emptied c.pop_front.result all.waiting.len c.pop_front.new.self.len all.waiting.items c.pop_front.ensures.cases c.in_default.is
    all.waiting.ok.0 in
    all_exact c.args.task.now c.requires.task all all.waiting.items none c.loop-state.invariant.at

pub returns-clause-fits : goal.returns-clause-fits
returns-clause-fits c =
    let all = c.loop-state.self in
    let none = emptied c.pop_front.result all.waiting.len c.pop_front.new.self.len all.waiting.items c.pop_front.ensures.cases c.in_default.is
    all.waiting.ok.0 in
    let within = c.loop-state.invariant.within in
    let long = ap length none in
    all_fits c.args.task.now c.requires.task all all.waiting.items none c.loop-state.invariant.at (omega (arith, within, long))
