use Rattle.std.proofs.Common.{refl, subst}
use Rattle.lrc_orders.specs.Kept.{IsAddedAt}
use Rattle.lrc_lazy_search.specs.declared.search.Searched.{Searched}
use Rattle.lrc_lazy_search.specs.Found.{found_count}
use Rattle.lrc_lazy_search.proofs.Visiting.{adds_new, adds_old}
use Rattle.lrc_lazy_search.proofs.search.Searched.add.Goals as goal

pub returns-in_ok-push_back : goal.returns-in_ok-push_back
returns-in_ok-push_back c =
    let old = c.args.self.now in
    let new : Searched = record { found = c.add.new.self; waiting = c.push_back.new.self; outcomes = old.outcomes } in
    let place = c.in_ok-_place._place in
    let e = c.in_ok-_place.ensures in
    let put = subst (λ b. IsAddedAt (found_count old.found) (found_count new.found) place b) c.if-added.true e.added in
    adds_new c.args.task.now.flat old new place c.args.state c.in_ok-push_back.ensures.items refl e.distinct e.widens e.there put.0 put.1

pub returns-else-added : goal.returns-else-added
returns-else-added c =
    let old = c.args.self.now in
    let new : Searched = record { found = c.add.new.self; waiting = old.waiting; outcomes = old.outcomes } in
    let place = c.in_ok-_place._place in
    let e = c.in_ok-_place.ensures in
    let put = subst (λ b. IsAddedAt (found_count old.found) (found_count new.found) place b) c.if-added.false e.added in
    adds_old c.args.task.now.flat old new place c.args.state refl refl e.distinct e.widens e.there put
