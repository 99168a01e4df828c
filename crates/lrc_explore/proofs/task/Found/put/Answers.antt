use Rattle.std.proofs.Common.{◌∙◌, ◌++◌, [], ◌∷◌, sym, ap}
use Rattle.std.specs.Prelude.{if◌then◌else◌}
use Rattle.lrc_explore.specs.declared.task.Found.{Found}
use Rattle.lrc_orders_table.specs.Rows.{row_count}
use Rattle.lrc_explore.proofs.Keys.{found_put, more_put, next_comes}
use Rattle.lrc_explore.proofs.Trapless.{added_only}
use Rattle.lrc_explore.proofs.task.Found.put.Goals as goal

pub put-requires : goal.put-requires
put-requires c = c.requires.found.reached.distinct

pub returns-in_ok-push-clause-found : goal.returns-in_ok-push-clause-found
returns-in_ok-push-clause-found c =
    let e = c.in_ok-place.ensures in
    let task = c.args.task.now in
    let old = c.args.self.now in
    let n = c.requires.next in
    let new : Found = record { table = c.put.new.self; origins = c.push.new.self } in
    found_put task old new n.key c.args.origin c.in_ok-place.place c.in_ok-place.added c.requires.found n.reached (next_comes task old c.args.origin n.key n.from)
    e.widens (λ means is. e.table means (c.requires.found.table means is)) e.added (e.there n.key n.stands)
    (c.in_ok-push.ensures.items ∙ ap (λ b. if b then old.origins.items ++ c.args.origin ∷ [] else old.origins.items) (sym c.if-added.true))

pub returns-else-added-clause-found : goal.returns-else-added-clause-found
returns-else-added-clause-found c =
    let e = c.in_ok-place.ensures in
    let task = c.args.task.now in
    let old = c.args.self.now in
    let n = c.requires.next in
    let new : Found = record { table = c.put.new.self; origins = old.origins } in
    found_put task old new n.key c.args.origin c.in_ok-place.place c.in_ok-place.added c.requires.found n.reached (next_comes task old c.args.origin n.key n.from)
    e.widens (λ means is. e.table means (c.requires.found.table means is)) e.added (e.there n.key n.stands)
    (ap (λ b. if b then old.origins.items ++ c.args.origin ∷ [] else old.origins.items) (sym c.if-added.false))

pub returns-else-added-clause-more : goal.returns-else-added-clause-more
returns-else-added-clause-more c =
    let e = c.in_ok-place.ensures in
    let task = c.args.task.now in
    let old = c.args.self.now in
    let n = c.requires.next in
    let new : Found = record { table = c.put.new.self; origins = old.origins } in
    more_put task old new n.key c.args.origin c.in_ok-place.place c.in_ok-place.added c.requires.found n.reached (next_comes task old c.args.origin n.key n.from)
    e.widens (λ means is. e.table means (c.requires.found.table means is)) e.added (e.there n.key n.stands)
    (ap (λ b. if b then old.origins.items ++ c.args.origin ∷ [] else old.origins.items) (sym c.if-added.false))

pub returns-in_ok-push-clause-only : goal.returns-in_ok-push-clause-only
returns-in_ok-push-clause-only c =
    added_only (row_count c.args.self.now.table.rows) (row_count c.put.new.self.rows) c.in_ok-place.place c.in_ok-place.added c.in_ok-place.ensures.added

pub returns-else-added-clause-only : goal.returns-else-added-clause-only
returns-else-added-clause-only c =
    added_only (row_count c.args.self.now.table.rows) (row_count c.put.new.self.rows) c.in_ok-place.place c.in_ok-place.added c.in_ok-place.ensures.added

pub returns-in_ok-push-clause-has : goal.returns-in_ok-push-clause-has
returns-in_ok-push-clause-has c = λ key stands. (c.in_ok-place.place, c.in_ok-place.ensures.there key stands)

pub returns-else-added-clause-has : goal.returns-else-added-clause-has
returns-else-added-clause-has c = λ key stands. (c.in_ok-place.place, c.in_ok-place.ensures.there key stands)
