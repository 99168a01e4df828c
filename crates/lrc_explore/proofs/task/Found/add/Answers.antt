use Rattle.std.proofs.Common.{◌≡◌, ◌∙◌, ◌++◌, [], ◌∷◌, sym, ap, subst, arith}
use Rattle.std.specs.Prelude.{All, if◌then◌else◌}
use Rattle.lrc_exec.specs.declared.spot.Flat.{Flat}
use Rattle.lrc_exec.specs.declared.spot.Spot.{Spot}
use Rattle.lrc_orders.specs.Kept.{IsAddedAt}
use Rattle.lrc_orders_live.specs.Live.{forgot}
use Rattle.lrc_orders_settling.specs.declared.step.Step.TheVariants.{Together}
use Rattle.lrc_orders_table.specs.Links.{StandByNode}
use Rattle.lrc_orders_table.specs.Rows.{row_count}
use Rattle.lrc_orders_table.proofs.RowLaws.{row_within}
use Rattle.lrc_explore.specs.declared.task.Found.{Found}
use Rattle.lrc_explore.specs.declared.task.Origin.{Origin}
use Rattle.lrc_explore.proofs.Keys.{found_put, reached_stand}
use Rattle.lrc_explore.proofs.MeansOf.{table_of}
use Rattle.lrc_explore.proofs.task.Found.add.Goals as goal

pub add-requires-clause-table : goal.add-requires-clause-table
add-requires-clause-table c = c.requires.found.table c.means.result c.means.ensures

pub add-requires-clause-bare : goal.add-requires-clause-bare
add-requires-clause-bare c =
    subst (λ l. All (λ (spot : Spot). forgot l spot ≡ spot) c.args.key.state.spots.items) (sym c.means.ensures.live) c.requires.bare

pub add-requires-clause-notes : goal.add-requires-clause-notes
add-requires-clause-notes c =
    let key = c.args.key in
    subst (λ (flat : Flat). StandByNode flat.nodes key.notes.items) (sym c.means.ensures.flat) (reached_stand c.args.task.now key c.requires.reached)

pub returns-in_ok-push-clause-found : goal.returns-in_ok-push-clause-found
returns-in_ok-push-clause-found c =
    let e = c.in_ok-_place.ensures in
    let task = c.args.task.now in
    let old = c.args.self.now in
    let origin : Origin = record { parent = 0; step = Together } in
    let new : Found = record { table = c.add.new.self; origins = c.push.new.self } in
    found_put task old new c.args.key origin c.in_ok-_place._place c.in_ok-_place.added c.requires.found c.requires.reached
    (λ some. absurd (omega (arith, some, c.requires.none)), λ none. c.requires.first) e.widens
    (table_of task c.means.result c.add.new.self c.means.ensures e.table) e.added e.there
    (c.in_ok-push.ensures.items ∙ ap (λ b. if b then old.origins.items ++ origin ∷ [] else old.origins.items) (sym c.if-added.true))

pub returns-in_ok-push-clause-one : goal.returns-in_ok-push-clause-one
returns-in_ok-push-clause-one c =
    let e = c.in_ok-_place.ensures in
    let old = row_count c.args.self.now.table.rows in
    let new = row_count c.add.new.self.rows in
    let added = subst (IsAddedAt old new c.in_ok-_place._place) c.if-added.true e.added in
    omega (arith, added.1, c.requires.none)

pub returns-else-added-clause-one : goal.returns-else-added-clause-one
returns-else-added-clause-one c =
    let e = c.in_ok-_place.ensures in
    let old = row_count c.args.self.now.table.rows in
    let new = row_count c.add.new.self.rows in
    let added = subst (IsAddedAt old new c.in_ok-_place._place) c.if-added.false e.added in
    let within = row_within c.add.new.self.rows c.in_ok-_place._place c.args.key e.there in
    absurd (omega (arith, added, within, c.requires.none))
