use Rattle.std.proofs.Common.{◌≡◌, ◌≤◌, ◌∙◌, List, length, map, refl, sym, ap, subst}
use Rattle.std.specs.Prelude.{All}
use Rattle.lrc_exec.specs.declared.spot.Spot.{Spot}
use Rattle.lrc_orders_live.specs.Live.{forgot}
use Rattle.lrc_orders_table.specs.Links.{StandByNode}
use Rattle.lrc_orders_table.specs.Nexts.{next_in}
use Rattle.lrc_orders_table.specs.declared.table.Table.{Table}
use Rattle.lrc_orders_table.proofs.Keeping.{IsPlaced, table_on, threads_more}
use Rattle.lrc_orders_table.proofs.table.Table.add.Goals as goal

pub add-requires-clause-notes : goal.add-requires-clause-notes
add-requires-clause-notes c = subst (λ n. StandByNode n c.args.noted.notes.items) (sym c.requires.table.nodes) c.requires.notes

pub complete-requires-clause-placed : goal.complete-requires-clause-placed
complete-requires-clause-placed c =
    let flat = c.args.means.now.flat in
    let P : List Spot → Type 0 = λ l. All (λ (spot : Spot). spot.place ≤ length flat.code.now) l in
    subst P (sym c.as_slice.ensures.keys)
    (threads_more (IsPlaced flat) c.args.self.now.rows.threads.keys c.add.new.self.threads.keys c.args.noted.state.spots.items c.in_ok-place.ensures.only
    c.requires.table.placed c.requires.state.within)

pub returns-clause-table : goal.returns-clause-table
returns-clause-table c =
    let flat = c.args.means.now.flat in
    let old = c.args.self.now in
    let new : Table = record old { rows = c.add.new.self; nexts = c.complete.new.nexts } in
    let IsBare : Spot → Type 0 = λ s. forgot c.args.means.now.live.now s ≡ s in
    let placed =
    threads_more (IsPlaced flat) old.rows.threads.keys c.add.new.self.threads.keys c.args.noted.state.spots.items c.in_ok-place.ensures.only
    c.requires.table.placed c.requires.state.within in
    let bare =
    threads_more IsBare old.rows.threads.keys c.add.new.self.threads.keys c.args.noted.state.spots.items c.in_ok-place.ensures.only
    c.requires.table.bare c.requires.bare in
    table_on c.args.means.now old new c.requires.table c.in_ok-place.ensures.widens c.in_ok-place.ensures.distinct placed bare
    (c.in_ok-complete.ensures ∙ ap (map (next_in flat)) c.as_slice.ensures.keys) refl refl
