use Rattle.std.proofs.Common.{◌≡◌, ◌≤◌, ◌∙◌, [], ◌∷◌, List, length, map, refl, sym, ap, subst}
use Rattle.std.specs.Prelude.{All}
use Rattle.lrc_exec.specs.declared.spot.Spot.{Spot}
use Rattle.lrc_orders.proofs.Keeping.{grows_not}
use Rattle.lrc_orders_live.specs.Live.{forgot}
use Rattle.lrc_orders_table.specs.Rows.{AreRowsDistinct, WidensRows}
use Rattle.lrc_orders_table.specs.Nexts.{next_in}
use Rattle.lrc_orders_memory.proofs.Apart.{shared_not}
use Rattle.lrc_orders_table.specs.declared.table.Table.{Table}
use Rattle.lrc_orders_table.proofs.Keeping.{IsPlaced, table_on, threads_more, threads_one}
use Rattle.lrc_orders_table.proofs.Linking.{notes_not}
use Rattle.lrc_orders_table.proofs.table.Table.number.Goals as goal

pub complete-requires-clause-placed : goal.complete-requires-clause-placed
complete-requires-clause-placed c =
    let flat = c.args.means.now.flat in
    let spot = c.args.spot in
    let P : List Spot → Type 0 = λ l. All (λ (s : Spot). s.place ≤ length flat.code.now) l in
    subst P (sym c.as_slice.ensures.keys)
    (threads_more (IsPlaced flat) c.args.self.now.rows.threads.keys c.thread_number.new.threads.keys (spot ∷ []) c.in_ok-number.ensures.only
    c.requires.table.placed (threads_one (IsPlaced flat) spot c.requires.placed))

pub returns-clause-table : goal.returns-clause-table
returns-clause-table c =
    let flat = c.args.means.now.flat in
    let live = c.args.means.now.live.now in
    let IsBare : Spot → Type 0 = λ s. forgot live s ≡ s in
    let spot = c.args.spot in
    let old = c.args.self.now in
    let known = c.requires.table in
    let new : Table = record old { rows = record old.rows { threads = c.thread_number.new.threads }; nexts = c.complete.new.nexts } in
    let wide : WidensRows old.rows new.rows = record {
      nodes = refl;
      threads = c.in_ok-number.ensures.grows;
      shared = shared_not old.rows.shared;
      notes = notes_not old.rows.notes;
      rows = grows_not old.rows.rows.keys old.rows.rows.keys refl;
    } in
    let distinct : AreRowsDistinct new.rows = record {
      threads = c.in_ok-number.ensures.distinct;
      shared = known.distinct.shared;
      notes = known.distinct.notes;
      rows = known.distinct.rows;
    } in
    table_on c.args.means.now old new known wide distinct
    (threads_more (IsPlaced flat) old.rows.threads.keys c.thread_number.new.threads.keys (spot ∷ []) c.in_ok-number.ensures.only known.placed
    (threads_one (IsPlaced flat) spot c.requires.placed))
    (threads_more IsBare old.rows.threads.keys c.thread_number.new.threads.keys (spot ∷ []) c.in_ok-number.ensures.only known.bare
    (threads_one IsBare spot c.requires.bare))
    (c.in_ok-complete.ensures ∙ ap (map (next_in flat)) c.as_slice.ensures.keys) refl refl
