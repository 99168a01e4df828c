-- What a table knows of the nodes of a row.
use Rattle.std.proofs.Common.{◌≡◌, ℕ, ◌<◌, map, ◌∙◌, ap, arith}
use Rattle.std.specs.Prelude.{Some, slice_get, slice_index, slice_index_or}
use Rattle.std.proofs.lemmas.List.{get_or-map}
use Rattle.std.proofs.lemmas.Option.{get_or_from_slice_get, slice_get_within}
use Rattle.lrc_exec.specs.declared.spot.Flat.{Flat}
use Rattle.lrc_exec.specs.declared.spot.Spot.{Spot}
use Rattle.lrc_orders.specs.declared.noted.Noted.{Noted}
use Rattle.lrc_orders.proofs.Keeping.{item_at}
use Rattle.lrc_orders_table.specs.declared.rows.Row.{Row}
use Rattle.lrc_orders_table.specs.Rows.{StandsFor}
use Rattle.lrc_orders_table.specs.declared.next.Next.TheVariants.{Stopped}
use Rattle.lrc_orders_table.specs.Nexts.{next_in}
use Rattle.lrc_orders_table.specs.declared.known.Means.{Means}
use Rattle.lrc_orders_table.specs.declared.table.Table.{Table}
use Rattle.lrc_orders_table.specs.Tables.{IsRowOf, IsTable, next_at, next_of}

-- the thread of a node
pub record NodeAt (table : Table) (row : Row) (key : Noted) (node : ℕ) : Type 0 where
  pub spot : Spot
  pub here : slice_get key.state.spots.items node ≡ Some spot
  pub there : slice_get table.rows.threads.keys (slice_index row.threads node) ≡ Some spot

pub node_at : (table : Table) (row : Row) (key : Noted) (node : ℕ) → StandsFor table.rows row key → node < table.rows.nodes → NodeAt table row key node
node_at table row key node s lt =
    let count = s.threads.count in
    let (spot, here) = item_at key.state.spots.items node (omega (arith, lt, count)) in
    record { spot = spot; here = here; there = s.threads.each node lt ∙ here }

pub node_there : (table : Table) (row : Row) (key : Noted) (node : ℕ) (spot : Spot) → StandsFor table.rows row key
    → slice_get key.state.spots.items node ≡ Some spot → slice_get table.rows.threads.keys (slice_index row.threads node) ≡ Some spot
node_there table row key node spot s here =
    let count = s.threads.count in
    let within = slice_get_within key.state.spots.items node spot here in
    s.threads.each node (omega (arith, within, count)) ∙ here

-- what a thread does next
pub next_by_all : (flat : Flat) (table : Table) (number : ℕ) (spot : Spot) → table.nexts.items ≡ map (next_in flat) table.rows.threads.keys
    → slice_get table.rows.threads.keys number ≡ Some spot → next_of table number ≡ next_in flat spot
next_by_all flat table number spot nexts there =
    let keys = table.rows.threads.keys in
    ap (λ l. slice_index_or l number Stopped) nexts
    ∙ get_or-map (next_in flat) keys number spot Stopped (slice_get_within keys number spot there)
    ∙ ap (next_in flat) (get_or_from_slice_get keys number spot spot there)

pub next_there : (means : Means) (table : Table) (number : ℕ) (spot : Spot) → IsTable means table → slice_get table.rows.threads.keys number ≡ Some spot
    → next_of table number ≡ next_in means.flat spot
next_there means table number spot known there = next_by_all means.flat table number spot known.nexts there

pub next_here : (means : Means) (table : Table) (row : Row) (key : Noted) (node : ℕ) (spot : Spot) → IsTable means table → IsRowOf means table row key
    → slice_get key.state.spots.items node ≡ Some spot → next_at table row node ≡ next_in means.flat spot
next_here means table row key node spot known of here =
    next_there means table (slice_index row.threads node) spot known (node_there table row key node spot of.stands here)
