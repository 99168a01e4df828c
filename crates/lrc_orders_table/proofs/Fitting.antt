-- What is known of a node of a row, and of what it reads or acquires next, is there.
use Rattle.std.proofs.Common.{◌≡◌, ℕ, ◌<◌, ◌∙◌, length, sym, ap, subst, arith}
use Rattle.std.specs.Prelude.{slice_index}
use Rattle.std.proofs.lemmas.List.{length-map}
use Rattle.std.proofs.lemmas.Option.{slice_get_within}
use Rattle.lrc_orders_memory.specs.Sharing.{HasLock, HasWord}
use Rattle.lrc_orders_table.specs.declared.rows.Row.{Row}
use Rattle.lrc_orders_table.specs.declared.next.Next.{Next}
use Rattle.lrc_orders_table.specs.declared.next.Next.TheVariants.{Reads, Acquires}
use Rattle.lrc_orders_table.specs.declared.table.Table.{Table}
use Rattle.lrc_orders_table.specs.Nexts.{next_in}
use Rattle.lrc_orders_table.specs.Shared.{Fits}
use Rattle.lrc_orders_table.specs.Tables.{IsKnown, next_at}
use Rattle.lrc_orders_table.proofs.Acting.{fits_here}
use Rattle.lrc_orders_table.proofs.RowNodes.{NodeAt, next_here, node_at}

module _ (table : Table) (row : Row) (node : ℕ) (r : IsKnown table row) (lt : node < table.rows.nodes) where
  at : NodeAt table row r.key node
  at = node_at table row r.key node r.of.stands lt

  -- what it does next
  pub next_within : slice_index row.threads node < length table.nexts.items
  next_within =
      let keys = table.rows.threads.keys in
      let within = slice_get_within keys (slice_index row.threads node) at.spot at.there in
      let long = ap (λ l. length l) r.known.nexts in
      let same = length-map keys (next_in r.means.flat) in
      omega (arith, within, long, same)

  fits : (next : Next) → next_at table row node ≡ next → Fits next r.key.state.memory.items r.key.state.holders.items
  fits next is =
      subst (λ n. Fits n r.key.state.memory.items r.key.state.holders.items)
      (sym (next_here r.means table row r.key node at.spot r.known r.of at.here) ∙ is) (fits_here r.means.flat r.key.state r.of.valid at.spot)

  -- the word, and the lock
  pub word_there : (word : ℕ) → next_at table row node ≡ Reads word → HasWord table.rows.shared row.shared word
  word_there word is = record {
    words = r.key.state.memory.items;
    holders = r.key.state.holders.items;
    at = r.of.stands.shared;
    within = fits (Reads word) is;
  }

  pub lock_there : (lock : ℕ) → next_at table row node ≡ Acquires lock → HasLock table.rows.shared row.shared lock
  lock_there lock is = record {
    words = r.key.state.memory.items;
    holders = r.key.state.holders.items;
    at = r.of.stands.shared;
    within = fits (Acquires lock) is;
  }
