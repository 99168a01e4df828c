-- What steps from rows are taken by, and what is known by it.
use Rattle.std.proofs.Common.{◌≡◌, ◌≤◌, List, refl, sym, ap, ◌∙◌, subst, length, map}
use Rattle.std.specs.Prelude.{All, Some, slice_get}
use Rattle.lrc_exec.specs.declared.spot.Flat.{Flat}
use Rattle.lrc_exec.specs.declared.spot.Spot.{Spot}
use Rattle.lrc_orders_live.specs.Live.{forgot}
use Rattle.lrc_orders_table.specs.Rows.{AreRowsDistinct}
use Rattle.lrc_orders_table.specs.Nexts.{SettlesSo, next_in}
use Rattle.lrc_orders_table.specs.declared.known.Means.{Means}
use Rattle.lrc_orders_table.specs.declared.table.After.{After}
use Rattle.lrc_orders_table.specs.declared.table.Asked.{Asked}
use Rattle.lrc_orders_table.specs.declared.table.Table.{Table}
use Rattle.lrc_orders_table.specs.Tables.{IsAfter, IsTable}
use Rattle.lrc_explore.specs.declared.task.Task.{Task}
use Rattle.lrc_explore.specs.Reached.{IsMeansOf, IsTableOf}

abbrev pub means_of : Task → Means
means_of task =
    record { flat = task.flat; live = record { ref_ptr = (0, 0); now = task.live.items }; looked = task.looked; noting = task.noting }

pub means_are : (task : Task) → IsMeansOf task (means_of task)
means_are task = record { flat = refl; live = refl; looked = refl; noting = refl }

pub table_distinct : (task : Task) (table : Table) → IsTableOf task table → AreRowsDistinct table.rows
table_distinct task table is = (is (means_of task) (means_are task)).distinct

-- what is known does not depend on how much is looked at
module _ (a b : Means) (flat : a.flat ≡ b.flat) (live : a.live.now ≡ b.live.now) where
  after_by : (keys : List Spot) (asked : Asked) (after : After) → IsAfter a keys asked after → IsAfter b keys asked after
  after_by keys asked after is = record {
    spot = is.spot;
    there = is.there;
    settled = is.settled;
    so = subst (λ f. SettlesSo f is.spot asked.value is.settled) flat is.so;
    kept = subst (λ l. slice_get keys after.thread ≡ Some (forgot l is.settled.spot)) live is.kept;
    deeds = is.deeds;
    traps = is.traps;
  }

  pub table_by : (table : Table) → IsTable a table → IsTable b table
  table_by table is = record {
    distinct = is.distinct;
    nodes = is.nodes ∙ ap (λ (f : Flat). f.nodes) flat;
    placed = subst (λ (f : Flat). All (λ spot. spot.place ≤ length f.code.now) table.rows.threads.keys) flat is.placed;
    bare = subst (λ l. All (λ spot. forgot l spot ≡ spot) table.rows.threads.keys) live is.bare;
    nexts = is.nexts ∙ ap (λ f. map (next_in f) table.rows.threads.keys) flat;
    afters = λ k asked after at. after_by table.rows.threads.keys asked after (is.afters k asked after at);
    changes = is.changes;
  }

-- so it is of a task
pub table_of : (task : Task) (means : Means) (table : Table) → IsMeansOf task means → IsTable means table → IsTableOf task table
table_of task means table is known other also = table_by means other (is.flat ∙ sym also.flat) (is.live ∙ sym also.live) table known
