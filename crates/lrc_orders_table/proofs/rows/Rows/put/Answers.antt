use Rattle.std.proofs.Common.{◌≡◌, refl, sym, subst}
use Rattle.std.specs.Prelude.{Some, slice_get}
use Rattle.lrc_orders.proofs.Adding.{added_at}
use Rattle.lrc_orders.proofs.Keeping.{grows_not, put_grows}
use Rattle.lrc_orders_memory.proofs.Apart.{shared_not}
use Rattle.lrc_orders_table.specs.declared.rows.Rows.{Rows}
use Rattle.lrc_orders_table.specs.contracts.rows.RowPartialEq.TheImpl.{eq-value as row_eq}
use Rattle.lrc_orders_table.specs.RowHash.{row_is}
use Rattle.lrc_orders_table.specs.Rows.{WidensRows}
use Rattle.lrc_orders_table.proofs.Linking.{notes_not}
use Rattle.lrc_orders_table.proofs.RowLaws.{stands_grown}
use Rattle.lrc_orders_table.proofs.rows.Rows.put.Goals as goal

pub returns-clause-widens : goal.returns-clause-widens
returns-clause-widens c =
    let old = c.args.self.now in
    record {
      nodes = refl;
      threads = grows_not old.threads.keys old.threads.keys refl;
      shared = shared_not old.shared;
      notes = notes_not old.notes;
      rows = put_grows _ old.rows.keys c.insert_full.new.self.keys _ c.in_ok-place.ensures.keys;
    }

pub returns-clause-distinct : goal.returns-clause-distinct
returns-clause-distinct c = record {
  threads = c.requires.threads;
  shared = c.requires.shared;
  notes = c.requires.notes;
  rows = c.in_ok-place.ensures.unique;
}

pub returns-clause-has : goal.returns-clause-has
returns-clause-has c =
    let s = c.in_ok-place.ensures.stored in
    subst (λ r. slice_get c.insert_full.new.self.keys c.in_ok-place.place ≡ Some r) (sym (row_is c.args.row s.0 s.2)) s.1

pub returns-clause-there : goal.returns-clause-there
returns-clause-there c key stands =
    let old = c.args.self.now in
    let new : Rows = record old { rows = c.insert_full.new.self } in
    let wide : WidensRows old new = record {
      nodes = refl;
      threads = grows_not old.threads.keys old.threads.keys refl;
      shared = shared_not old.shared;
      notes = notes_not old.notes;
      rows = put_grows _ old.rows.keys c.insert_full.new.self.keys _ c.in_ok-place.ensures.keys;
    } in
    let s = c.in_ok-place.ensures.stored in
    let same : c.args.row ≡ s.0 = row_is c.args.row s.0 s.2 in
    record {
      row = c.args.row;
      there = subst (λ r. slice_get new.rows.keys c.in_ok-place.place ≡ Some r) (sym same) s.1;
      stands = stands_grown old new c.args.row key wide stands;
    }

pub returns-clause-added : goal.returns-clause-added
returns-clause-added c =
    let e = c.in_ok-place.ensures in
    added_at row_eq.it c.args.self.now.rows.keys c.insert_full.new.self.keys c.args.row c.in_ok-place.place _ c.in_ok-place.added refl e.added e.keys e.index
