use Rattle.std.proofs.Common.{◌≡◌, ◌∙◌, ◌≤◌, length, refl, sym, ap, subst}
use Rattle.std.specs.Prelude.{slice_get}
use Rattle.lrc_orders.proofs.Keeping.{grows_not}
use Rattle.lrc_orders_memory.specs.Sharing.{IsSharedAt}
use Rattle.lrc_orders_table.specs.declared.rows.Rows.{Rows}
use Rattle.lrc_orders_table.specs.Links.{AreNotesAt, StandByNode}
use Rattle.lrc_orders_table.specs.Rows.{AddsThreads, AreThreadsAt, WidensRows}
use Rattle.lrc_orders_table.proofs.ByNode.{stand_further}
use Rattle.lrc_orders_table.proofs.RowLaws.{rows_again}
use Rattle.lrc_orders_table.proofs.rows.Rows.add.Goals as goal

pub add-requires-clause-stand : goal.add-requires-clause-stand
add-requires-clause-stand c =
    let few = subst (λ n. n ≤ 16) c.requires.nodes (subst (λ l. length l ≤ 16) c.deref.ensures.value c.in_ok-threads.ensures.few) in
    subst (StandByNode 16) (sym c.deref-3.ensures.value) (stand_further c.args.self.now.nodes 16 c.args.noted.notes.items few c.requires.notes)

pub put-requires : goal.put-requires
put-requires c = record {
  threads = c.in_ok-threads.ensures.distinct;
  shared = c.in_ok-shared.ensures.distinct;
  notes = c.in_ok-notes.ensures.sound;
  rows = c.requires.distinct.rows;
}

pub returns-clause-widens : goal.returns-clause-widens
returns-clause-widens c =
    let old = c.args.self.now in
    let mid : Rows = record {
      nodes = old.nodes;
      threads = c.threads_of.new.threads;
      shared = c.number_of.new.self;
      notes = c.add.new.self;
      rows = old.rows;
    } in
    let first : WidensRows old mid = record {
      nodes = refl;
      threads = c.in_ok-threads.ensures.grows;
      shared = c.in_ok-shared.ensures.keeps;
      notes = c.in_ok-notes.ensures.grows;
      rows = grows_not old.rows.keys old.rows.keys refl;
    } in
    rows_again first c.in_ok-place.ensures.widens

pub returns-clause-there : goal.returns-clause-there
returns-clause-there c =
    let old = c.args.self.now in
    let key = c.args.noted in
    let keys = c.threads_of.new.threads.keys in
    c.in_ok-place.ensures.there key (record {
      few = subst (λ n. n ≤ 16) c.requires.nodes (subst (λ l. length l ≤ 16) c.deref.ensures.value c.in_ok-threads.ensures.few);
      threads = subst (λ n. AreThreadsAt keys n c.in_ok-threads.threads key.state.spots.items) c.requires.nodes
          (subst (λ l. AreThreadsAt keys (length l) c.in_ok-threads.threads l) c.deref.ensures.value c.in_ok-threads.ensures.there);
      shared = subst (λ l. IsSharedAt c.number_of.new.self c.in_ok-shared.shared l key.state.holders.items) c.deref-2.ensures.value
          c.in_ok-shared.ensures.there;
      notes = subst (AreNotesAt c.add.new.self c.in_ok-notes.notes) c.deref-3.ensures.value c.in_ok-notes.ensures.there;
      counted = c.requires.counted;
    })

pub returns-clause-only : goal.returns-clause-only
returns-clause-only c = λ k x at.
    let old = c.args.self.now.threads.keys in
    let mid = c.threads_of.new.threads.keys in
    let same : c.put.new.self.threads.keys ≡ mid = ap (λ (r : Rows). r.threads.keys) c.in_ok-place.ensures.parts in
    subst (λ l. AddsThreads old mid l) c.deref.ensures.value c.in_ok-threads.ensures.only k x (ap (λ l. slice_get l k) (sym same) ∙ at)
