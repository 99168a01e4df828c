use Rattle.std.proofs.Common.{◌≡◌, ◌∙◌, List, length, refl, sym, subst}
use Rattle.std.specs.Prelude.{Some, slice_get}
use Rattle.lrc_exec.specs.declared.spot.Spot.{Spot}
use Rattle.lrc_orders.proofs.Adding.{added_at}
use Rattle.lrc_orders.proofs.Keeping.{put_grows}
use Rattle.lrc_lazy_known.proofs.Tidy.{knowledge_one}
use Rattle.lrc_lazy_search.specs.declared.found.Row.{Row}
use Rattle.lrc_lazy_search.specs.contracts.found.RowPartialEq.TheImpl.{eq-value as row_eq}
use Rattle.lrc_lazy_search.specs.Parts.{AreNotesAt, AreThreadsAt}
use Rattle.lrc_lazy_search.specs.RowHash.{row_is}
use Rattle.lrc_lazy_search.proofs.FoundLaws.{common_there}
use Rattle.lrc_lazy_search.proofs.found.Found.add.Goals as goal

pub returns-clause-distinct : goal.returns-clause-distinct
returns-clause-distinct c = record {
  threads = c.in_ok-threads.ensures.distinct;
  commons = c.in_ok-common-2.ensures.distinct;
  notes = c.in_ok-notes.ensures.distinct;
  rows = c.in_ok-place.ensures.unique;
}

pub returns-clause-widens : goal.returns-clause-widens
returns-clause-widens c = record {
  threads = c.in_ok-threads.ensures.grows;
  commons = c.in_ok-common-2.ensures.grows;
  notes = c.in_ok-notes.ensures.grows;
  rows = put_grows _ c.args.self.now.rows.keys c.insert_full.new.self.keys _ c.in_ok-place.ensures.keys;
}

pub returns-clause-there : goal.returns-clause-there
returns-clause-there c =
    let flat = c.args.flat.now in
    let key = c.args.state.now in
    let common = c.in_ok-common.common in
    let e = c.in_ok-common.ensures in
    let s = c.in_ok-place.ensures.stored in
    let keys = c.threads_of.new.threads.keys in
    let row : Row = record { threads = c.in_ok-threads.threads; common = c.in_ok-common-2.common; notes = c.in_ok-notes.notes } in
    let known = knowledge_one key.knowledge common.knowledge c.requires.neat.tidy (e.tidy c.requires.neat.tidy) e.known in
    record {
      row = row;
      there = subst (λ r. slice_get c.insert_full.new.self.keys c.in_ok-place.place ≡ Some r) (sym (row_is row s.0 s.2)) s.1;
      stands = record {
        threads = subst (λ n. AreThreadsAt keys n row.threads key.state.spots.items) c.requires.state.spots
            (subst (λ (l : List Spot). AreThreadsAt keys (length l) row.threads l) c.deref.ensures.value c.in_ok-threads.ensures.there);
        common = common_there c.common_number.new.all.keys row.common common key c.in_ok-common-2.ensures.there e.holders e.arrivals known;
        notes = subst (AreNotesAt c.notes_number.new.all.keys row.notes) (c.in_ok-acts.ensures ∙ c.deref-2.ensures.value) c.in_ok-notes.ensures.there;
        neat = c.requires.neat;
      };
    }

pub returns-clause-added : goal.returns-clause-added
returns-clause-added c =
    let e = c.in_ok-place.ensures in
    let row : Row = record { threads = c.in_ok-threads.threads; common = c.in_ok-common-2.common; notes = c.in_ok-notes.notes } in
    added_at row_eq.it c.args.self.now.rows.keys c.insert_full.new.self.keys row c.in_ok-place.place _ c.in_ok-place.added refl e.added e.keys e.index
