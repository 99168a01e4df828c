use Rattle.std.proofs.Common.{◌≡◌, ◌∙◌, ◌<◌, length, sym, ap, subst, arith}
use Rattle.std.specs.Prelude.{slice_get, slice_index}
use Rattle.std.proofs.lemmas.Option.{same_Some, slice_get_within}
use Rattle.lrc_orders.specs.declared.noted.Noted.{Noted}
use Rattle.lrc_orders.proofs.Faults.{fault_up}
use Rattle.lrc_orders.proofs.Keeping.{stands_on}
use Rattle.lrc_orders_memory.proofs.Apart.{shared_kept}
use Rattle.lrc_orders_table.specs.Links.{AreNotesAt, AreNotesSound}
use Rattle.lrc_orders_table.specs.declared.table.After.{After}
use Rattle.lrc_orders_table.specs.declared.table.Table.{Table}
use Rattle.lrc_orders_table.specs.Going.{IsLongAct}
use Rattle.lrc_orders_table.specs.Shared.{Fits}
use Rattle.lrc_orders_table.specs.Tables.{IsRowOf, IsTable, KeepsIfLong, KeepsRows}
use Rattle.lrc_orders_table.proofs.Acting.{fits_here, has_gone, me_at}
use Rattle.lrc_orders_table.proofs.Entries.{value_at}
use Rattle.lrc_orders_table.proofs.Linking.{notes_grown}
use Rattle.lrc_orders_table.proofs.Keeping.{keeps_again, keeps_notes, keeps_shared, table_notes, table_shared}
use Rattle.lrc_orders_table.proofs.RowNodes.{next_here, next_there, node_at, node_there}
use Rattle.lrc_orders_table.proofs.table.Table.gone.Goals as goal

pub shared_after-requires-clause-next : goal.shared_after-requires-clause-next
shared_after-requires-clause-next c =
    let means = c.args.means.now in
    let old = c.args.self.now in
    let one = c.after.new.self in
    let row = c.args.row.now in
    let node = c.args.node in
    let r = c.requires.row in
    let e = c.in_ok-place.ensures in
    let here = node_there old row r.key node r.spot r.of.stands r.here in
    let there = stands_on (slice_index row.threads node) r.spot e.keeps.widens.threads here in
    record {
      asked = record { thread = slice_index row.threads node; value = c.args.value };
      after = e.there.0;
      comes = e.there.1;
      spot = r.spot;
      there = there;
      next_is =
          c.next-next.ensures.at ∙ next_there means old (slice_index row.threads node) r.spot c.requires.table here
          ∙ sym (next_there means one (slice_index row.threads node) r.spot e.table there);
      node_is = me_at means.flat r.key.state node r.spot r.of.valid r.here;
    }

pub shared_after-requires-clause-fits : goal.shared_after-requires-clause-fits
shared_after-requires-clause-fits c =
    let means = c.args.means.now in
    let r = c.requires.row in
    let words = r.key.state.memory.items in
    let holders = r.key.state.holders.items in
    let old = c.args.self.now.rows.shared in
    let next = c.next-next.ensures.at ∙ next_here means c.args.self.now c.args.row.now r.key c.args.node r.spot c.requires.table r.of r.here in
    record {
      words = words;
      holders = holders;
      at = shared_kept old c.after.new.self.rows.shared c.args.row.now.shared words holders c.in_ok-place.ensures.keeps.widens.shared r.of.stands.shared;
      fits = subst (λ n. Fits n words holders) (sym next) (fits_here means.flat r.key.state r.of.valid r.spot);
    }

pub notes-requires-clause-sound : goal.notes-requires-clause-sound
notes-requires-clause-sound c =
    subst AreNotesSound (sym (ap (λ (t : Table). t.rows.notes) c.in_ok-shared.ensures.others)) c.in_ok-place.ensures.table.distinct.notes

pub notes-requires-clause-there : goal.notes-requires-clause-there
notes-requires-clause-there c =
    let row = c.args.row.now in
    let r = c.requires.row in
    let acts = r.key.notes.items in
    let one = c.after.new.self.rows.notes in
    let grown : AreNotesAt one row.notes acts = notes_grown c.args.self.now.rows.notes one row.notes acts c.in_ok-place.ensures.keeps.widens.notes r.of.stands.notes in
    (acts, subst (λ all. AreNotesAt all row.notes acts) (sym (ap (λ (t : Table). t.rows.notes) c.in_ok-shared.ensures.others)) grown)

pub notes-requires-clause-node : goal.notes-requires-clause-node
notes-requires-clause-node c =
    let r = c.requires.row in
    let within = slice_get_within r.key.state.spots.items c.args.node r.spot r.here in
    let count = r.of.stands.threads.count in
    let few = r.of.stands.few in
    omega (arith, within, count, few)

pub notes-requires-clause-place : goal.notes-requires-clause-place
notes-requires-clause-place c =
    let there = c.in_ok-place.ensures.there in
    let same = ap (λ (t : Table). length t.afters.entries) c.in_ok-shared.ensures.others in
    let within = slice_get_within c.after.new.self.afters.entries c.in_ok-place.place _ there.1 in
    omega (arith, within, same)

pub index-after-requires : goal.index-after-requires
index-after-requires c =
    let there = c.in_ok-place.ensures.there in
    let same = ap (λ (t : Table). length t.afters.entries) c.in_ok-shared.ensures.others in
    let again = ap (λ (t : Table). length t.afters.entries) c.in_ok-notes.ensures.others in
    let within = slice_get_within c.after.new.self.afters.entries c.in_ok-place.place _ there.1 in
    omega (arith, within, same, again)

pub offset_bounds-threads-node : goal.offset_bounds-threads-node
offset_bounds-threads-node c =
    let r = c.requires.row in
    let within = slice_get_within r.key.state.spots.items c.args.node r.spot r.here in
    let count = r.of.stands.threads.count in
    let few = r.of.stands.few in
    let less : c.args.node < 16 = omega (arith, within, count, few) in
    omega (arith, less)

pub bounds-threads-node : goal.bounds-threads-node
bounds-threads-node c =
    let r = c.requires.row in
    let within = slice_get_within r.key.state.spots.items c.args.node r.spot r.here in
    let count = r.of.stands.threads.count in
    let few = r.of.stands.few in
    omega (arith, within, count, few)

pub returns-clause-table : goal.returns-clause-table
returns-clause-table c =
    let means = c.args.means.now in
    let one = c.after.new.self in
    let two = c.shared_after.new.self in
    let last = c.notes.new.self in
    let s = c.in_ok-shared.ensures in
    let n = c.in_ok-notes.ensures in
    table_notes means two last (table_shared means one two c.in_ok-place.ensures.table s.others s.distinct s.keeps s.changes) n.others n.sound n.grows

pub returns-clause-keeps : goal.returns-clause-keeps
returns-clause-keeps c =
    let means = c.args.means.now in
    let one = c.after.new.self in
    let two = c.shared_after.new.self in
    let last = c.notes.new.self in
    let e = c.in_ok-place.ensures in
    let s = c.in_ok-shared.ensures in
    let n = c.in_ok-notes.ensures in
    let known = table_shared means one two e.table s.others s.distinct s.keeps s.changes in
    keeps_again e.keeps
    (keeps_again (keeps_shared means one two e.table s.others s.distinct s.keeps) (keeps_notes means two last known n.others n.sound n.grows))

pub returns-clause-gone : goal.returns-clause-gone
returns-clause-gone c = λ key of.
    let means = c.args.means.now in
    let old = c.args.self.now in
    let one = c.after.new.self in
    let two = c.shared_after.new.self in
    let last = c.notes.new.self in
    let row = c.args.row.now in
    let node = c.args.node in
    let place = c.in_ok-place.place in
    let e = c.in_ok-place.ensures in
    let s = c.in_ok-shared.ensures in
    let n = c.in_ok-notes.ensures in
    let known = e.table in
    let after : After = e.there.0 in
    let second : KeepsRows one two = keeps_shared means one two known s.others s.distinct s.keeps in
    let known_two : IsTable means two = table_shared means one two known s.others s.distinct s.keeps s.changes in
    let third : KeepsRows two last = keeps_notes means two last known_two n.others n.sound n.grows in
    let at = node_at old row key node of.stands (let r = c.requires.row in
    let within = slice_get_within r.key.state.spots.items node r.spot r.here in
    let count = r.of.stands.threads.count in
    omega (arith, within, count)) in
    let words = key.state.memory.items in
    let holders = key.state.holders.items in
    let entries_two = ap (λ (t : Table). slice_get t.afters.entries place) s.others in
    let entries_last = ap (λ (t : Table). slice_get t.afters.entries place) n.others in
    let comes : c.index-after.result.now ≡ after =
    same_Some c.index-after.result.now after
    (sym c.index-after.ensures ∙ value_at last.afters.entries place _ after (entries_last ∙ entries_two ∙ e.there.1)) in
    has_gone means old one two last row key node c.args.value place c.in_ok-shared.shared c.in_ok-notes.notes c.index-after.result.now.thread at.spot
    c.next-next.result known e.keeps second third of at.here after e.there.1 (ap (λ (a : After). a.thread) comes)
    (c.next-next.ensures.at ∙ next_here means old row key node at.spot c.requires.table of at.here)
    (s.there words holders _ after (shared_kept old.rows.shared one.rows.shared row.shared words holders e.keeps.widens.shared of.stands.shared) e.there.1)
    (λ on. n.noted on key.notes.items _ after
    (subst (λ all. AreNotesAt all row.notes key.notes.items) (sym (ap (λ (t : Table). t.rows.notes) s.others))
    (notes_grown old.rows.notes one.rows.notes row.notes key.notes.items e.keeps.widens.notes of.stands.notes)) (entries_two ∙ e.there.1))
    n.bare c.index-after.result.now.traps (ap (λ (a : After). a.traps) comes)

pub returns-in_err-place-clause-faults : goal.returns-in_err-place-clause-faults
returns-in_err-place-clause-faults c =
    let means = c.args.means.now in
    let old = c.args.self.now in
    let row = c.args.row.now in
    let node = c.args.node in
    fault_up c.from_residual.result c.in_err-place.field-0.0
    (λ f. (key : Noted) → IsRowOf means old row key → IsLongAct means key node c.args.value f) c.from_residual.ensures.1
    (λ key of.
    let long = c.in_err-place.ensures.faults in
    record { nodes = long.nodes; many = λ e spot here. long.many e spot (node_there old row key node spot of.stands here) })

pub returns-in_err-place-clause-long : goal.returns-in_err-place-clause-long
returns-in_err-place-clause-long c =
    fault_up c.from_residual.result c.in_err-place.field-0.0
    (KeepsIfLong c.args.means.now c.args.self.now c.after.new.self) c.from_residual.ensures.1
    c.in_err-place.ensures.long
