use Rattle.std.proofs.Common.{◌≡◌, ◌∙◌, false, refl, sym, ap, subst}
use Rattle.std.specs.Prelude.{◌||◌, None, option_copied, slice_get}
use Rattle.std.specs.List.{list_any}
use Rattle.std.proofs.lemmas.Map.Entries.{place_from_lookup}
use Rattle.std.proofs.lemmas.Option.{same_Some}
use Rattle.indexmap.specs.IndexMap.{get}
use Rattle.indexmap.proofs.CallerLemmas.{insert_entry-new}
use Rattle.lrc_orders.proofs.Keeping.{grows_not}
use Rattle.lrc_orders_settling.specs.Gone.{freed}
use Rattle.lrc_orders_memory.specs.Sharing.{IsSharedAt}
use Rattle.lrc_orders_memory.proofs.Apart.{shared_kept}
use Rattle.lrc_orders_table.specs.declared.table.After.{After}
use Rattle.lrc_orders_table.specs.declared.table.Change.{Change}
use Rattle.lrc_orders_table.specs.declared.table.Table.{Table}
use Rattle.lrc_orders_table.specs.contracts.table.ChangePartialEq.TheImpl.{eq-value as change_eq}
use Rattle.lrc_orders_table.specs.Shared.{holders_then, is_change, is_release, words_then}
use Rattle.lrc_orders_table.specs.Tables.{IsChange}
use Rattle.lrc_orders_table.proofs.Entries.{change_is, value_at}
use Rattle.lrc_orders_table.proofs.Keeping.{changes_more}
use Rattle.lrc_orders_table.proofs.Sharing.{change_gives, same_holders, same_words}
use Rattle.lrc_orders_table.proofs.table.Table.shared_after.Goals as goal

pub returns-then-not-changes-clause-there : goal.returns-then-not-changes-clause-there
returns-then-not-changes-clause-there c = λ words holders asked after at entry.
    let node = c.args.node in
    let next = c.args.next in
    let comes : c.index.result.now ≡ after =
    same_Some c.index.result.now after (sym c.index.ensures ∙ value_at c.args.self.now.afters.entries c.args.place asked after entry) in
    let deeds : c.deref.result.now ≡ after.deeds.items = c.deref.ensures.value ∙ ap (λ (a : After). a.deeds.items) comes in
    let none : (is_change next || list_any is_release after.deeds.items) ≡ false =
    ap (λ ds. is_change next || list_any is_release ds) (sym deeds) ∙ sym c.changes.ensures ∙ c.if-not-changes.true in
    let all = c.args.self.now.rows.shared in
    subst (λ w. IsSharedAt all c.args.shared w (freed after.deeds.items (holders_then node next holders)))
    (sym (same_words node next after.deeds.items none words))
    (subst (λ h. IsSharedAt all c.args.shared words h) (sym (same_holders node next after.deeds.items none holders)) at)

pub returns-in-Some-clause-there : goal.returns-in-Some-clause-there
returns-in-Some-clause-there c = λ words holders asked after at entry.
    let table = c.args.self.now in
    let change : Change = record { shared = c.args.shared; after = c.in_ok-short.field-0 } in
    let (i, key, found, same) = place_from_lookup (change_eq.it change) table.changes.entries c.in-Some.number.now
    (sym c.get.ensures.value ∙ ap option_copied c.in-Some.is) in
    let is : IsChange table change c.in-Some.number.now =
    subst (λ k. IsChange table k c.in-Some.number.now) (sym (change_is change key same)) (c.requires.changes i key c.in-Some.number.now found) in
    change_gives table c.args.shared c.args.place c.args.node c.in-Some.number.now c.args.next
    (subst (λ n. IsChange table (record { shared = c.args.shared; after = n }) c.in-Some.number.now) c.in_ok-short.ensures is) c.requires.next words holders
    asked after at entry

pub returns-clause-changes : goal.returns-clause-changes
returns-clause-changes c =
    let old = c.args.self.now in
    let node = c.args.node in
    let next = c.args.next in
    let n = c.requires.next in
    let new : Table = record old {
      rows = record old.rows { shared = c.changed.new.all };
      changes = c.insert.new.self;
    } in
    let change : Change = record { shared = c.args.shared; after = c.in_ok-short.field-0 } in
    let number = c.in_ok-number.number in
    let fits = c.requires.fits in
    let words = fits.words in
    let holders = fits.holders in
    let all = c.changed.new.all in
    let r0 = c.in_ok-number.ensures.there words holders fits.at in
    let comes : c.index.result.now ≡ n.after =
    same_Some c.index.result.now n.after (sym c.index.ensures ∙ value_at old.afters.entries c.args.place n.asked n.after n.comes) in
    let deeds : c.deref-2.result.now ≡ n.after.deeds.items = c.deref-2.ensures.value ∙ ap (λ (a : After). a.deeds.items) comes in
    let r1 = subst (λ ds. IsSharedAt all number (words_then next words) (freed ds (holders_then node next holders))) deeds r0 in
    let r2 = subst (λ m. IsSharedAt all number (words_then next words) (freed n.after.deeds.items (holders_then m next holders))) n.node_is r1 in
    let is : IsChange new change number = record {
      asked = n.asked;
      after = n.after;
      comes = ap (slice_get old.afters.entries) c.in_ok-short.ensures ∙ n.comes;
      spot = n.spot;
      there = n.there;
      words = words;
      holders = holders;
      before = shared_kept old.rows.shared all c.args.shared words holders c.in_ok-number.ensures.keeps fits.at;
      becomes = subst (λ m. IsSharedAt all number (words_then m words) (freed n.after.deeds.items (holders_then n.spot.me m holders))) n.next_is r2;
    } in
    let absent : get change_eq.it old.changes change ≡ None = sym c.get.ensures.value ∙ ap option_copied c.in_default.is in
    changes_more old new change number refl refl c.in_ok-number.ensures.keeps (grows_not old.afters.entries old.afters.entries refl)
    (c.in_ok-insert.ensures.entries ∙ insert_entry-new change_eq.it old.changes change number absent) c.requires.changes is

pub returns-clause-there : goal.returns-clause-there
returns-clause-there c = λ words holders asked after at entry.
    let node = c.args.node in
    let next = c.args.next in
    let comes : c.index.result.now ≡ after =
    same_Some c.index.result.now after (sym c.index.ensures ∙ value_at c.args.self.now.afters.entries c.args.place asked after entry) in
    let deeds : c.deref-2.result.now ≡ after.deeds.items = c.deref-2.ensures.value ∙ ap (λ (a : After). a.deeds.items) comes in
    subst
    (λ ds. IsSharedAt c.changed.new.all c.in_ok-number.number (words_then next words) (freed ds (holders_then node next holders))) deeds
    (c.in_ok-number.ensures.there words holders at)
