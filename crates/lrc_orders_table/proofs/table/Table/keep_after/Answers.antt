use Rattle.std.proofs.Common.{◌≡◌, ◌∙◌, [], ◌∷◌, ◌++◌, refl, sym, ap, subst}
use Rattle.std.specs.Prelude.{Some, slice_get}
use Rattle.std.specs.List.{list_any}
use Rattle.indexmap.specs.IndexMap.{get}
use Rattle.indexmap.proofs.CallerLemmas.{insert_entry-new}
use Rattle.lrc_exec.specs.declared.spot.Spot.{Spot}
use Rattle.lrc_orders.specs.Traps.{is_trap}
use Rattle.lrc_orders.proofs.Keeping.{stands_on}
use Rattle.lrc_orders_live.specs.Live.{forgot}
use Rattle.lrc_orders_table.specs.declared.table.After.{After}
use Rattle.lrc_orders_memory.proofs.Apart.{shared_not}
use Rattle.lrc_orders_table.specs.declared.table.Table.{Table}
use Rattle.lrc_orders_table.specs.contracts.table.AskedPartialEq.TheImpl.{eq-value as asked_eq}
use Rattle.lrc_orders_table.specs.Tables.{IsAfter}
use Rattle.lrc_orders_table.proofs.Forgotten.{forgot_once}
use Rattle.lrc_orders_table.proofs.Keeping.{afters_more, changes_same, last_there, table_same}
use Rattle.lrc_orders_table.proofs.table.Table.keep_after.Goals as goal

pub number-requires-clause-bare : goal.number-requires-clause-bare
number-requires-clause-bare c =
    let live = c.args.means.now.live.now in
    subst (λ (s : Spot). forgot live s ≡ s) (sym c.forget_spot.ensures) (forgot_once live c.args.settled.spot)

pub returns-clause-table : goal.returns-clause-table
returns-clause-table c =
    let means = c.args.means.now in
    let old = c.number.new.self in
    let e = c.in_ok-thread.ensures in
    let known = e.table in
    let asked = c.args.asked in
    let after : After = record { thread = c.in_ok-thread.thread; deeds = c.args.settled.deeds; traps = c.has_trap_deed-traps.result } in
    let new : Table = record old { afters = c.insert.new.self } in
    let entries : new.afters.entries ≡ old.afters.entries ++ (asked, after) ∷ [] =
    c.in_ok-insert.ensures.entries
    ∙ insert_entry-new asked_eq.it old.afters asked after (ap (λ m. get asked_eq.it m asked) e.afters ∙ c.requires.absent) in
    let s = c.requires.settled in
    let is : IsAfter means old.rows.threads.keys asked after = record {
      spot = s.spot;
      there = stands_on asked.thread s.spot e.keeps.widens.threads s.there;
      settled = c.args.settled;
      so = s.so;
      kept = e.there ∙ ap (λ (x : Spot). Some x) c.forget_spot.ensures;
      deeds = refl;
      traps = c.has_trap_deed-traps.ensures ∙ ap (list_any is_trap) c.deref.ensures.value;
    } in
    table_same means old new refl refl known refl known.distinct (afters_more means old new known asked after entries is)
    (changes_same means old new refl refl (shared_not old.rows.shared) (record { more = (asked, after) ∷ []; is = entries })
    refl known.changes)

pub returns-clause-there : goal.returns-clause-there
returns-clause-there c =
    let old = c.number.new.self in
    let e = c.in_ok-thread.ensures in
    let asked = c.args.asked in
    let after : After = record { thread = c.in_ok-thread.thread; deeds = c.args.settled.deeds; traps = c.has_trap_deed-traps.result } in
    let entries : c.insert.new.self.entries ≡ old.afters.entries ++ (asked, after) ∷ [] =
    c.in_ok-insert.ensures.entries
    ∙ insert_entry-new asked_eq.it old.afters asked after (ap (λ m. get asked_eq.it m asked) e.afters ∙ c.requires.absent) in (
      after,
      ap (λ n. slice_get c.insert.new.self.entries n) c.len-place.ensures.len ∙ last_there old.afters.entries c.insert.new.self.entries asked after entries,
    )
