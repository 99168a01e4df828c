-- Changes of the page table that leave what is still to make.
use Rattle.std.proofs.Common.{◌≡◌, ◌∙◌, ℕ, ◌<◌, ⊎_elim, true, cond, eqb, ◌&&◌, Some, None, [], map, length, get_or, set, refl, ap, sym, subst}
use Rattle.std.specs.Prelude.{Result, Ok, Err, OnOk, OnErr}
use Rattle.std.proofs.lemmas.Bool.{cases_eq}
use Rattle.std.proofs.lemmas.List.{length-set, map-set}
use Rattle.lrc_page.specs.declared.size.Size.{Size}
use Rattle.lrc_table.specs.declared.slot.State.{State}
use Rattle.lrc_table.specs.declared.slot.State.TheVariants.{Valid, Written, Invalid, Absent}
use Rattle.lrc_table.specs.PageCopy.{PageCopy, pending_changes, with_base}
use Rattle.lrc_table.specs.Table.{Table, copy_at, with_copy}
use Rattle.lrc_table.proofs.Tables.{copy_at-with_copy, copy_at-with_copy_other}
use Rattle.lrc_protocol.specs.Pages as machine
use Rattle.lrc_protocol.specs.Barriers as barriers
use Rattle.lrc_memory.specs.View.{Kept, NodeMemory, IsKept, seen, node_seen, seen_in, seen_copy, unmade, store_over, with_known}
use Rattle.lrc_memory.proofs.Overlays.{over-alike}
use Rattle.lrc_memory.proofs.Copies.{copy-seen, within-seen}
use Rattle.lrc_memory.proofs.Settling.{same_copies}

abbrev pub with_table : Kept → Table → Kept
with_table kept table = record kept { table = table }

-- nothing more or less is to be made
abbrev pub IsQuiet : Table → Table → Type 0
IsQuiet old new = (page : ℕ) → pending_changes (copy_at new page) ≡ pending_changes (copy_at old page)

pub kept-quiet : (kept : Kept) (table : Table) → length table.copies ≡ length kept.table.copies → table.size ≡ kept.table.size
    → IsQuiet kept.table table → IsKept kept → IsKept (with_table kept table)
kept-quiet kept table long size quiet is = record {
  pages = is.pages ∙ sym long;
  since = is.since ∙ sym long;
  named = is.named ∙ sym long;
  keepers = is.keepers ∙ sym long;
  me = is.me;
  times = is.times;
  collected = is.collected;
  keeping = is.keeping;
  makers = is.makers;
  passed = is.passed;
  in_step = is.in_step;
  store = is.store;
  sized = rw size is.sized;
  unmade = λ page changes pending. is.unmade page changes (sym (quiet page) ∙ pending);
}

pub seen-quiet : (kept : Kept) (table : Table) → length table.copies ≡ length kept.table.copies → table.size ≡ kept.table.size
    → IsQuiet kept.table table → ((page : ℕ) → seen_copy table kept.since page ≡ seen_copy kept.table kept.since page)
    → node_seen (with_table kept table)
    ≡ with_known (node_seen kept) (record (seen kept) { bases = map (λ (c : PageCopy). c.base) table.copies })
seen-quiet kept table long size quiet same =
    let store : store_over (unmade kept.me kept.named table) kept.store ≡ store_over (unmade kept.me kept.named kept.table) kept.store =
    over-alike (unmade kept.me kept.named table) (unmade kept.me kept.named kept.table) kept.store
    (λ key. ap (λ found. cond (eqb key.node kept.me && eqb (get_or kept.named key.page 0) key.index) found None) (quiet key.page)) in
    let copies = same_copies kept.table table kept.since kept.since long same in
    ap (λ (s : Size). record { me = kept.me; size = s; memory = seen (with_table kept table) }) size
    ∙ ap (λ s. with_known (node_seen kept) (record (seen (with_table kept table)) { store = s })) store
    ∙ ap (λ cs. with_known (node_seen kept) (record (seen kept) { copies = cs; bases = map (λ (c : PageCopy). c.base) table.copies })) copies

-- ---- keeping a base copy

module _ (kept : Kept) (page : ℕ) (within : page < length kept.table.copies) where
  abbrev based : Table
  based = with_copy kept.table page (with_base (copy_at kept.table page))

  quiet-based : IsQuiet kept.table based
  quiet-based p =
      ⊎_elim
      (λ (same : p ≡ page).
      ap (λ p. pending_changes (copy_at based p)) same
      ∙ ap pending_changes (copy_at-with_copy kept.table page (with_base (copy_at kept.table page)) within)
      ∙ ap (λ p. pending_changes (copy_at kept.table p)) (sym same))
      (λ apart. ap pending_changes (copy_at-with_copy_other kept.table page p (with_base (copy_at kept.table page)) apart))
      (cases_eq p page)

  copies-based : (p : ℕ) → seen_copy based kept.since p ≡ seen_copy kept.table kept.since p
  copies-based p =
      ⊎_elim
      (λ (same : p ≡ page).
      ap (seen_copy based kept.since) same
      ∙ ap (λ (c : PageCopy). seen_in c.state (get_or kept.since page []) c) (copy_at-with_copy kept.table page (with_base (copy_at kept.table page)) within)
      ∙ state_only (copy_at kept.table page).state
      ∙ ap (seen_copy kept.table kept.since) (sym same))
      (λ apart. ap (λ (c : PageCopy). seen_in c.state (get_or kept.since p []) c)
      (copy_at-with_copy_other kept.table page p (with_base (copy_at kept.table page)) apart))
      (cases_eq p page)
    where
      state_only : (state : State) → seen_in state (get_or kept.since page []) (with_base (copy_at kept.table page))
          ≡ seen_in state (get_or kept.since page []) (copy_at kept.table page)
      state_only Valid = refl
      state_only Written = refl
      state_only Invalid = refl
      state_only Absent = refl

  pub kept-based : {E : Type 0} (r : Result (Unit {0}) E) (table : Table) → IsKept kept → OnOk r (table ≡ based) → OnErr r (table ≡ kept.table)
      → IsKept (with_table kept table)
  kept-based (Ok x) table is ok err =
      subst (λ t. IsKept (with_table kept t)) (sym ok)
      (kept-quiet kept based (length-set kept.table.copies page (with_base (copy_at kept.table page))) refl quiet-based is)
  kept-based (Err e) table is ok err = subst (λ t. IsKept (with_table kept t)) (sym err) is

  pub seen-based : {E : Type 0} (r : Result (Unit {0}) E) (table : Table) (n : NodeMemory) → node_seen kept ≡ n
      → (copy_at kept.table page).state ≡ Valid → OnOk r (table ≡ based)
      → OnOk r (node_seen (with_table kept table) ≡ with_known n (barriers.with_base n.memory page))
  seen-based (Err e) table n is valid ok = tt
  seen-based (Ok x) table n is valid ok =
      ap (λ t. node_seen (with_table kept t)) ok
      ∙ seen-quiet kept based (length-set kept.table.copies page (with_base (copy_at kept.table page))) refl quiet-based copies-based
      ∙ ap (λ bs. with_known (node_seen kept) (record (seen kept) { bases = bs }))
      (map-set (λ (c : PageCopy). c.base) kept.table.copies page (with_base (copy_at kept.table page))
      ∙ ap (λ vs. set (map (λ (c : PageCopy). c.base) kept.table.copies) page (Some vs))
      (sym (ap machine.values_of (copy-seen kept page within ∙ ap (λ state. seen_in state (get_or kept.since page []) (copy_at kept.table page)) valid))))
      ∙ ap (λ (n : NodeMemory). with_known n (barriers.with_base n.memory page)) is

-- a readable copy that is not written is valid
pub valid-seen : (kept : Kept) (n : NodeMemory) (page : ℕ) → node_seen kept ≡ n → page < length n.memory.copies
    → machine.is_readable (machine.copy_at n.memory page) ≡ true → machine.changes_of (machine.copy_at n.memory page) ≡ None
    → (copy_at kept.table page).state ≡ Valid
valid-seen kept n page is within readable closed =
    let shown : machine.copy_at n.memory page ≡ seen_copy kept.table kept.since page =
    ap (λ (n : NodeMemory). machine.copy_at n.memory page) (sym is) ∙ copy-seen kept page (within-seen kept n page is within) in
    by_state (copy_at kept.table page).state (ap machine.is_readable (sym shown) ∙ readable) (ap machine.changes_of (sym shown) ∙ closed)
  where
    by_state : (state : State) → machine.is_readable (seen_in state (get_or kept.since page []) (copy_at kept.table page)) ≡ true
        → machine.changes_of (seen_in state (get_or kept.since page []) (copy_at kept.table page)) ≡ None → state ≡ Valid
    by_state Valid readable closed = refl
    by_state Written readable closed = absurd (cc)
    by_state Invalid readable closed = absurd (cc)
    by_state Absent readable closed = absurd (cc)
