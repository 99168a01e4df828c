-- What a repair does to what is seen.
use Rattle.std.proofs.Common.{◌≡◌, ◌∙◌, ℕ, suc, ◌<◌, ◌⊎◌, ⊎_elim, inl, inr, Bool, true, false, cond, eqb, ◌&&◌, Option}
use Rattle.std.proofs.Common.{Some, None, List, [], ◌∷◌, map, length, get_or, refl, ap, sym, arith}
use Rattle.std.specs.Prelude.{All, fold, unwrap_or}
use Rattle.std.specs.Option.{option_and_then, option_map, option_or}
use Rattle.std.proofs.lemmas.List.{set-set}
use Rattle.lrc_page.specs.declared.changes.Change.{Change}
use Rattle.lrc_page.specs.Changes.{applied, changes_between}
use Rattle.lrc_store.specs.declared.key.Key.{Key}
use Rattle.lrc_store.specs.Store.{NoticeRecord, StoreRecord, notice_at, changes_at}
use Rattle.lrc_table.specs.declared.slot.State.{State}
use Rattle.lrc_table.specs.declared.slot.State.TheVariants.{Valid, Written, Invalid, Absent}
use Rattle.lrc_table.specs.PageCopy.{PageCopy, IsWhole, fresh, installed, is_readable, pending_changes, repaired}
use Rattle.lrc_table.specs.Table.{Table, copy_at, with_copy}
use Rattle.lrc_table.proofs.Tables.{copy_at-with_copy}
use Rattle.lrc_protocol.specs.Pages as machine
use Rattle.lrc_protocol.specs.Pages.{changes_or_none, Base, unneeded, due, come, first_values}
use Rattle.lrc_memory.specs.View.{Kept, NodeMemory, IsKept, seen, node_seen, seen_in, unmade, store_over, with_known}
use Rattle.lrc_memory.specs.Turns.{is_mendable}
use Rattle.lrc_memory.specs.Steps.{begun_with, patched_with}
use Rattle.lrc_memory.proofs.Overlays.{notice_at-over, notice_seen}
use Rattle.lrc_memory.proofs.Copies.{copy-seen}
use Rattle.lrc_memory.proofs.Settling.{changed, kept-changed, seen-changed}

-- ---- known changes

-- of a key that has nothing from elsewhere what is known is seen
pub changes-over : (o : Key → Option (List Change)) (store : StoreRecord) (key : Key) → o key ≡ None
    → changes_at (store_over o store) key ≡ changes_at store key
changes-over o store key none =
    ap (option_and_then (λ (n : NoticeRecord). n.changes)) (notice_at-over o store key)
    ∙ either (notice_at store key)
  where
    either : (found : Option NoticeRecord)
        → option_and_then (λ (n : NoticeRecord). n.changes) (option_map (notice_seen o key) found) ≡ option_and_then (λ (n : NoticeRecord). n.changes) found
    either None = refl
    either (Some n) = ap (λ found. option_or found n.changes) none

pub map-within : {X Y : Type 0} (P : X → Type 0) (f g : X → Y) (xs : List X) → All P xs → ((x : X) → P x → f x ≡ g x) → map f xs ≡ map g xs
map-within P f g [] all same = refl
map-within P f g (x ∷ xs) all same =
    cc (same x (all 0 x (omega arith)), map-within P f g xs (λ k d within. all (suc k) d (omega arith)) same)

-- of a page with nothing to make
pub unmade-none : (kept : Kept) (page : ℕ) (key : Key) → key.page ≡ page → pending_changes (copy_at kept.table page) ≡ None
    → unmade kept.me kept.named kept.table key ≡ None
unmade-none kept page key same none =
    ap (λ found. cond (eqb key.node kept.me && eqb (get_or kept.named key.page 0) key.index) found None)
    (ap (λ p. pending_changes (copy_at kept.table p)) same ∙ none)
    ∙ either (eqb key.node kept.me && eqb (get_or kept.named key.page 0) key.index)
  where
    nothing : Option (List Change)
    nothing = None

    either : (b : Bool) → cond b nothing nothing ≡ nothing
    either true = refl
    either false = refl

-- ---- the repaired copy

module _ (kept : Kept) (page : ℕ) (base : Base) (missing : List Key) where
  abbrev old : PageCopy
  old = copy_at kept.table page

  abbrev pub done : PageCopy
  done = repaired (patched_with kept.store (begun_with old base) missing) []

  abbrev Fits : Type 0
  Fits = is_mendable kept.table.size (seen_in old.state [] old) base ≡ true

  fits-only : (state : State) → is_mendable kept.table.size (seen_in state [] old) base ≡ true → (state ≡ Invalid) ⊎ (state ≡ Absent)
  fits-only state fit = by_parts state base fit
    where
      by_parts : (state : State) (base : Base) → is_mendable kept.table.size (seen_in state [] old) base ≡ true → (state ≡ Invalid) ⊎ (state ≡ Absent)
      by_parts Valid unneeded fit = absurd (cc)
      by_parts Valid (due k) fit = absurd (cc)
      by_parts Valid (come v) fit = absurd (cc)
      by_parts Written unneeded fit = absurd (cc)
      by_parts Written (due k) fit = absurd (cc)
      by_parts Written (come v) fit = absurd (cc)
      by_parts Invalid b fit = inl refl
      by_parts Absent b fit = inr refl

  unreadable : Fits → is_readable old.state ≡ false
  unreadable fit = ⊎_elim (λ (is : old.state ≡ Invalid). ap is_readable is) (λ (is : old.state ≡ Absent). ap is_readable is) (fits-only old.state fit)

  nothing-before : Fits → pending_changes old ≡ None
  nothing-before fit =
      ⊎_elim
      (λ (is : old.state ≡ Invalid). ap (λ s. pending_changes (record old { state = s })) is)
      (λ (is : old.state ≡ Absent). ap (λ s. pending_changes (record old { state = s })) is)
      (fits-only old.state fit)

  nothing-after : IsWhole kept.table.size old → Fits → pending_changes done ≡ None
  nothing-after whole fit = by_base base
    where
      by_base : (base : Base) → pending_changes (repaired (patched_with kept.store (begun_with old base) missing) []) ≡ None
      by_base unneeded = ap (option_map (λ twin. changes_between twin (repaired (patched_with kept.store old missing) []).values)) (whole.none (unreadable fit))
      by_base (due k) = ap (option_map (λ twin. changes_between twin (repaired (patched_with kept.store old missing) []).values)) (whole.none (unreadable fit))
      by_base (come v) = ap (option_map (λ twin.
          changes_between twin (repaired (patched_with kept.store (installed old v) missing) []).values)) (whole.none (unreadable fit))

  base-after : done.base ≡ old.base
  base-after = by_base base
    where
      by_base : (base : Base) → (repaired (patched_with kept.store (begun_with old base) missing) []).base ≡ old.base
      by_base unneeded = refl
      by_base (due k) = refl
      by_base (come v) = refl

  begins : Fits → (begun_with old base).values ≡ first_values (seen_in old.state (get_or kept.since page []) old) base
  begins fit = by_parts old.state base fit
    where
      by_parts : (state : State) (base : Base) → is_mendable kept.table.size (seen_in state [] old) base ≡ true
          → (begun_with old base).values ≡ first_values (seen_in state (get_or kept.since page []) old) base
      by_parts Valid unneeded fit = absurd (cc)
      by_parts Valid (due k) fit = absurd (cc)
      by_parts Valid (come v) fit = absurd (cc)
      by_parts Written unneeded fit = absurd (cc)
      by_parts Written (due k) fit = absurd (cc)
      by_parts Written (come v) fit = absurd (cc)
      by_parts Invalid unneeded fit = refl
      by_parts Invalid (due k) fit = absurd (cc)
      by_parts Invalid (come v) fit = absurd (cc)
      by_parts Absent unneeded fit = absurd (cc)
      by_parts Absent (due k) fit = absurd (cc)
      by_parts Absent (come v) fit = refl

  pub kept-mended : page < length kept.table.copies → IsKept kept → All (IsWhole kept.table.size) kept.table.copies → Fits
      → IsKept (changed kept page done)
  kept-mended within is whole fit = kept-changed kept page done within is (nothing-after (whole page (fresh []) within) fit)

  known-seen : Fits → All (λ (key : Key). key.page ≡ page) missing
      → map (changes_or_none kept.store) missing ≡ map (changes_or_none (seen kept).store) missing
  known-seen fit of_page =
      map-within (λ (key : Key). key.page ≡ page) (changes_or_none kept.store) (changes_or_none (seen kept).store) missing of_page
      (λ key same.
      ap (λ (found : Option (List Change)). unwrap_or found [])
      (sym (changes-over (unmade kept.me kept.named kept.table) kept.store key (unmade-none kept page key same (nothing-before fit)))))

  pub seen-mended : page < length kept.table.copies → All (IsWhole kept.table.size) kept.table.copies → Fits
      → All (λ (key : Key). key.page ≡ page) missing
      → node_seen (changed kept page done)
      ≡ with_known (node_seen kept) (machine.with_copy (seen kept) page
      (machine.valid (machine.all_applied (seen kept).store (first_values (machine.copy_at (seen kept) page) base) missing)))
  seen-mended within whole fit of_page =
      seen-changed kept page done within (nothing-before fit) (nothing-after (whole page (fresh []) within) fit) base-after
      ∙ ap (λ vs. with_known (node_seen kept) (machine.with_copy (seen kept) page (machine.valid vs)))
      (ap (λ vs. fold applied vs (map (changes_or_none kept.store) missing))
      (begins fit ∙ ap (λ c. first_values c base) (sym (copy-seen kept page within)))
      ∙ ap (fold applied (first_values (machine.copy_at (seen kept) page) base)) (known-seen fit of_page))

  -- ---- after the calls

  pub table-mended : (t1 t2 t3 : Table) → page < length kept.table.copies → t1 ≡ with_copy kept.table page (begun_with old base)
      → t2 ≡ with_copy t1 page (patched_with kept.store (copy_at t1 page) missing)
      → t3 ≡ with_copy t2 page (repaired (copy_at t2 page) []) → t3 ≡ with_copy kept.table page done
  table-mended t1 t2 t3 within one two three =
      let c1 = begun_with old base in
      let c2 = patched_with kept.store c1 missing in
      let second : t2 ≡ with_copy kept.table page c2 =
      two
      ∙ ap (λ (t : Table). with_copy t page (patched_with kept.store (copy_at t page) missing)) one
      ∙ ap (λ c. with_copy (with_copy kept.table page c1) page (patched_with kept.store c missing)) (copy_at-with_copy kept.table page c1 within)
      ∙ ap (λ (cs : List PageCopy). record kept.table { copies = cs }) (set-set kept.table.copies page c1 c2) in
      three
      ∙ ap (λ (t : Table). with_copy t page (repaired (copy_at t page) [])) second
      ∙ ap (λ c. with_copy (with_copy kept.table page c2) page (repaired c [])) (copy_at-with_copy kept.table page c2 within)
      ∙ ap (λ (cs : List PageCopy). record kept.table { copies = cs }) (set-set kept.table.copies page c2 done)

-- what a need has of a copy that is seen
pub fits-seen : (kept : Kept) (n : NodeMemory) (page : ℕ) (base : Base) → node_seen kept ≡ n → page < length kept.table.copies
    → is_mendable n.size (machine.copy_at n.memory page) base ≡ true
    → is_mendable kept.table.size (seen_in (copy_at kept.table page).state [] (copy_at kept.table page)) base ≡ true
fits-seen kept n page base is within fit =
    let old = copy_at kept.table page in
    by_state old.state base
    ∙ sym (ap (λ c. is_mendable kept.table.size c base) (copy-seen kept page within))
    ∙ ap (λ (n : NodeMemory). is_mendable n.size (machine.copy_at n.memory page) base) is ∙ fit
  where
    by_state : (state : State) (base : Base) → is_mendable kept.table.size (seen_in state [] (copy_at kept.table page)) base
        ≡ is_mendable kept.table.size (seen_in state (get_or kept.since page []) (copy_at kept.table page)) base
    by_state Valid base = refl
    by_state Written base = refl
    by_state Invalid unneeded = refl
    by_state Invalid (due k) = refl
    by_state Invalid (come v) = refl
    by_state Absent base = refl
