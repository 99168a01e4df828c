-- What a write does to what is seen.
use Rattle.std.proofs.Common.{◌≡◌, ◌∙◌, ℕ, ◌<◌, ◌⊎◌, ⊎_elim, inl, inr, Bool, false, Option, Some, None, List, [], length, get_or, refl, ap, sym, subst, arith}
use Rattle.std.specs.Option.{ForSome}
use Rattle.std.specs.Prelude.{All, Result, Ok, Err, OnOk, OnErr, IfOk}
use Rattle.std.proofs.lemmas.List.{length-set}
use Rattle.lrc_page.specs.Page.{words_of}
use Rattle.lrc_page.specs.Place.{page_of, offset_of}
use Rattle.lrc_store.specs.Store.{StoreRecord}
use Rattle.lrc_table.specs.declared.slot.State.{State}
use Rattle.lrc_table.specs.declared.slot.State.TheVariants.{Valid, Written, Invalid, Absent}
use Rattle.lrc_table.specs.PageCopy.{PageCopy, is_pending, is_readable as may_read, pending_changes, settled, after_write}
use Rattle.lrc_table.specs.Table.{Table, copy_at, with_copy}
use Rattle.lrc_table.proofs.Tables.{copy_at-with_copy}
use Rattle.lrc_table.proofs.Copies.{copy_of, pending-settled, base-after_write}
use Rattle.lrc_protocol.specs.Pages as machine
use Rattle.lrc_protocol.specs.Pages.{with_written_word}
use Rattle.lrc_memory.specs.View.{Kept, NodeMemory, IsKept, seen, node_seen, seen_in, settled_store, with_known}
use Rattle.lrc_memory.proofs.Copies.{copy-seen, readable_as}
use Rattle.lrc_memory.proofs.Settling.{changed, settled_at, kept-changed, seen-changed, kept-settled, seen-settled, with_parts, after-settle}

pending-in : (state : State) (values : List ℕ) (twin base : Option (List ℕ)) (offset value : ℕ)
    → pending_changes (copy_of state values twin base) ≡ None → pending_changes (after_write (copy_of state values twin base) offset value) ≡ None
pending-in Valid values twin base offset value none = refl
pending-in Written values twin base offset value none = refl
pending-in Invalid values twin base offset value none = none
pending-in Absent values twin base offset value none = none

written-in : (state : State) (values : List ℕ) (twin base : Option (List ℕ)) (since : List ℕ) (offset value : ℕ)
    → seen_in (after_write (copy_of state values twin base) offset value).state since (after_write (copy_of state values twin base) offset value)
    ≡ machine.after_write (seen_in state since (copy_of state values twin base)) offset value
written-in Valid values twin base since offset value = refl
written-in Written values twin base since offset value = refl
written-in Invalid values twin base since offset value = refl
written-in Absent values twin base since offset value = refl

quiet-in : (state : State) (values : List ℕ) (twin base : Option (List ℕ)) → is_pending (settled (copy_of state values twin base)) ≡ false
quiet-in Valid values None base = refl
quiet-in Valid values (Some twin) base = refl
quiet-in Written values twin base = refl
quiet-in Invalid values twin base = refl
quiet-in Absent values twin base = refl

pub quiet-settled : (copy : PageCopy) → is_pending (settled copy) ≡ false
quiet-settled copy = quiet-in copy.state copy.values copy.twin copy.base

readable-in : (state : State) (values : List ℕ) (twin base : Option (List ℕ)) → may_read (settled (copy_of state values twin base)).state ≡ may_read state
readable-in Valid values None base = refl
readable-in Valid values (Some twin) base = refl
readable-in Written values twin base = refl
readable-in Invalid values twin base = refl
readable-in Absent values twin base = refl

pub readable-settled : (copy : PageCopy) → may_read (settled copy).state ≡ may_read copy.state
readable-settled copy = readable-in copy.state copy.values copy.twin copy.base

-- the page settled, and a word of it written
abbrev pub written_at : Kept → ℕ → ℕ → ℕ → Kept
written_at kept page offset value = changed (settled_at kept page) page (after_write (copy_at (settled_at kept page).table page) offset value)

module _ (kept : Kept) (page offset value : ℕ) (within : page < length kept.table.copies) where
  inside : page < length (settled_at kept page).table.copies
  inside = omega (arith, length-set kept.table.copies page (settled (copy_at kept.table page)), within)

  pub nothing-settled : pending_changes (copy_at (settled_at kept page).table page) ≡ None
  nothing-settled =
      ap pending_changes (copy_at-with_copy kept.table page (settled (copy_at kept.table page)) within) ∙ pending-settled (copy_at kept.table page)

  nothing-written : pending_changes (after_write (copy_at (settled_at kept page).table page) offset value) ≡ None
  nothing-written =
      let old = copy_at (settled_at kept page).table page in
      pending-in old.state old.values old.twin old.base offset value nothing-settled

  pub kept-written : IsKept kept
      → ForSome (pending_changes (copy_at kept.table page)) (λ changes. All (λ c. c.offset < words_of kept.table.size) changes)
      → IsKept (written_at kept page offset value)
  kept-written is fit =
      kept-changed (settled_at kept page) page (after_write (copy_at (settled_at kept page).table page) offset value) inside
      (kept-settled kept page within is fit) nothing-written

  pub seen-written : node_seen (written_at kept page offset value)
      ≡ with_known (node_seen kept) (machine.with_copy (seen kept) page (machine.after_write (machine.copy_at (seen kept) page) offset value))
  seen-written =
      let mid = settled_at kept page in
      let old = copy_at mid.table page in
      seen-changed mid page (after_write old offset value) inside nothing-settled nothing-written (base-after_write old offset value)
      ∙ ap (λ c. with_known (node_seen mid) (machine.with_copy (seen mid) page c))
      (written-in old.state old.values old.twin old.base (get_or kept.since page []) offset value
      ∙ ap (λ c. machine.after_write c offset value) (sym (copy-seen mid page inside)))
      ∙ ap (λ (n : NodeMemory). with_known n (machine.with_copy n.memory page (machine.after_write (machine.copy_at n.memory page) offset value)))
      (seen-settled kept page within)

-- ---- after the call

either : {X Y E : Type 0} (r : Result X E) (new done old : Y) → OnOk r (new ≡ done) → OnErr r (new ≡ old) → (new ≡ done) ⊎ (new ≡ old)
either (Ok x) new done old ok err = inl ok
either (Err e) new done old ok err = inr err

when_ok : {X E : Type 0} {P Q : Type 0} (r : Result X E) → OnOk r P → (P → Q) → OnOk r Q
when_ok (Ok x) is then = then is
when_ok (Err e) is then = tt

module _ (kept : Kept) (word value page : ℕ) (named : List ℕ) (store : StoreRecord) (mid table : Table)
    (page_is : page ≡ page_of word kept.table.size) (within : page < length kept.table.copies) (named_is : named ≡ kept.named)
    (mid_is : mid ≡ with_copy kept.table page (settled (copy_at kept.table page)))
    (store_is : store ≡ settled_store kept.store (record { node = kept.me; index = get_or named page 0; page = page })
    (pending_changes (copy_at kept.table page))) where
  abbrev pub call_on : Table → Table
  call_on m = with_copy m (page_of word m.size) (after_write (copy_at m (page_of word m.size)) (offset_of word m.size) value)

  offset : ℕ
  offset = offset_of word kept.table.size

  call-is : call_on mid ≡ (written_at kept page (offset_of word kept.table.size) value).table
  call-is =
      ap call_on mid_is
      ∙ ap (λ p. with_copy (settled_at kept page).table p
      (after_write (copy_at (settled_at kept page).table p) (offset_of word kept.table.size) value)) (sym page_is)

  pub mid-within : page_of word mid.size < length mid.copies
  mid-within =
      omega (
        arith,
        ap (λ (t : Table). page_of word t.size) mid_is,
        ap (λ (t : Table). length t.copies) mid_is,
        length-set kept.table.copies page (settled (copy_at kept.table page)),
        within,
        page_is,
      )

  pub mid-quiet : is_pending (copy_at mid (page_of word mid.size)) ≡ false
  mid-quiet =
      ap (λ (t : Table). is_pending (copy_at t (page_of word t.size))) mid_is
      ∙ ap (λ p. is_pending (copy_at (settled_at kept page).table p)) (sym page_is)
      ∙ ap is_pending (copy_at-with_copy kept.table page (settled (copy_at kept.table page)) within)
      ∙ quiet-settled (copy_at kept.table page)

  mid-parts : with_parts kept store mid ≡ settled_at kept page
  mid-parts = after-settle kept page named store mid named_is mid_is store_is

  done-parts : table ≡ call_on mid → with_parts kept store table ≡ written_at kept page (offset_of word kept.table.size) value
  done-parts done =
      ap (with_parts kept store) (done ∙ call-is)
      ∙ ap (λ (k : Kept). with_parts k k.store (written_at kept page (offset_of word kept.table.size) value).table) mid-parts

  pub kept-write : {E : Type 0} (r : Result Bool E) → IsKept kept
      → ForSome (pending_changes (copy_at kept.table page)) (λ changes. All (λ c. c.offset < words_of kept.table.size) changes)
      → OnOk r (table ≡ call_on mid) → OnErr r (table ≡ mid) → IsKept (with_parts kept store table)
  kept-write r is fit ok err =
      ⊎_elim
      (λ (done : table ≡ call_on mid).
      subst IsKept (sym (done-parts done)) (kept-written kept page (offset_of word kept.table.size) value within is fit))
      (λ (same : table ≡ mid). subst IsKept (sym (ap (with_parts kept store) same ∙ mid-parts)) (kept-settled kept page within is fit))
      (either r table (call_on mid) mid ok err)

  pub seen-write : {E : Type 0} (r : Result Bool E) (n : NodeMemory) → node_seen kept ≡ n → OnOk r (table ≡ call_on mid)
      → OnOk r (node_seen (with_parts kept store table) ≡ with_known n (with_written_word n.size word value n.memory))
  seen-write r n is ok =
      when_ok r ok (λ done.
      ap node_seen (done-parts done)
      ∙ seen-written kept page (offset_of word kept.table.size) value within
      ∙ ap (λ p. with_known (node_seen kept)
      (machine.with_copy (seen kept) p (machine.after_write (machine.copy_at (seen kept) p) (offset_of word kept.table.size) value))) page_is
      ∙ ap (λ (n : NodeMemory). with_known n (with_written_word n.size word value n.memory)) is)

  pub readable-write : {E : Type 0} (r : Result Bool E) (n : NodeMemory) → node_seen kept ≡ n
      → IfOk r (λ done. done ≡ may_read (copy_at mid (page_of word mid.size)).state)
      → IfOk r (λ done. done ≡ machine.is_readable (machine.copy_at n.memory (page_of word n.size)))
  readable-write (Err e) n is told = tt
  readable-write (Ok done) n is told =
      told
      ∙ ap (λ (t : Table). may_read (copy_at t (page_of word t.size)).state) mid_is
      ∙ ap (λ p. may_read (copy_at (settled_at kept page).table p).state) (sym page_is)
      ∙ ap (λ (c : PageCopy). may_read c.state) (copy_at-with_copy kept.table page (settled (copy_at kept.table page)) within)
      ∙ readable-settled (copy_at kept.table page)
      ∙ sym (readable_as kept n page is within)
      ∙ ap (λ p. machine.is_readable (machine.copy_at n.memory p)) (page_is ∙ ap (λ (n : NodeMemory). page_of word n.size) is)
