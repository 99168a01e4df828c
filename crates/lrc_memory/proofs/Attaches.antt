-- What changes that come do to what is seen.
use Rattle.std.proofs.Common.{◌≡◌, ◌∙◌, ℕ, suc, ◌<◌, Option, Some, None, List, [], ◌∷◌, length, get_or, take, refl, ap, sym, arith}
use Rattle.std.specs.Prelude.{All, fold, unwrap_or, Result, Ok, Err, IfOk, OnOk}
use Rattle.std.proofs.lemmas.List.{get_or-take, get_or_default, length-take-le}
use Rattle.std.specs.Option.{option_map, option_or}
use Rattle.lrc_page.specs.Page.{words_of}
use Rattle.lrc_page.specs.declared.changes.Change.{Change}
use Rattle.lrc_store.specs.declared.key.Key.{Key}
use Rattle.lrc_store.specs.Store.{NoticeRecord, StoreRecord, notice_at, unread, attached}
use Rattle.lrc_store.proofs.Lookups.{notice_at-attached_other}
use Rattle.lrc_table.specs.PageCopy.{settled}
use Rattle.lrc_table.proofs.Copies.{pending-settled}
use Rattle.lrc_protocol.specs.Pages.{changes_or_none, with_part}
use Rattle.lrc_memory.proofs.Mending.{changes-over}
use Rattle.lrc_table.specs.Table.{copy_at}
use Rattle.lrc_envelope.specs.Records.{IndexedChangesRecord, AreParts}
use Rattle.lrc_memory.specs.View.{Kept, NodeMemory, IsKept, seen, node_seen, unmade, with_known}
use Rattle.lrc_memory.proofs.Overlays.{notice_at-over, notice_seen, over-attached}
use Rattle.lrc_memory.proofs.Settling.{kept-store, unmade-on, unmade-here, settled_at, seen-settled}

-- a notice that is seen without changes has none from elsewhere, and none of its own
module _ (kept : Kept) (key : Key) (wanted : notice_at (seen kept).store key ≡ Some (unread key.page)) where
  abbrev pub o : Key → Option (List Change)
  o = unmade kept.me kept.named kept.table

  bare : (o key ≡ None) × (notice_at kept.store key ≡ Some (unread key.page))
  bare = by_notice (notice_at kept.store key) refl (o key) refl (sym (notice_at-over o kept.store key) ∙ wanted)
    where
      by_notice : (found : Option NoticeRecord) → notice_at kept.store key ≡ found → (other : Option (List Change))
          → unmade kept.me kept.named kept.table key ≡ other
          → option_map (notice_seen (unmade kept.me kept.named kept.table) key) (notice_at kept.store key) ≡ Some (unread key.page)
          → (unmade kept.me kept.named kept.table key ≡ None) × (notice_at kept.store key ≡ Some (unread key.page))
      by_notice None none other is shown =
          let no : option_map (notice_seen (unmade kept.me kept.named kept.table) key) None ≡ Some (unread key.page) =
          ap (option_map (notice_seen (unmade kept.me kept.named kept.table) key)) (sym none) ∙ shown in
          absurd (cc)
      by_notice (Some n) some other is shown =
          let same : Some (record n { changes = option_or (unmade kept.me kept.named kept.table key) n.changes }) ≡ Some (unread key.page) =
          ap (option_map (notice_seen (unmade kept.me kept.named kept.table) key)) (sym some) ∙ shown in
          by_changes n some other is n.changes refl (ap notice_or same)
        where
          notice_or : Option NoticeRecord → NoticeRecord
          notice_or None = n
          notice_or (Some m) = m

          by_changes : (n : NoticeRecord) → notice_at kept.store key ≡ Some n → (other : Option (List Change))
              → unmade kept.me kept.named kept.table key ≡ other
              → (own : Option (List Change)) → n.changes ≡ own
              → record n { changes = option_or (unmade kept.me kept.named kept.table key) n.changes } ≡ unread key.page
              → (unmade kept.me kept.named kept.table key ≡ None) × (notice_at kept.store key ≡ Some (unread key.page))
          by_changes n some (Some cs) is own own_is same =
              let no : Some cs ≡ None =
              sym (ap (λ o. option_or o n.changes) is) ∙ ap (λ (m : NoticeRecord). m.changes) same in
              absurd (cc)
          by_changes n some None is own own_is same =
              let page : n.page ≡ key.page = ap (λ (m : NoticeRecord). m.page) same in
              let none : n.changes ≡ None = sym (ap (λ o. option_or o n.changes) is) ∙ ap (λ (m : NoticeRecord). m.changes) same in
              (is, some ∙ ap (λ p. Some (record { page = p; changes = n.changes })) page ∙ ap (λ cs. Some (record { page = key.page; changes = cs })) none)

  pub bare-notice : notice_at kept.store key ≡ Some (record { page = key.page; changes = None })
  bare-notice = bare.1

  pub kept-attached : (changes : List Change) → IsKept kept → All (λ c. c.offset < words_of kept.table.size) changes
      → IsKept (record kept { store = attached kept.store key changes })
  kept-attached changes is fit =
      kept-store kept key changes is fit
      (λ page cs pending same.
      let no : Some cs ≡ None =
      sym pending ∙ sym (unmade-on kept page) ∙ ap (unmade kept.me kept.named kept.table) same ∙ bare.0 in
      absurd (cc))

  pub seen-attached : (changes : List Change) (n : NodeMemory) → node_seen kept ≡ n
      → node_seen (record kept { store = attached kept.store key changes })
      ≡ with_known n (record n.memory { store = attached n.memory.store key changes })
  seen-attached changes n is =
      ap (λ s. with_known (node_seen kept) (record (seen kept) { store = s })) (over-attached o kept.store key changes bare.0)
      ∙ ap (λ (n : NodeMemory). with_known n (record n.memory { store = attached n.memory.store key changes })) is

-- ---- part by part

abbrev pub part_key : ℕ → ℕ → ℕ → Key
part_key maker page index = record { node = maker; index = index; page = page }

others-stay : (maker page index : ℕ) (ps : List IndexedChangesRecord) (store : StoreRecord) → All (λ part. part.index < index) ps
    → notice_at (fold (with_part maker page) store ps) (part_key maker page index) ≡ notice_at store (part_key maker page index)
others-stay maker page index [] store below = refl
others-stay maker page index (p ∷ ps) store below =
    let first : p.index < index = below 0 p (omega arith) in
    others-stay maker page index ps (with_part maker page store p) (λ k d within. below (suc k) d (omega arith))
    ∙ notice_at-attached_other store (part_key maker page p.index) (part_key maker page index) p.changes
    (λ same. let index_is : index ≡ p.index = ap (λ (k : Key). k.index) same in omega (arith, index_is, first))

-- a part that comes later is still awaited
pub still-awaited : (maker page : ℕ) (parts : List IndexedChangesRecord) (store : StoreRecord) (k : ℕ) (part : IndexedChangesRecord) → AreParts parts
    → k < length parts → part ≡ get_or parts k part → notice_at store (part_key maker page part.index) ≡ Some (unread page)
    → notice_at (fold (with_part maker page) store (take k parts)) (part_key maker page part.index) ≡ Some (unread page)
still-awaited maker page parts store k part are within is wanted =
    others-stay maker page part.index (take k parts) store
    (λ j d inside.
    let short : j < k = omega (arith, length-take-le k parts (omega (arith, within)), inside) in
    let pair : (get_or parts j part).index < (get_or parts k part).index = are j k part short within in
    omega (
      arith,
      pair,
      ap (λ (p : IndexedChangesRecord). p.index) is,
      ap (λ (p : IndexedChangesRecord). p.index) (get_or-take k parts j d short ∙ get_or_default parts j d part (omega (arith, short, within))),
    ))
    ∙ wanted

-- what is known of an own interval of a page that was settled
pub known-settled : (kept : Kept) (n : NodeMemory) (page index : ℕ) → node_seen kept ≡ n → page < length kept.table.copies
    → changes_or_none (settled_at kept page).store (part_key kept.me page index) ≡ changes_or_none n.memory.store (part_key n.me page index)
known-settled kept n page index is within =
    let after = settled_at kept page in
    let key = part_key kept.me page index in
    ap (λ (found : Option (List Change)). unwrap_or found [])
    (sym (changes-over (unmade after.me after.named after.table) after.store key
    (unmade-here kept page (settled (copy_at kept.table page)) key within refl (pending-settled (copy_at kept.table page)))))
    ∙ ap (λ (n : NodeMemory). changes_or_none n.memory.store (part_key n.me page index)) (seen-settled kept page within ∙ is)

-- ---- answers

pub ok_then : {X E : Type 0} {P Q : X → Type 0} (r : Result X E) → IfOk r P → ((x : X) → P x → Q x) → IfOk r Q
ok_then (Ok x) told then = then x told
ok_then (Err e) told then = tt

pub on_ok : {X E : Type 0} {P : Type 0} (r : Result X E) → P → OnOk r P
on_ok (Ok x) told = told
on_ok (Err e) told = tt
