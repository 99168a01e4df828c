-- The changes that come in a reply are of notices that are stored, and not known yet.
use Rattle.std.proofs.Common.{◌≡◌, ℕ, ◌<◌, List, [], ◌∷◌, true, refl, sym, ap, subst, ◌∙◌, arith}
use Rattle.std.specs.Prelude.{Option, Some, None, is_none, is_some, All, AllPairs, ◌==◌, map, filter, option_and_then, nat_lt}
use Rattle.std.proofs.lemmas.Bool.{eqb-true, false≢true}
use Rattle.std.proofs.lemmas.List.Elements.{All-nil, All-cons, All-head, All-tail, All-map, All-weaker}
use Rattle.std.proofs.lemmas.List.Kept.{AllPairs-cons}
use Rattle.lrc_page.specs.declared.changes.Change.{Change}
use Rattle.lrc_store.specs.declared.key.Key.{Key}
use Rattle.lrc_store.specs.Store.{NoticeRecord, StoreRecord, IsStore, stored_at, notice_at, changes_at, unread}
use Rattle.lrc_protocol.specs.Pages.{Memory, copy_at, missing_at, indices_of, unknown_of}
use Rattle.lrc_node_laws.proofs.Indices.{Ascends}
use Rattle.lrc_node_laws.proofs.Keys.{IsNoticed, All-part, notice_page}
use Rattle.lrc_node_laws.proofs.Needs.{filter-both}
use Rattle.lrc_node_laws.proofs.Replies.{lacking-noticed}

pub ascends-pairs : (xs : List ℕ) → Ascends xs → AllPairs (λ x y. x < y) xs
ascends-pairs [] h = λ i j d lt within. absurd (omega arith)
ascends-pairs (x ∷ xs) h = AllPairs-cons (λ x y. x < y) x xs h.0 (ascends-pairs xs h.1)

pub All-unmap : {X Y : Type 0} (P : Y → Type 0) (f : X → Y) (xs : List X) → All P (map f xs) → All (λ x. P (f x)) xs
All-unmap P f [] h = All-nil (λ x. P (f x))
All-unmap P f (x ∷ xs) h = All-cons (λ x. P (f x)) x xs (All-head P (f x) (map f xs) h) (All-unmap P f xs (All-tail P (f x) (map f xs) h))

-- a notice of which no changes are known
unread-by : (page : ℕ) (o : Option NoticeRecord) → ((notice : NoticeRecord) → o ≡ Some notice → notice.page ≡ page) → is_some o ≡ true
    → is_none (option_and_then (λ (notice : NoticeRecord). notice.changes) o) ≡ true → o ≡ Some (unread page)
unread-by page None k n u = cc
unread-by page (Some notice) k n u = ap Some (unread-one page notice (k notice refl) notice.changes refl u)
  where
    unread-one : (page : ℕ) (notice : NoticeRecord) → notice.page ≡ page → (c : Option (List Change)) → notice.changes ≡ c → is_none notice.changes ≡ true
        → notice ≡ unread page
    unread-one page notice p None c u = ap (λ (c : Option (List Change)). record { page = notice.page; changes = c }) c ∙ ap unread p
    unread-one page notice p (Some changes) c u = absurd (false≢true (sym (ap is_none c) ∙ u))

notice_unread : (store : StoreRecord) (key : Key) → IsNoticed store key → is_none (changes_at store key) ≡ true → notice_at store key ≡ Some (unread key.page)
notice_unread store key n u =
    unread-by key.page (notice_at store key) (λ notice e. notice_page key.page (stored_at store.entries key.node key.index) notice e) n u

-- what is asked of a maker for a page
pub asked-unread : (memory : Memory) (page from : ℕ) → IsStore memory.store
    → All (λ index. notice_at memory.store (record { node = from; index = index; page = page }) ≡ Some (unread page))
    (indices_of (unknown_of memory.store (missing_at memory page)) from)
asked-unread memory page from s =
    let store : StoreRecord = memory.store in
    let unknown : List Key = unknown_of store (missing_at memory page) in
    let P : ℕ → Type 0 = λ index. notice_at store (record { node = from; index = index; page = page }) ≡ Some (unread page) in
    All-part nat_lt (λ index. true) P P (λ index p e. p) (map (λ (key : Key). key.index) (filter (λ (key : Key). key.node == from) unknown))
    (All-map P (λ (key : Key). key.index) (filter (λ (key : Key). key.node == from) unknown)
    (All-weaker
    (λ (key : Key). (((key.page ≡ page) × IsNoticed store key) × (is_none (changes_at store key) ≡ true)) × ((key.node == from) ≡ true))
    (λ (key : Key). P key.index)
    (λ key is.
    let node : key.node ≡ from = eqb-true key.node from is.1 in
    subst (λ n. notice_at store (record { node = n; index = key.index; page = page }) ≡ Some (unread page)) node
    (subst (λ p. notice_at store (record { node = key.node; index = key.index; page = p }) ≡ Some (unread p)) is.0.0.0
    (notice_unread store key is.0.0.1 is.0.1)))
    (filter (λ (key : Key). key.node == from) unknown)
    (filter-both (λ (key : Key). key.node == from) (λ (key : Key). ((key.page ≡ page) × IsNoticed store key) × (is_none (changes_at store key) ≡ true)) unknown
    (filter-both (λ (key : Key). is_none (changes_at store key)) (λ (key : Key). (key.page ≡ page) × IsNoticed store key) (missing_at memory page)
    (lacking-noticed memory page (copy_at memory page) s)))))
