-- The changes of a key that are known: those that its page has still to make, or else those that are made.
use Rattle.std.proofs.Common.{◌≡◌, ◌∙◌, ℕ, Bool, true, false, cond, eqb, eqb-true, ◌&&◌, Option, Some, None, List, get_or, refl, ap, sym, subst}
use Rattle.std.specs.Option.{option_and_then, option_map, option_or}
use Rattle.std.proofs.lemmas.Bool.{and_parts}
use Rattle.lrc_page.specs.declared.changes.Change.{Change}
use Rattle.lrc_store.specs.declared.key.Key.{Key}
use Rattle.lrc_store.specs.Store.{NoticeRecord, changes_at, notice_at}
use Rattle.lrc_table.specs.PageCopy.{pending_changes}
use Rattle.lrc_table.specs.Table.{copy_at}
use Rattle.lrc_memory.specs.View.{Kept, IsKept, NodeMemory, node_seen, seen, unmade}
use Rattle.lrc_memory.proofs.Mending.{changes-over}
use Rattle.lrc_memory.proofs.Overlays.{notice_at-over, notice_seen}

-- whether the key is of the own interval that named its page last
abbrev is_newest : Kept → Key → Bool
is_newest kept key = eqb key.node kept.me && eqb (get_or kept.named key.page 0) key.index

some_of : {A : Type 0} (b : Bool) (x : Option A) (a : A) → cond b x None ≡ Some a → (b ≡ true) × (x ≡ Some a)
some_of true x a is = (refl, is)
some_of false x a is = let never : ⊥ = cc in absurd never

-- what is still to be made is seen as made
changes-unmade : (kept : Kept) (key : Key) (changes : List Change) → IsKept kept → unmade kept.me kept.named kept.table key ≡ Some changes
    → changes_at (seen kept).store key ≡ Some changes
changes-unmade kept key changes is to_make =
    let parts = some_of (is_newest kept key) (pending_changes (copy_at kept.table key.page)) changes to_make in
    let both = and_parts (eqb key.node kept.me) _ parts.0 in
    let node : key.node ≡ kept.me = eqb-true _ _ both.0 in
    let index : get_or kept.named key.page 0 ≡ key.index = eqb-true _ _ both.1 in
    let key_is : (record { node = kept.me; index = get_or kept.named key.page 0; page = key.page }) ≡ key =
    ap (λ (n : ℕ). record { node = n; index = get_or kept.named key.page 0; page = key.page }) (sym node)
    ∙ ap (λ (i : ℕ). record { node = key.node; index = i; page = key.page }) index in
    let notice : notice_at kept.store key ≡ Some (record { page = key.page; changes = None }) =
    subst (λ (k : Key). notice_at kept.store k ≡ Some (record { page = key.page; changes = None })) key_is (is.unmade key.page changes parts.1) in
    let other = unmade kept.me kept.named kept.table in
    ap (option_and_then (λ (n : NoticeRecord). n.changes)) (notice_at-over other kept.store key ∙ ap (option_map (notice_seen other key)) notice)
    ∙ ap (λ found. option_or found None) to_make

-- by what is still to be made
pub known-unmade : (kept : Kept) (n : NodeMemory) (key : Key) (changes : List Change) → node_seen kept ≡ n → IsKept kept
    → unmade kept.me kept.named kept.table key ≡ Some changes → Some changes ≡ changes_at n.memory.store key
known-unmade kept n key changes view is to_make =
    sym (changes-unmade kept key changes is to_make) ∙ ap (λ (n : NodeMemory). changes_at n.memory.store key) view

pub known-made : (kept : Kept) (n : NodeMemory) (key : Key) → node_seen kept ≡ n → unmade kept.me kept.named kept.table key ≡ None
    → changes_at kept.store key ≡ changes_at n.memory.store key
known-made kept n key view none =
    sym (changes-over (unmade kept.me kept.named kept.table) kept.store key none)
    ∙ ap (λ (n : NodeMemory). changes_at n.memory.store key) view
