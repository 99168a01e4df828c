-- A node asks nothing of itself, and knows all changes of its own.
use Rattle.std.proofs.Common.{◌≡◌, ℕ, ◌<◌, List, [], ◌∷◌, Bool, true, false, refl, sym, ap, subst, ◌∙◌, inl, inr, arith}
use Rattle.std.specs.Prelude.{Option, Some, None, is_some, All, ◌==◌, map, filter, find, option_and_then, nat_lt, if◌then◌else◌}
use Rattle.std.specs.List.{range_with_len}
use Rattle.std.proofs.lemmas.Bool.{and_parts, cases_Bool, eqb-true, ne_eqb}
use Rattle.std.proofs.lemmas.Option.{same_Some}
use Rattle.std.proofs.lemmas.List.Elements.{All-head, All-tail, All-weaker}
use Rattle.lrc_store.specs.declared.key.Key.{Key}
use Rattle.lrc_store.specs.Order.{ascending_part}
use Rattle.lrc_store.specs.Store.{NoticeRecord, StoredRecord, is_at, stored_at, notice_of, notice_at, changes_at}
use Rattle.lrc_store.proofs.Lookups.{passes-find}
use Rattle.lrc_protocol.specs.Pages.{Asked, indices_of, some_asked, asked_of, Memory}
use Rattle.lrc_node_laws.specs.Own.{IsAttached, OwnAttached}
use Rattle.lrc_node_laws.proofs.Lists.{All-chosen}
use Rattle.lrc_node_laws.proofs.Needs.{range-within}

-- ---- makers

filter_no : {X : Type 0} (test : X → Bool) (xs : List X) → All (λ x. test x ≡ false) xs → filter test xs ≡ []
filter_no test [] h = refl
filter_no test (x ∷ xs) h =
    ap (λ b. if b then x ∷ filter test xs else filter test xs) (All-head (λ x. test x ≡ false) x xs h)
    ∙ filter_no test xs (All-tail (λ x. test x ≡ false) x xs h)

-- nothing is asked of who made none of the keys
none-asked : (keys : List Key) (me : ℕ) → All (λ (key : Key). key.node ≡ me → ⊥) keys → indices_of keys me ≡ []
none-asked keys me h =
    ap (λ l. ascending_part nat_lt (λ index. true) (map (λ (key : Key). key.index) l))
    (filter_no (λ (key : Key). key.node == me) keys
    (All-weaker (λ (key : Key). key.node ≡ me → ⊥) (λ (key : Key). (key.node == me) ≡ false) (λ key ne. ne_eqb key.node me ne) keys h))

asked-apart : (keys : List Key) (me maker : ℕ) (indices : List ℕ) (asked : Asked) → indices_of keys maker ≡ indices → indices_of keys me ≡ []
    → some_asked maker indices ≡ Some asked → asked.maker ≡ me → ⊥
asked-apart keys me maker [] asked i n s e = none_is (some_asked maker []) asked refl s
  where
    none_is : (o : Option Asked) (asked : Asked) → o ≡ None → o ≡ Some asked → ⊥
    none_is o asked n s = cc
asked-apart keys me maker (index ∷ indices) asked i n s e =
    let is : record { maker = maker; indices = index ∷ indices } ≡ asked = same_Some _ asked s in
    let of_me : maker ≡ me = ap (λ (a : Asked). a.maker) is ∙ e in
    let none : index ∷ indices ≡ [] = sym i ∙ ap (indices_of keys) of_me ∙ n in
    cons_nil index indices none
  where
    cons_nil : (x : ℕ) (xs : List ℕ) → x ∷ xs ≡ [] → ⊥
    cons_nil x xs e = cc

some-maker : (maker : ℕ) (indices : List ℕ) (asked : Asked) → some_asked maker indices ≡ Some asked → maker ≡ asked.maker
some-maker maker [] asked s = cc
some-maker maker (index ∷ indices) asked s =
    let is : record { maker = maker; indices = index ∷ indices } ≡ asked = same_Some _ asked s in
    ap (λ (a : Asked). a.maker) is

pub makers-other : (nodes me : ℕ) (keys : List Key) → All (λ (key : Key). key.node ≡ me → ⊥) keys
    → All (λ (asked : Asked). (asked.maker < nodes) × (asked.maker ≡ me → ⊥)) (asked_of nodes keys)
makers-other nodes me keys h =
    All-chosen (λ maker. maker < nodes) (λ (asked : Asked). (asked.maker < nodes) × (asked.maker ≡ me → ⊥)) (λ maker. some_asked maker (indices_of keys maker))
    (λ maker asked lt s. (
      subst (λ k. k < nodes) (some-maker maker (indices_of keys maker) asked s) lt,
      asked-apart keys me maker (indices_of keys maker) asked refl (none-asked keys me h) s,
    ))
    (range_with_len 0 nodes) (range-within 0 nodes nodes (omega arith))

-- ---- own changes

find-All : {X : Type 0} (P : X → Type 0) (test : X → Bool) (xs : List X) (x : X) → All P xs → find test xs ≡ Some x → P x
find-All P test [] x h e = cc
find-All P test (y ∷ ys) x h e = elim (cases_Bool (test y)) [
  | inl passes ↦ subst P (same_Some y x (sym (ap (λ b. if b then Some y else find test ys) passes) ∙ e)) (All-head P y ys h)
  | inr fails ↦ find-All P test ys x (All-tail P y ys h) (sym (ap (λ b. if b then Some y else find test ys) fails) ∙ e)
]

known-notice : (page : ℕ) (stored : StoredRecord) → IsAttached stored → is_some (notice_of page stored) ≡ true
    → is_some (option_and_then (λ (notice : NoticeRecord). notice.changes) (notice_of page stored)) ≡ true
known-notice page stored h n = by_found (notice_of page stored) refl n
  where
    by_found : (o : Option NoticeRecord) → notice_of page stored ≡ o → is_some o ≡ true
        → is_some (option_and_then (λ (notice : NoticeRecord). notice.changes) o) ≡ true
    by_found None e n = cc
    by_found (Some notice) e n =
        find-All (λ (notice : NoticeRecord). is_some notice.changes ≡ true) (λ (notice : NoticeRecord). notice.page == page) stored.notices notice h e

pub own-known : (me index page : ℕ) (memory : Memory) → OwnAttached me memory
    → is_some (notice_at memory.store (record { node = me; index = index; page = page })) ≡ true
    → is_some (changes_at memory.store (record { node = me; index = index; page = page })) ≡ true
own-known me index page memory h n = by_found (stored_at memory.store.entries me index) refl n
  where
    by_found : (o : Option StoredRecord) → stored_at memory.store.entries me index ≡ o → is_some (option_and_then (notice_of page) o) ≡ true
        → is_some (option_and_then (λ (notice : NoticeRecord). notice.changes) (option_and_then (notice_of page) o)) ≡ true
    by_found None e n = cc
    by_found (Some stored) e n =
        let at : _ = and_parts (stored.node == me) _ (passes-find (is_at me index) memory.store.entries stored e) in
        known-notice page stored
        (find-All (λ (stored : StoredRecord). stored.node ≡ me → IsAttached stored) (is_at me index) memory.store.entries stored h e
        (eqb-true stored.node me at.0)) n
