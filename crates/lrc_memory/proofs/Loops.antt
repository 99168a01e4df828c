-- Steps of the loops.
use Rattle.std.proofs.Common.{◌≡◌, ◌≢◌, ◌∙◌, ℕ, suc, ◌+◌, ◌<◌, ◌≤◌, ◌⊎◌, ⊎_elim, inl, inr, Bool, true, false, cond, eqb, Option}
use Rattle.std.proofs.Common.{Some, None, List, [], ◌∷◌, map, length, get_or, take, refl, ap, sym, subst, arith}
use Rattle.std.specs.Prelude.{All, fold, unwrap_or}
use Rattle.std.specs.List.{range_with_len, find}
use Rattle.std.specs.Option.{ForSome, option_and_then}
use Rattle.std.proofs.lemmas.Bool.{cases_eq, eq-eqb, ne_eqb}
use Rattle.std.proofs.lemmas.List.{ext_get_or, length-set, length-map, get_or-map, take-map, set-set, set-get_or}
use Rattle.std.proofs.lemmas.List.Sums.{fold_more}
use Rattle.std.proofs.lemmas.List.FromFn.{get_or-map-range_with_len, length-map-range_with_len}
use Rattle.lrc_page.specs.declared.changes.Change.{Change}
use Rattle.lrc_page.specs.declared.size.Size.{Size}
use Rattle.lrc_page.specs.Page.{words_of}
use Rattle.lrc_page.specs.Changes.{applied}
use Rattle.lrc_page.proofs.ChangeLists.{applied-nil}
use Rattle.lrc_store.specs.declared.key.Key.{Key}
use Rattle.lrc_store.specs.Store.{NoticeRecord, StoredRecord, StoreRecord, notice_of, stored_at, changes_at, is_at}
use Rattle.lrc_table.specs.PageCopy.{PageCopy, fresh, without_base, patched}
use Rattle.lrc_table.specs.Table.{Table, copy_at, with_copy}
use Rattle.lrc_table.proofs.Tables.{copy_at-with_copy, copy_at-with_copy_other}
use Rattle.lrc_protocol.specs.Pages.{changes_or_none}
use Rattle.lrc_memory.specs.View.{AreSized}
use Rattle.lrc_memory.specs.Steps.{patched_with, kept_base, without_bases}

-- ---- base copies of other nodes' pages, page by page

pub record IsDropped (me : ℕ) (keepers : List ℕ) (old new : Table) (i : ℕ) : Type 0 where
  pub size : new.size ≡ old.size
  pub long : length new.copies ≡ length old.copies
  pub done : (p : ℕ) → p < i → copy_at new p ≡ kept_base me keepers old p
  pub rest : (p : ℕ) → i ≤ p → copy_at new p ≡ copy_at old p

pub drop_starts : (me : ℕ) (keepers : List ℕ) (old : Table) → IsDropped me keepers old old 0
drop_starts me keepers old = record {
  size = refl;
  long = refl;
  done = λ p below. absurd (omega arith);
  rest = λ p above. refl;
}

at-more : (p i : ℕ) → p < i + 1 → (p ≡ i) ⊎ (p < i)
at-more p i below = either (cases_eq p i)
  where
    either : ((p ≡ i) ⊎ (p ≢ i)) → (p ≡ i) ⊎ (p < i)
    either (inl same) = inl same
    either (inr apart) = inr (omega arith)

pub drop_keeps : (me : ℕ) (keepers : List ℕ) (old new : Table) (i : ℕ) → get_or keepers i 0 ≡ me → IsDropped me keepers old new i
    → IsDropped me keepers old new (i + 1)
drop_keeps me keepers old new i mine so_far = record {
  size = so_far.size;
  long = so_far.long;
  done = λ p below.
      ⊎_elim
      (λ (same : p ≡ i).
      so_far.rest p (omega (arith, same))
      ∙ sym (ap (λ b. cond b (copy_at old p) (without_base (copy_at old p))) (eq-eqb (get_or keepers p 0) me (ap (λ i. get_or keepers i 0) same ∙ mine))))
      (λ (less : p < i). so_far.done p less)
      (at-more p i below);
  rest = λ p above. so_far.rest p (omega arith);
}

pub drop_drops : (me : ℕ) (keepers : List ℕ) (old new after : Table) (i : ℕ) → get_or keepers i 0 ≢ me → i < length old.copies
    → after ≡ with_copy new i (without_base (copy_at new i)) → IsDropped me keepers old new i → IsDropped me keepers old after (i + 1)
drop_drops me keepers old new after i other within is so_far =
    let inside : i < length new.copies = omega (arith, so_far.long, within) in
    rw is
    (record {
      size = so_far.size;
      long = length-set new.copies i (without_base (copy_at new i)) ∙ so_far.long;
      done = λ p below.
          ⊎_elim
          (λ (same : p ≡ i).
          ap (copy_at (with_copy new i (without_base (copy_at new i)))) same
          ∙ copy_at-with_copy new i (without_base (copy_at new i)) inside
          ∙ ap without_base (so_far.rest i (omega arith))
          ∙ sym (ap (λ b. cond b (copy_at old i) (without_base (copy_at old i))) (ne_eqb (get_or keepers i 0) me other))
          ∙ ap (kept_base me keepers old) (sym same))
          (λ (less : p < i).
          copy_at-with_copy_other new i p (without_base (copy_at new i)) (λ same. absurd (omega (arith, same, less))) ∙ so_far.done p less)
          (at-more p i below);
      rest = λ p above.
          copy_at-with_copy_other new i p (without_base (copy_at new i)) (λ same. absurd (omega (arith, same, above))) ∙ so_far.rest p (omega arith);
    })

pub drop_ends : (me : ℕ) (keepers : List ℕ) (old new : Table) (i : ℕ) → length old.copies ≤ i → IsDropped me keepers old new i
    → new ≡ without_bases me keepers old
drop_ends me keepers old new i past so_far =
    let n = length old.copies in
    let copies : new.copies ≡ map (kept_base me keepers old) (range_with_len 0 n) =
    ext_get_or (fresh []) new.copies (map (kept_base me keepers old) (range_with_len 0 n))
    (so_far.long ∙ sym (length-map-range_with_len (kept_base me keepers old) 0 n))
    (λ p within.
    let below : p < n = omega (arith, so_far.long, within) in
    so_far.done p (omega arith) ∙ sym (get_or-map-range_with_len (kept_base me keepers old) 0 n p p (fresh []) below (omega arith))) in
    ap (λ (s : Size). record { size = s; copies = new.copies }) so_far.size
    ∙ ap (λ (cs : List PageCopy). record { size = old.size; copies = cs }) copies

-- ---- changes written into a copy, key by key

patched-more : (store : StoreRecord) (copy : PageCopy) (keys : List Key) (i : ℕ) (d : Key) → i < length keys
    → patched_with store copy (take (i + 1) keys) ≡ patched (patched_with store copy (take i keys)) (changes_or_none store (get_or keys i d))
patched-more store copy keys i d within =
    let f = changes_or_none store in
    ap (λ (vs : List ℕ). record copy { values = vs })
    (ap (fold applied copy.values) (sym (take-map f (i + 1) keys))
    ∙ fold_more applied copy.values (map f keys) i (f d) (omega (arith, length-map keys f, within))
    ∙ ap (λ l. applied (fold applied copy.values l) (get_or (map f keys) i (f d))) (take-map f i keys)
    ∙ ap (λ c. applied (fold applied copy.values (map f (take i keys))) c) (get_or-map f keys i d (f d) within))

pub patch_more : (store : StoreRecord) (old mid new : Table) (page : ℕ) (keys : List Key) (i : ℕ) (d : Key) → page < length old.copies
    → i < length keys → mid ≡ with_copy old page (patched_with store (copy_at old page) (take i keys))
    → new ≡ with_copy mid page (patched (copy_at mid page) (changes_or_none store (get_or keys i d)))
    → new ≡ with_copy old page (patched_with store (copy_at old page) (take (i + 1) keys))
patch_more store old mid new page keys i d within inside mid_is new_is =
    let so_far = patched_with store (copy_at old page) (take i keys) in
    let more = changes_or_none store (get_or keys i d) in
    new_is
    ∙ ap (λ (t : Table). with_copy t page (patched (copy_at t page) more)) mid_is
    ∙ ap (λ c. with_copy (with_copy old page so_far) page (patched c more)) (copy_at-with_copy old page so_far within)
    ∙ ap (λ (cs : List PageCopy). record old { copies = cs }) (set-set old.copies page so_far (patched so_far more))
    ∙ ap (with_copy old page) (sym (patched-more store (copy_at old page) keys i d inside))

-- where no changes are known nothing is written
pub patch_none : (store : StoreRecord) (mid : Table) (page : ℕ) (key : Key) → changes_at store key ≡ None
    → mid ≡ with_copy mid page (patched (copy_at mid page) (changes_or_none store key))
patch_none store mid page key none =
    sym (ap (λ found. with_copy mid page (patched (copy_at mid page) (unwrap_or found []))) none
    ∙ ap (λ vs. with_copy mid page (record (copy_at mid page) { values = vs })) (applied-nil (copy_at mid page).values)
    ∙ ap (λ (cs : List PageCopy). record mid { copies = cs }) (set-get_or mid.copies page (fresh [])))

find-holds : {X : Type 0} (P : X → Type 0) (test : X → Bool) (xs : List X) (x : X) → All P xs → find test xs ≡ Some x → P x
find-holds P test [] x all found = absurd (cc)
find-holds P test (y ∷ ys) x all found =
    by_test (test y) (λ found. find-holds P test ys x (λ k d within. all (suc k) d (omega arith)) found) found
  where
    by_test : (b : Bool) → (find test ys ≡ Some x → P x) → cond b (Some y) (find test ys) ≡ Some x → P x
    by_test true rest found = let e : y ≡ x = cc in subst P e (all 0 y (omega arith))
    by_test false rest found = rest found

-- known changes are of words of a page
pub sized-known : (size : Size) (store : StoreRecord) (key : Key) (changes : List Change) → All (AreSized size) store.entries
    → changes_at store key ≡ Some changes → All (λ c. c.offset < words_of size) changes
sized-known size store key changes all is = by_stored (stored_at store.entries key.node key.index) refl is
  where
    by_notice : (found : Option NoticeRecord) → ForSome found (λ n. ForSome n.changes (λ cs. All (λ c. c.offset < words_of size) cs))
        → option_and_then (λ (n : NoticeRecord). n.changes) found ≡ Some changes → All (λ c. c.offset < words_of size) changes
    by_notice None here is = absurd (cc)
    by_notice (Some n) here is = here n refl changes is

    by_stored : (found : Option StoredRecord) → stored_at store.entries key.node key.index ≡ found
        → option_and_then (λ (n : NoticeRecord). n.changes) (option_and_then (notice_of key.page) found) ≡ Some changes
        → All (λ c. c.offset < words_of size) changes
    by_stored None at is = absurd (cc)
    by_stored (Some s) at is =
        by_notice (notice_of key.page s)
        (λ n there.
        find-holds (λ (n : NoticeRecord). ForSome n.changes (λ cs. All (λ c. c.offset < words_of size) cs)) (λ n. eqb n.page key.page) s.notices n
        (find-holds (AreSized size) (is_at key.node key.index) store.entries s all at) there)
        is
