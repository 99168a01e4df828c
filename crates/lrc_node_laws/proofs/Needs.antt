-- What a node needs of pages fits its memory, and every change keeps it so.
use Rattle.std.proofs.Common.{◌≡◌, ℕ, zero, suc, ◌+◌, ◌<◌, ◌≤◌, List, [], ◌∷◌, Bool, true, false, length, refl, sym, ap, subst, ◌∙◌, ⊎_elim, arith}
use Rattle.std.specs.Prelude.{All, not, ◌==◌, ◌&&◌, map, filter, slice_index_or}
use Rattle.std.specs.List.{list_any, range_with_len}
use Rattle.std.proofs.lemmas.Bool.{cond_both, false≢true, or_cases, not-true}
use Rattle.std.proofs.lemmas.List.Elements.{All-nil, All-cons, All-head, All-tail, All-map, All-filter, All-weaker, All-get_or}
use Rattle.lrc_store.specs.Store.{intervals_of}
use Rattle.lrc_protocol.specs.Times.{is_named}
use Rattle.lrc_protocol.specs.Pages.{Copy, valid, written, invalid, absent, is_readable, Memory, copy_at, keeper_at, Need, base_of, need_of}
use Rattle.lrc_protocol.specs.Barriers.{kept_pages}
use Rattle.lrc_protocol.specs.Node.{Wait, nothing, grant, departure, access, upkeep, discard, needs_of}
use Rattle.lrc_protocol.specs.Turn.{with_needs}
use Rattle.lrc_node_laws.specs.Ranges.{HasRanges}
use Rattle.lrc_node_laws.specs.Needs.{FitsBase, FitsNeed, FitsKept}
use Rattle.lrc_node_laws.proofs.Indices.{Ascends, range-ascends}
use Rattle.lrc_node_laws.proofs.Change.{is_settled, is_open}

-- ---- lists

pub range-within : (a m n : ℕ) → a + m ≤ n → All (λ k. k < n) (range_with_len a m)
range-within a zero n h = All-nil (λ k. k < n)
range-within a (suc m) n h = All-cons (λ k. k < n) a (range_with_len (a + 1) m) (omega arith) (range-within (a + 1) m n (omega arith))

pub ascends-filter : (test : ℕ → Bool) (xs : List ℕ) → Ascends xs → Ascends (filter test xs)
ascends-filter test [] h = tt
ascends-filter test (x ∷ xs) h =
    let rest : Ascends (filter test xs) = ascends-filter test xs h.1 in
    cond_both (test x) (x ∷ filter test xs) (filter test xs) Ascends
    (λ e. (All-filter test (λ y. x < y) xs h.0, rest)) (λ e. rest)

-- what passes a test, of a list of which something holds
pub filter-both : {X : Type 0} (test : X → Bool) (P : X → Type 0) (xs : List X) → All P xs → All (λ x. P x × (test x ≡ true)) (filter test xs)
filter-both test P [] h = All-nil (λ x. P x × (test x ≡ true))
filter-both test P (x ∷ xs) h =
    let rest : All (λ x. P x × (test x ≡ true)) (filter test xs) = filter-both test P xs (All-tail P x xs h) in
    cond_both (test x) (x ∷ filter test xs) (filter test xs) (All (λ x. P x × (test x ≡ true)))
    (λ e. All-cons (λ x. P x × (test x ≡ true)) x (filter test xs) (All-head P x xs h, e) rest)
    (λ e. rest)

-- something passes
pub any_fits : {X : Type 0} (P : X → Type 0) (test : X → Bool) (Q : Type 0) → ((x : X) → P x → test x ≡ true → Q) → (xs : List X)
    → All P xs → list_any test xs ≡ true → Q
any_fits P test Q says [] h e = absurd (false≢true e)
any_fits P test Q says (x ∷ xs) h e =
    ⊎_elim
    (λ here. says x (All-head P x xs h) here)
    (λ later. any_fits P test Q says xs (All-tail P x xs h) later)
    (or_cases (test x) (list_any test xs) e)

pub same_pages : (change : Need → Need) → ((need : Need) → (change need).page ≡ need.page) → (needs : List Need)
    → map (λ (need : Need). need.page) (map change needs) ≡ map (λ (need : Need). need.page) needs
same_pages change same [] = refl
same_pages change same (need ∷ needs) =
    ap (λ p. p ∷ map (λ (need : Need). need.page) (map change needs)) (same need) ∙ ap (λ l. need.page ∷ l) (same_pages change same needs)

pub pages_needed : (nodes : ℕ) (memory : Memory) (pages : List ℕ) → map (λ (need : Need). need.page) (map (need_of nodes memory) pages) ≡ pages
pages_needed nodes memory [] = refl
pages_needed nodes memory (page ∷ pages) = ap (λ l. page ∷ l) (pages_needed nodes memory pages)

-- ---- what is needed

base-fits : (nodes words keeper : ℕ) (copy : Copy) → is_readable copy ≡ false → keeper < nodes → FitsBase nodes words copy (base_of keeper copy)
base-fits nodes words keeper (valid values) r lt = cc
base-fits nodes words keeper (written values twin) r lt = cc
base-fits nodes words keeper (invalid values since) r lt = tt
base-fits nodes words keeper absent r lt = lt

pub need-fits : (nodes pages words : ℕ) (memory : Memory) (page : ℕ) → HasRanges nodes pages memory → page < pages
    → is_readable (copy_at memory page) ≡ false → FitsNeed nodes pages words memory (need_of nodes memory page)
need-fits nodes pages words memory page h lt r = record {
  in_range = lt;
  base = base-fits nodes words (keeper_at memory page) (copy_at memory page) r
      (All-get_or (λ keeper. keeper < nodes) memory.keepers page 0 (omega (arith, lt, h.keepers)) h.keeping);
  missing = refl;
  asked = refl;
}

-- the pages that a node keeps are pages
pub kept-below : (me pages : ℕ) (memory : Memory) → length memory.keepers ≡ pages → All (λ page. page < pages) (kept_pages me memory)
kept-below me pages memory long =
    All-filter (λ page. is_named (intervals_of memory.store) page && (keeper_at memory page == me)) (λ page. page < pages)
    (range_with_len 0 (length memory.keepers)) (range-within 0 (length memory.keepers) pages (omega arith))

pub kept-ascends : (me : ℕ) (memory : Memory) → Ascends (kept_pages me memory)
kept-ascends me memory =
    ascends-filter (λ page. is_named (intervals_of memory.store) page && (keeper_at memory page == me)) (range_with_len 0 (length memory.keepers))
    (range-ascends 0 (length memory.keepers))

pub needs-fit : (me nodes pages words : ℕ) (memory : Memory) → HasRanges nodes pages memory
    → All (FitsNeed nodes pages words memory) (map (need_of nodes memory) (filter (λ page. not (is_readable (copy_at memory page))) (kept_pages me memory)))
needs-fit me nodes pages words memory h =
    let unread : ℕ → Bool = λ page. not (is_readable (copy_at memory page)) in
    All-map (FitsNeed nodes pages words memory) (need_of nodes memory) (filter unread (kept_pages me memory))
    (All-weaker (λ page. (page < pages) × (unread page ≡ true)) (λ page. FitsNeed nodes pages words memory (need_of nodes memory page))
    (λ page is. need-fits nodes pages words memory page h is.0 (not-true (is_readable (copy_at memory page)) is.1))
    (filter unread (kept_pages me memory)) (filter-both unread (λ page. page < pages) (kept_pages me memory) (kept-below me pages memory h.keepers)))

-- ---- waits

pub needs-with : (change : Need → Need) (w : Wait) → needs_of (with_needs change w) ≡ map change (needs_of w)
needs-with change nothing = refl
needs-with change (grant lock) = refl
needs-with change departure = refl
needs-with change (access need) = refl
needs-with change (upkeep collection needs) = refl
needs-with change (discard collection) = refl

pub open-needs : (w : Wait) → is_open w ≡ true → needs_of w ≡ []
open-needs nothing o = cc
open-needs (grant lock) o = refl
open-needs departure o = refl
open-needs (access need) o = cc
open-needs (upkeep collection needs) o = cc
open-needs (discard collection) o = refl

pub settled-needs : (w : Wait) → is_settled w ≡ true → needs_of w ≡ []
settled-needs nothing o = refl
settled-needs (grant lock) o = refl
settled-needs departure o = refl
settled-needs (access need) o = cc
settled-needs (upkeep collection needs) o = cc
settled-needs (discard collection) o = refl

pub settled-kept : (me : ℕ) (memory : Memory) (w : Wait) → is_settled w ≡ true → FitsKept me memory w
settled-kept me memory nothing o = tt
settled-kept me memory (grant lock) o = tt
settled-kept me memory departure o = tt
settled-kept me memory (access need) o = cc
settled-kept me memory (upkeep collection needs) o = cc
settled-kept me memory (discard collection) o = cc

pub open-settled : (w : Wait) → is_open w ≡ true → is_settled w ≡ true
open-settled nothing o = refl
open-settled (grant lock) o = refl
open-settled departure o = refl
open-settled (access need) o = cc
open-settled (upkeep collection needs) o = cc
open-settled (discard collection) o = cc

-- the same pages are kept, and the same copies are readable
pub kept-same : (me : ℕ) (change : Need → Need) (a b : Memory) → ((need : Need) → (change need).page ≡ need.page) → kept_pages me b ≡ kept_pages me a
    → b.copies ≡ a.copies → (w : Wait) → FitsKept me a w → FitsKept me b (with_needs change w)
kept-same me change a b same k c nothing h = tt
kept-same me change a b same k c (grant lock) h = tt
kept-same me change a b same k c departure h = tt
kept-same me change a b same k c (access need) h = tt
kept-same me change a b same k c (upkeep collection needs) h = (
  h.0 ∙ sym k,
  same_pages change same needs ∙ h.1
      ∙ ap (λ (copies : List Copy). filter (λ page. not (is_readable (slice_index_or copies page absent))) collection.kept) (sym c),
)
kept-same me change a b same k c (discard collection) h = (
  h.0 ∙ sym k,
  subst (λ (copies : List Copy). All (λ page. is_readable (slice_index_or copies page absent) ≡ true) collection.kept) (sym c) h.1,
)
