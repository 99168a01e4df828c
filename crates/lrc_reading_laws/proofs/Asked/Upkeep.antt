-- A node inside a collection asks for no base copy: each page that it keeps anew was written here, so that its copy is not absent.
use Rattle.std.proofs.Common.{◌≡◌, ℕ, ◌+◌, ◌<◌, List, [], ◌∷◌, Bool, true, false, length, refl, sym, ap, subst, ◌∙◌, ◌⊎◌, inl, inr, ◌≤◌, ⊎_elim, arith}
use Rattle.std.specs.Prelude.{Option, Some, None, All, ◌==◌, ◌&&◌, not, min, unwrap_or, option_map, filter, filter_map, slice_index, if◌then◌else◌}
use Rattle.std.specs.List.{list_any, enumerate_from, range_with_len, cons_option}
use Rattle.std.proofs.lemmas.Bool.{and_parts, or_cases, or_left, cases_lt, eqb-true, false≢true}
use Rattle.std.proofs.lemmas.Option.{same_Some}
use Rattle.std.proofs.lemmas.List.{get_or-map}
use Rattle.std.proofs.lemmas.List.FromFn.{get_or-enumerate_from, length-enumerate_from}
use Rattle.std.proofs.lemmas.List.Elements.{All-head, All-tail, All-map, All-filter, All-weaker}
use Rattle.lrc_program.specs.declared.Program.{Program}
use Rattle.lrc_store.specs.Interval.{IntervalRecord, index_of}
use Rattle.lrc_store.specs.Store.{intervals_of}
use Rattle.lrc_protocol.specs.Times.{is_named}
use Rattle.lrc_protocol.specs.Pages.{Copy, valid, written, invalid, absent, is_readable, Memory, copy_at, keeper_at, unneeded, Asked, Need}
use Rattle.lrc_protocol.specs.Pages.{base_of, need_of, is_due_from, awaits_page, changes_came, page_came}
use Rattle.lrc_protocol.specs.Barriers.{least, namers_of, kept_pages, with_keepers}
use Rattle.lrc_protocol.specs.Node.{Wait, nothing, grant, departure, access, upkeep, discard, needs_of, Node, OptionsRecord}
use Rattle.lrc_protocol.specs.Turn.{with_needs}
use Rattle.lrc_node_laws.specs.Own.{HasOwn, OwnCopied}
use Rattle.lrc_node_laws.specs.Reached.{IsReached}
use Rattle.lrc_node_laws.proofs.Lists.{All-chosen, length-placed}
use Rattle.lrc_node_laws.proofs.Needs.{range-within, filter-both, any_fits}
use Rattle.lrc_node_laws.proofs.Change.{View, view_of, kept_in, needs_in, Change, Walk, stands, goes, receives, manages, moves, puts, closes, learns}
use Rattle.lrc_node_laws.proofs.Change.{resumes, begins, cleans, discards, misses, mends, gets_changes, gets_page, is_settled}
use Rattle.lrc_node_laws.proofs.Reach.{first_view}
use Rattle.lrc_node_laws.proofs.Tokened.{come_to}
use Rattle.lrc_node_laws.proofs.Always.{copied_own}

-- ---- the least of some numbers is one of them

least-by : (Q : ℕ → Type 0) (x : ℕ) (o : Option ℕ) (m : ℕ) → Q x → ((y : ℕ) → o ≡ Some y → Q y) → unwrap_or (option_map (min x) o) x ≡ m → Q m
least-by Q x None m h k e = subst Q e h
least-by Q x (Some y) m h k e =
    ⊎_elim (λ is. subst Q (sym is ∙ e) h) (λ is. subst Q (sym is ∙ e) (k y refl)) (lesser x y)
  where
    lesser : (x y : ℕ) → (min x y ≡ x) ⊎ (min x y ≡ y)
    lesser x y = ⊎_elim (λ (lt : x < y). inl (omega (arith, lt))) (λ (le : y ≤ x). inr (omega (arith, le))) (cases_lt x y)

pub least-in : (Q : ℕ → Type 0) (xs : List ℕ) (m : ℕ) → All Q xs → least xs ≡ Some m → Q m
least-in Q [] m h e = cc
least-in Q (x ∷ xs) m h e =
    least-by Q x (least xs) m (All-head Q x xs h) (λ y is. least-in Q xs y (All-tail Q x xs h) is)
    (same_Some (unwrap_or (option_map (min x) (least xs)) x) m e)

-- ---- who names a page

named-in : (i : IntervalRecord) (page : ℕ) → is_named (i ∷ []) page ≡ true → list_any (λ named. named == page) i.pages ≡ true
named-in i page e =
    ⊎_elim (λ here. here) (λ none. absurd (false≢true none)) (or_cases (list_any (λ named. named == page) i.pages) false e)

namer-by : (Q : ℕ → Type 0) (i : IntervalRecord) (page : ℕ) (b : Bool) (y : ℕ) → is_named (i ∷ []) page ≡ b
    → (is_named (i ∷ []) page ≡ true → Q i.node) → (if b then Some i.node else None) ≡ Some y → Q y
namer-by Q i page true y is k e = subst Q (same_Some i.node y e) (k is)
namer-by Q i page false y is k e = cc

some_left : (o : Option ℕ) (xs : List ℕ) → least (cons_option o xs) ≡ None → (o ≡ None) × (least xs ≡ None)
some_left None xs e = (refl, e)
some_left (Some x) xs e = cc

chosen-not : (i : IntervalRecord) (page : ℕ) (b : Bool) → is_named (i ∷ []) page ≡ b → (if b then Some i.node else None) ≡ None → b ≡ false
chosen-not i page true is e = cc
chosen-not i page false is e = refl

none-named : (xs : List IntervalRecord) (page : ℕ) → least (filter_map (λ i. if is_named (i ∷ []) page then Some i.node else None) xs) ≡ None
    → is_named xs page ≡ true → ⊥
none-named [] page e n = false≢true n
none-named (i ∷ xs) page e n =
    let both : _ =
    some_left (if is_named (i ∷ []) page then Some i.node else None) (filter_map (λ i. if is_named (i ∷ []) page then Some i.node else None) xs) e in
    let unnamed : is_named (i ∷ []) page ≡ false = chosen-not i page (is_named (i ∷ []) page) refl both.0 in
    ⊎_elim
    (λ here. false≢true (sym unnamed ∙ or_left (list_any (λ named. named == page) i.pages) false here))
    (λ later. none-named xs page both.1 later)
    (or_cases (list_any (λ named. named == page) i.pages) (is_named xs page) n)

-- ---- a page that a node keeps anew is not absent there

there : (me index : ℕ) (copy : Copy) → HasOwn me index copy → copy ≡ absent → ⊥
there me index copy h e = subst (HasOwn me index) e h

-- the new keeper of a page that is named
kept-named : (memory : Memory) (page : ℕ) (o : Option ℕ) (me : ℕ) → least (namers_of memory.store page) ≡ o → is_named (intervals_of memory.store) page ≡ true
    → unwrap_or o (slice_index memory.keepers page) ≡ me → least (namers_of memory.store page) ≡ Some me
kept-named memory page None me is n e = absurd (none-named (intervals_of memory.store) page is n)
kept-named memory page (Some k) me is n e = is ∙ ap Some e

new-keeper : (memory : Memory) (page : ℕ) → page < length memory.keepers
    → keeper_at (with_keepers memory) page ≡ unwrap_or (least (namers_of memory.store page)) (slice_index memory.keepers page)
new-keeper memory page lt =
    let f : ℕ × ℕ → ℕ = λ place. unwrap_or (least (namers_of memory.store place.0)) place.1 in
    let long : length (enumerate_from 0 memory.keepers) ≡ length memory.keepers = length-enumerate_from 0 memory.keepers in
    let here : 0 + page ≡ page = omega arith in
    get_or-map f (enumerate_from 0 memory.keepers) page (0, 0) 0 (omega (arith, lt, long))
    ∙ ap f (get_or-enumerate_from 0 memory.keepers page (0, 0) lt)
    ∙ ap (λ p. unwrap_or (least (namers_of memory.store p)) (slice_index memory.keepers page)) here

pub kept-there : (me : ℕ) (memory : Memory) → OwnCopied me memory
    → All (λ page. copy_at memory page ≡ absent → ⊥) (kept_pages me (with_keepers memory))
kept-there me memory own =
    let after : Memory = with_keepers memory in
    let test : ℕ → Bool = λ page. is_named (intervals_of memory.store) page && (keeper_at after page == me) in
    let long : length after.keepers ≡ length memory.keepers =
    length-placed (λ place. unwrap_or (least (namers_of memory.store place.0)) place.1) memory.keepers in
    All-weaker (λ page. (page < length after.keepers) × (test page ≡ true)) (λ page. copy_at memory page ≡ absent → ⊥)
    (λ page is.
    let lt : page < length after.keepers = is.0 in
    let parts : _ = and_parts (is_named (intervals_of memory.store) page) (keeper_at after page == me) is.1 in
    let least_is : least (namers_of memory.store page) ≡ Some me =
    kept-named memory page (least (namers_of memory.store page)) me refl parts.0
    (sym (new-keeper memory page (omega (arith, lt, long))) ∙ eqb-true (keeper_at after page) me parts.1) in
    let Q : ℕ → Type 0 = λ y. y ≡ me → copy_at memory page ≡ absent → ⊥ in
    least-in Q (namers_of memory.store page) me
    (All-chosen (λ (i : IntervalRecord). i.node ≡ me → All (λ page. HasOwn me (index_of i) (copy_at memory page)) i.pages) Q
    (λ i. if is_named (i ∷ []) page then Some i.node else None)
    (λ i y h e.
    namer-by Q i page (is_named (i ∷ []) page) y refl
    (λ n mine.
    any_fits (λ p. HasOwn me (index_of i) (copy_at memory p)) (λ named. named == page) (copy_at memory page ≡ absent → ⊥)
    (λ p has at. there me (index_of i) (copy_at memory page) (subst (λ p. HasOwn me (index_of i) (copy_at memory p)) (eqb-true p page at) has))
    i.pages (h mine) (named-in i page n))
    e)
    (intervals_of memory.store) own)
    least_is refl)
    (kept_pages me after)
    (filter-both test (λ page. page < length after.keepers) (range_with_len 0 (length after.keepers))
    (range-within 0 (length after.keepers) (length after.keepers) (omega arith)))

-- ---- what is needed in a collection

abbrev pub NoBase : Wait → Type 0
NoBase (upkeep collection needs) = All (λ (need : Need). need.base ≡ unneeded) needs
NoBase _ = Unit {0}

base-none : (keeper : ℕ) (copy : Copy) → (copy ≡ absent → ⊥) → base_of keeper copy ≡ unneeded
base-none keeper (valid values) h = refl
base-none keeper (written values twin) h = refl
base-none keeper (invalid values since) h = refl
base-none keeper absent h = absurd (h refl)

begins-none : (v : View) → OwnCopied v.setting.me v.memory → All (λ (need : Need). need.base ≡ unneeded) (needs_in v)
begins-none v own =
    let after : Memory = with_keepers v.memory in
    let unread : ℕ → Bool = λ page. not (is_readable (copy_at after page)) in
    All-map (λ (need : Need). need.base ≡ unneeded) (need_of v.setting.nodes after) (filter unread (kept_in v))
    (All-filter unread (λ page. base_of (keeper_at after page) (copy_at after page) ≡ unneeded) (kept_in v)
    (All-weaker (λ page. copy_at v.memory page ≡ absent → ⊥) (λ page. base_of (keeper_at after page) (copy_at after page) ≡ unneeded)
    (λ page h. base-none (keeper_at after page) (copy_at after page) h) (kept_in v) (kept-there v.setting.me v.memory own)))

settled-none : (w : Wait) → is_settled w ≡ true → NoBase w
settled-none nothing s = tt
settled-none (grant lock) s = tt
settled-none departure s = tt
settled-none (access need) s = tt
settled-none (upkeep collection needs) s = cc
settled-none (discard collection) s = tt

same-base : (page from : ℕ) (need : Need) → (changes_came page from need).base ≡ need.base
same-base page from need = by_test (need.page == page)
  where
    by_test : (b : Bool) → (if b then record need { asked = filter (λ (asked : Asked). not (asked.maker == from)) need.asked } else need).base ≡ need.base
    by_test true = refl
    by_test false = refl

changes-none : (page from : ℕ) (w : Wait) → NoBase w → NoBase (with_needs (changes_came page from) w)
changes-none page from nothing h = tt
changes-none page from (grant lock) h = tt
changes-none page from departure h = tt
changes-none page from (access need) h = tt
changes-none page from (upkeep collection needs) h =
    All-map (λ (need : Need). need.base ≡ unneeded) (changes_came page from) needs
    (All-weaker (λ (need : Need). need.base ≡ unneeded) (λ (need : Need). (changes_came page from need).base ≡ unneeded)
    (λ need is. same-base page from need ∙ is) needs h)
changes-none page from (discard collection) h = tt

-- a base copy that comes was asked for
page-none : (page from : ℕ) (values : List ℕ) (w : Wait) → list_any (awaits_page page from) (needs_of w) ≡ true → NoBase w
    → NoBase (with_needs (page_came page values) w)
page-none page from values nothing e h = tt
page-none page from values (grant lock) e h = tt
page-none page from values departure e h = tt
page-none page from values (access need) e h = tt
page-none page from values (upkeep collection needs) e h =
    absurd
    (any_fits (λ (need : Need). need.base ≡ unneeded) (awaits_page page from) ⊥
    (λ need is awaits. false≢true (sym (ap (is_due_from from) is) ∙ (and_parts _ _ awaits).1)) needs h e)
page-none page from values (discard collection) e h = tt

no_base-kept : (v after : View) → Change v after → OwnCopied v.setting.me v.memory → NoBase v.wait → NoBase after.wait
no_base-kept v _ (receives from numbers) own h = h
no_base-kept v _ (manages before manager e many) own h = h
no_base-kept v _ (moves course n) own h = h
no_base-kept v _ (puts word value w) own h = h
no_base-kept v _ (closes wait w s) own h = settled-none wait s
no_base-kept v _ (learns time intervals o news) own h = h
no_base-kept v _ (resumes o) own h = tt
no_base-kept v _ (begins before time w t c long) own h = begins-none v own
no_base-kept v _ (cleans collection needs w met) own h = tt
no_base-kept v _ (discards collection w) own h = tt
no_base-kept v _ (misses page w lt b n) own h = tt
no_base-kept v _ (mends need w met) own h = tt
no_base-kept v _ (gets_changes from m r) own h = changes-none m.page from v.wait h
no_base-kept v _ (gets_page from page values s) own h = page-none page from values v.wait s.asked h

module _ (program : Program) (nodes : ℕ) (options : OptionsRecord) (me : ℕ) (among : me < nodes) where
  no_base : (v : View) → Walk (first_view program nodes options me among) v → NoBase v.wait
  no_base _ stands = tt
  no_base _ (goes {v = v} {after = after} w c) = no_base-kept v after c (copied_own program nodes options me among v w) (no_base v w)

-- a node that is reached awaits a base copy only at a miss
pub no_base_at : (node : Node) → IsReached node → NoBase node.mail.wait
no_base_at node r = no_base r.program r.nodes r.options r.me r.leads.among (view_of node) (come_to node r).walked
