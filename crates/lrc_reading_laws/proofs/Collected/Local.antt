-- What a node that is reached keeps, and whom it asks: a base copy is due from the page's keeper; no page that a node keeps is
-- absent there; and once its copies are clean it has base copies of all pages that it keeps anew.
use Rattle.std.proofs.Common.{◌≡◌, ℕ, ◌<◌, List, [], ◌∷◌, Bool, true, false, is_some, length, refl, sym, ap, subst, ◌∙◌, inl, inr, arith}
use Rattle.std.specs.Prelude.{Option, Some, None, All, Contains, ◌==◌, not, fold, filter, slice_index, slice_index_or, if◌then◌else◌}
use Rattle.std.specs.List.{list_any}
use Rattle.std.proofs.lemmas.Bool.{and_parts, or_cases, or_left, or_right, cases_Bool, false≢true, eqb-true}
use Rattle.std.proofs.lemmas.List.{get_or-set_same, length-set, length-map, length-replicate, get_or-replicate}
use Rattle.std.proofs.lemmas.List.Elements.{All-contains}
use Rattle.lrc_page.specs.Page.{zero_page}
use Rattle.lrc_page.specs.Place.{page_of, offset_of, pages_of}
use Rattle.lrc_store.specs.Interval.{IntervalRecord, index_of}
use Rattle.lrc_store.specs.Store.{intervals_of, is_missing}
use Rattle.lrc_store.proofs.Orders.{cases_Contains, none_Contains}
use Rattle.lrc_protocol.specs.Times.{is_named, next_time}
use Rattle.lrc_protocol.specs.Pages.{Copy, valid, written, invalid, absent, is_readable, values_of, closed, invalidated, dropped, Memory}
use Rattle.lrc_protocol.specs.Pages.{copy_at, with_written_word, with_interval, learned, keeper_at, due, come, Need, base_of, repaired, changes_came}
use Rattle.lrc_protocol.specs.Pages.{page_came}
use Rattle.lrc_protocol.specs.Barriers.{kept_pages, with_keepers, with_base, base_at, Collection, clean_memory}
use Rattle.lrc_protocol.specs.Node.{Wait, nothing, grant, departure, access, upkeep, discard, Node, OptionsRecord}
use Rattle.lrc_protocol.specs.Turn.{with_needs}
use Rattle.lrc_program.specs.declared.Program.{Program}
use Rattle.lrc_node_laws.specs.Own.{HasOwn, OwnCopied}
use Rattle.lrc_node_laws.specs.Reached.{IsReached}
use Rattle.lrc_node_laws.specs.Remembered.{IsBetween}
use Rattle.lrc_node_laws.specs.Needs.{FitsKept}
use Rattle.lrc_node_laws.proofs.Change.{View, view_of, Change, receives, manages, moves, puts, closes, learns, resumes, begins, cleans}
use Rattle.lrc_node_laws.proofs.Change.{discards, misses, mends, gets_changes, gets_page, is_settled, Walk, stands, goes}
use Rattle.lrc_node_laws.proofs.Ranges.{Ranged, SameRest, mends-same, clean-same}
use Rattle.lrc_node_laws.proofs.Lists.{length-placed}
use Rattle.lrc_node_laws.proofs.Needs.{any_fits}
use Rattle.lrc_node_laws.proofs.Needed.{Needed}
use Rattle.lrc_node_laws.proofs.Remembered.{Between}
use Rattle.lrc_node_laws.proofs.OwnCopies.{set-copy, map-copy}
use Rattle.lrc_node_laws.proofs.Reach.{first_view}
use Rattle.lrc_node_laws.proofs.Tokened.{come_to}
use Rattle.lrc_node_laws.proofs.Always.{ranged, needed, between, copied_own}
use Rattle.lrc_reading_laws.proofs.Collected.Turns.{keepers_after, KeepsCopies, no_valid, written_absent, dropped_absent}
use Rattle.lrc_reading_laws.proofs.Collected.Turns.{mended-keeps, clean-keeps, learned-keeps, closes-keeps, bases-keep}
use Rattle.lrc_reading_laws.proofs.Collected.Keepers.{names, Namer, keeper-named, keeper-unnamed, in_kept, from_kept, IsKept}

-- ---- whom a node asks

-- a base copy that is due at a miss is due from the page's keeper
abbrev pub IsDueRight : List ℕ → Wait → Type 0
IsDueRight keepers (access need) = (keeper : ℕ) → need.base ≡ due keeper → slice_index keepers need.page ≡ keeper
IsDueRight keepers nothing = Unit {0}
IsDueRight keepers (grant lock) = Unit {0}
IsDueRight keepers departure = Unit {0}
IsDueRight keepers (upkeep collection needs) = Unit {0}
IsDueRight keepers (discard collection) = Unit {0}

settled-due : (keepers : List ℕ) (w : Wait) → is_settled w ≡ true → IsDueRight keepers w
settled-due keepers nothing e = tt
settled-due keepers (grant lock) e = tt
settled-due keepers departure e = tt
settled-due keepers (access need) e = cc
settled-due keepers (upkeep collection needs) e = cc
settled-due keepers (discard collection) e = cc

-- what changes a need so that a base copy that is due then was due of the same page
abbrev KeepsDue : (Need → Need) → Type 0
KeepsDue change = (need : Need) (keeper : ℕ) → (change need).base ≡ due keeper → (need.base ≡ due keeper) × ((change need).page ≡ need.page)

still-due : (keepers : List ℕ) (change : Need → Need) → KeepsDue change → (w : Wait) → IsDueRight keepers w → IsDueRight keepers (with_needs change w)
still-due keepers change k (access need) h = λ keeper e.
    let was : (need.base ≡ due keeper) × ((change need).page ≡ need.page) = k need keeper e in
    ap (slice_index keepers) was.1 ∙ h keeper was.0
still-due keepers change k nothing h = tt
still-due keepers change k (grant lock) h = tt
still-due keepers change k departure h = tt
still-due keepers change k (upkeep collection needs) h = tt
still-due keepers change k (discard collection) h = tt

changes-due : (page from : ℕ) → KeepsDue (changes_came page from)
changes-due page from need keeper e = by_test (need.page == page) e
  where
    by_test : (b : Bool)
        → (if b then record need { asked = filter (λ asked. not (asked.maker == from)) need.asked } else need).base ≡ due keeper
        → (need.base ≡ due keeper)
        × ((if b then record need { asked = filter (λ asked. not (asked.maker == from)) need.asked } else need).page ≡ need.page)
    by_test true e = (e, refl)
    by_test false e = (e, refl)

page-due : (page : ℕ) (values : List ℕ) → KeepsDue (page_came page values)
page-due page values need keeper e = by_test (need.page == page) e
  where
    by_test : (b : Bool) → (if b then record need { base = come values } else need).base ≡ due keeper
        → (need.base ≡ due keeper) × ((if b then record need { base = come values } else need).page ≡ need.page)
    by_test true e = cc
    by_test false e = (e, refl)

base_of-due : (keeper other : ℕ) (copy : Copy) → base_of keeper copy ≡ due other → keeper ≡ other
base_of-due keeper other absent e = cc
base_of-due keeper other (valid values) e = cc
base_of-due keeper other (written values twin) e = cc
base_of-due keeper other (invalid values since) e = cc

due-kept : (v after : View) → Change v after → IsDueRight v.memory.keepers v.wait → IsDueRight after.memory.keepers after.wait
due-kept v _ (receives from numbers) h = h
due-kept v _ (manages before manager e many) h = h
due-kept v _ (moves course n) h = h
due-kept v _ (puts word value w) h = h
due-kept v _ (closes wait w s) h = settled-due v.memory.keepers wait s
due-kept v _ (learns time intervals o news) h = h
due-kept v _ (resumes o) h = tt
due-kept v _ (begins before time w t c long) h = tt
due-kept v _ (cleans collection needs w met) h = tt
due-kept v _ (discards collection w) h = tt
due-kept v _ (misses page w lt b n) h = λ keeper e. base_of-due (keeper_at v.memory page) keeper (copy_at v.memory page) e
due-kept v _ (mends need w met) h = tt
due-kept v _ (gets_changes from m r) h = still-due v.memory.keepers (changes_came m.page from) (changes-due m.page from) v.wait h
due-kept v _ (gets_page from page values s) h = still-due v.memory.keepers (page_came page values) (page-due page values) v.wait h

-- ---- no page that a node keeps is absent there

abbrev pub AreElsewhere : ℕ → Memory → Type 0
AreElsewhere me memory = (page : ℕ) → page < length memory.copies → copy_at memory page ≡ absent → keeper_at memory page ≡ me → ⊥

none-absent : {Y : Type 0} (me index : ℕ) (copy : Copy) → copy ≡ absent → HasOwn me index copy → Y
none-absent me index copy e own = let never : ⊥ = subst (HasOwn me index) e own in absurd never

still-elsewhere : (me : ℕ) (a b : Memory) → length b.copies ≡ length a.copies → KeepsCopies a b → b.keepers ≡ a.keepers → AreElsewhere me a
    → AreElsewhere me b
still-elsewhere me a b long copies keepers h = λ page lt e mine.
    h page (omega (arith, lt, long)) (copies page e) (sym (ap (λ (l : List ℕ). slice_index l page) keepers) ∙ mine)

-- an interval of the node that names a page is in its copy
own-there : (me page : ℕ) (memory : Memory) (node : ℕ) → OwnCopied me memory → copy_at memory page ≡ absent
    → Namer (intervals_of memory.store) page node → node ≡ me → ⊥
own-there me page memory node own e n is =
    any_fits (λ page. HasOwn me (index_of n.interval) (copy_at memory page)) (λ named. named == page) ⊥
    (λ named has same. none-absent me (index_of n.interval) (copy_at memory named) (ap (copy_at memory) (eqb-true named page same) ∙ e) has)
    n.interval.pages
    (All-contains (λ (i : IntervalRecord). i.node ≡ me → All (λ page. HasOwn me (index_of i) (copy_at memory page)) i.pages)
    (intervals_of memory.store) n.interval own n.among (n.node_is ∙ is))
    n.named

begins-elsewhere : (me : ℕ) (memory : Memory) → length memory.keepers ≡ length memory.copies → OwnCopied me memory → AreElsewhere me memory
    → AreElsewhere me (with_keepers memory)
begins-elsewhere me memory long own h page lt e mine =
    let intervals : List IntervalRecord = intervals_of memory.store in
    elim (cases_Bool (is_named intervals page)) [
      | inl named ↦
          own-there me page memory (slice_index (keepers_after intervals memory.keepers) page) own e
          (keeper-named intervals memory.keepers page (omega (arith, lt, long)) named) mine
      | inr unnamed ↦ h page lt e (sym (keeper-unnamed intervals memory.keepers page unnamed) ∙ mine)
    ]

-- what a copy lacks is named
pub missing_named : (page : ℕ) (since : List ℕ) (intervals : List IntervalRecord) → list_any (is_missing page since) intervals ≡ true
    → is_named intervals page ≡ true
missing_named page since [] e = e
missing_named page since (i ∷ intervals) e = elim (or_cases (is_missing page since i) (list_any (is_missing page since) intervals) e) [
  | inl here ↦ or_left (names page i) (is_named intervals page) (and_parts _ _ here).0
  | inr later ↦ or_right (names page i) (is_named intervals page) (missing_named page since intervals later)
]

-- a page that is invalid in the end of a collection is another node's to keep
discards-elsewhere : (v : View) (collection : Collection) → Ranged v → v.wait ≡ discard collection → Needed v → Between v
    → AreElsewhere v.setting.me v.memory → (page : ℕ) → page < length v.memory.copies → (copy : Copy) → copy_at v.memory page ≡ copy
    → is_readable copy ≡ false → keeper_at v.memory page ≡ v.setting.me → ⊥
discards-elsewhere v collection r w n b h page lt (valid values) is e mine = absurd (false≢true (sym e))
discards-elsewhere v collection r w n b h page lt (written values twin) is e mine = absurd (false≢true (sym e))
discards-elsewhere v collection r w n b h page lt (invalid values since) is e mine =
    let some : IsBetween v.time v.memory page (invalid values since) = subst (IsBetween v.time v.memory page) is (b page) in
    let named : is_named (intervals_of v.memory.store) page ≡ true = missing_named page since (intervals_of v.memory.store) some.2 in
    let kept : FitsKept v.setting.me v.memory (discard collection) = subst (FitsKept v.setting.me v.memory) w n.kept in
    let there : Contains (kept_pages v.setting.me v.memory) page =
    in_kept v.setting.me v.memory page (omega (arith, lt, r.memory.copies, r.memory.keepers)) named mine in
    let readable : is_readable (copy_at v.memory page) ≡ true =
    All-contains (λ page. is_readable (copy_at v.memory page) ≡ true) collection.kept page kept.1 (subst (λ l. Contains l page) (sym kept.0) there) in
    absurd (false≢true (sym e ∙ ap is_readable (sym is) ∙ readable))
discards-elsewhere v collection r w n b h page lt absent is e mine = h page lt is mine

elsewhere-kept : (v after : View) → Change v after → Ranged v → Needed v → Between v → OwnCopied v.setting.me v.memory
    → AreElsewhere v.setting.me v.memory → AreElsewhere after.setting.me after.memory
elsewhere-kept v _ (receives from numbers) r n b own h = h
elsewhere-kept v _ (manages before manager e many) r n b own h = h
elsewhere-kept v _ (moves course x) r n b own h = h
elsewhere-kept v _ (puts word value w) r n b own h =
    still-elsewhere v.setting.me v.memory (with_written_word v.size word value v.memory) (length-set v.memory.copies (page_of word v.size) _)
    (λ page.
    set-copy (λ copy. copy ≡ absent → copy_at v.memory page ≡ absent) v.memory.copies (page_of word v.size) page _
    (λ x e. x (written_absent (copy_at v.memory (page_of word v.size)) (offset_of word v.size) value e)) (λ e. e)) refl h
elsewhere-kept v _ (closes wait w s) r n b own h =
    still-elsewhere v.setting.me v.memory (with_interval v.setting.me (next_time v.setting.me v.time) v.memory) (length-map v.memory.copies closed)
    (closes-keeps v.setting.me (next_time v.setting.me v.time) v.memory) refl h
elsewhere-kept v _ (learns time intervals o news) r n b own h =
    still-elsewhere v.setting.me v.memory (learned v.time intervals v.memory)
    (length-placed (λ (place : ℕ × Copy). if is_named intervals place.0 then invalidated v.time place.1 else place.1) v.memory.copies)
    (learned-keeps v.time intervals v.memory) refl h
elsewhere-kept v _ (resumes o) r n b own h = h
elsewhere-kept v _ (begins before time w t c long) r n b own h =
    begins-elsewhere v.setting.me v.memory (r.memory.keepers ∙ sym r.memory.copies) own h
elsewhere-kept v _ (cleans collection needs w met) r n b own h =
    let rest : SameRest v.memory (clean_memory needs collection.kept v.memory) = clean-same needs collection.kept v.memory in
    still-elsewhere v.setting.me v.memory (clean_memory needs collection.kept v.memory) rest.copies
    (clean-keeps needs collection.kept v.memory) rest.keepers h
elsewhere-kept v _ (discards collection w) r n b own h = λ page lt e mine.
    discards-elsewhere v collection r w n b h page (omega (arith, lt, length-map v.memory.copies dropped)) (copy_at v.memory page) refl
    (dropped_absent (copy_at v.memory page) (sym (map-copy dropped refl v.memory.copies page) ∙ e)) mine
elsewhere-kept v _ (misses page w lt x y) r n b own h = h
elsewhere-kept v _ (mends need w met) r n b own h =
    still-elsewhere v.setting.me v.memory (repaired v.memory need) (length-set v.memory.copies need.page _) (mended-keeps v.memory need) refl h
elsewhere-kept v _ (gets_changes from m e) r n b own h = h
elsewhere-kept v _ (gets_page from page values e) r n b own h = h

-- ---- base copies of the pages that a node keeps anew

-- once its copies are clean it has them
abbrev pub HasKept : List (Option (List ℕ)) → Wait → Type 0
HasKept bases (discard collection) = (page : ℕ) → Contains collection.kept page → is_some (slice_index_or bases page None) ≡ true
HasKept bases nothing = Unit {0}
HasKept bases (grant lock) = Unit {0}
HasKept bases departure = Unit {0}
HasKept bases (access need) = Unit {0}
HasKept bases (upkeep collection needs) = Unit {0}

settled-has : (bases : List (Option (List ℕ))) (w : Wait) → is_settled w ≡ true → HasKept bases w
settled-has bases nothing e = tt
settled-has bases (grant lock) e = tt
settled-has bases departure e = tt
settled-has bases (access need) e = cc
settled-has bases (upkeep collection needs) e = cc
settled-has bases (discard collection) e = cc

still-has : (bases : List (Option (List ℕ))) (change : Need → Need) (w : Wait) → HasKept bases w → HasKept bases (with_needs change w)
still-has bases change nothing h = tt
still-has bases change (grant lock) h = tt
still-has bases change departure h = tt
still-has bases change (access need) h = tt
still-has bases change (upkeep collection needs) h = tt
still-has bases change (discard collection) h = h

base-there : (kept : List ℕ) (memory : Memory) (page : ℕ) → page < length memory.bases → Contains kept page
    → is_some (base_at (fold with_base memory kept) page) ≡ true
base-there [] memory page lt there = absurd (none_Contains page there)
base-there (at ∷ kept) memory page lt there = elim (cases_Contains at kept page there) [
  | inl here ↦
      bases-keep kept (with_base memory at) page
      (subst (λ p. is_some (base_at (with_base memory p) page) ≡ true) (sym here)
      (ap is_some (get_or-set_same memory.bases page (Some (values_of (copy_at memory page))) None lt)))
  | inr later ↦
      base-there kept (with_base memory at) page (omega (arith, lt, length-set memory.bases at (Some (values_of (copy_at memory at))))) later
]

cleans-has : (v : View) (collection : Collection) (needs : List Need) → Ranged v → Needed v → v.wait ≡ upkeep collection needs
    → HasKept (clean_memory needs collection.kept v.memory).bases (discard collection)
cleans-has v collection needs r n w = λ page there.
    let kept : FitsKept v.setting.me v.memory (upkeep collection needs) = subst (FitsKept v.setting.me v.memory) w n.kept in
    let is : IsKept v.setting.me v.memory page = from_kept v.setting.me v.memory page (subst (λ l. Contains l page) kept.0 there) in
    base-there collection.kept (fold repaired v.memory needs) page
    (omega (arith, is.in_range, r.memory.keepers, r.memory.bases, (mends-same needs v.memory).bases)) there

has-kept : (v after : View) → Change v after → Ranged v → Needed v → HasKept v.memory.bases v.wait → HasKept after.memory.bases after.wait
has-kept v _ (receives from numbers) r n h = h
has-kept v _ (manages before manager e many) r n h = h
has-kept v _ (moves course x) r n h = h
has-kept v _ (puts word value w) r n h = h
has-kept v _ (closes wait w s) r n h = settled-has v.memory.bases wait s
has-kept v _ (learns time intervals o news) r n h = h
has-kept v _ (resumes o) r n h = tt
has-kept v _ (begins before time w t c long) r n h = tt
has-kept v _ (cleans collection needs w met) r n h = cleans-has v collection needs r n w
has-kept v _ (discards collection w) r n h = tt
has-kept v _ (misses page w lt x y) r n h = tt
has-kept v _ (mends need w met) r n h = tt
has-kept v _ (gets_changes from m e) r n h = still-has v.memory.bases (changes_came m.page from) v.wait h
has-kept v _ (gets_page from page values e) r n h = still-has v.memory.bases (page_came page values) v.wait h

-- ---- every node that is reached

module _ (program : Program) (nodes : ℕ) (options : OptionsRecord) (me : ℕ) (among : me < nodes) where
  abbrev From : View → Type 0
  From v = Walk (first_view program nodes options me among) v

  all-due : (v : View) → From v → IsDueRight v.memory.keepers v.wait
  all-due _ stands = tt
  all-due _ (goes {v = v} {after = after} w c) = due-kept v after c (all-due v w)

  all-elsewhere : (v : View) → From v → AreElsewhere v.setting.me v.memory
  all-elsewhere _ stands = λ page lt e mine.
      let pages : ℕ = pages_of program.words options.size in
      let first : Copy = valid (zero_page options.size) in
      no_valid (zero_page options.size) (sym (get_or-replicate pages page first absent (omega (arith, lt, length-replicate pages first))) ∙ e)
  all-elsewhere _ (goes {v = v} {after = after} w c) =
      elsewhere-kept v after c (ranged program nodes options me among v w) (needed program nodes options me among v w)
      (between program nodes options me among v w) (copied_own program nodes options me among v w) (all-elsewhere v w)

  all-has : (v : View) → From v → HasKept v.memory.bases v.wait
  all-has _ stands = tt
  all-has _ (goes {v = v} {after = after} w c) =
      has-kept v after c (ranged program nodes options me among v w) (needed program nodes options me among v w) (all-has v w)

pub due_right : (node : Node) → IsReached node → IsDueRight node.memory.keepers node.mail.wait
due_right node r = all-due r.program r.nodes r.options r.me r.leads.among (view_of node) (come_to node r).walked

pub absent_elsewhere : (node : Node) → IsReached node → AreElsewhere node.setting.me node.memory
absent_elsewhere node r = all-elsewhere r.program r.nodes r.options r.me r.leads.among (view_of node) (come_to node r).walked

pub has_kept : (node : Node) → IsReached node → HasKept node.memory.bases node.mail.wait
has_kept node r = all-has r.program r.nodes r.options r.me r.leads.among (view_of node) (come_to node r).walked
