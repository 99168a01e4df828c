-- What a node learns, interval by interval.
use Rattle.std.proofs.Common.{◌≡◌, ◌≢◌, ◌∙◌, ℕ, suc, ◌+◌, ◌<◌, ◌≤◌, ⊎_elim, Bool, true, false, not, ◌&&◌, cond, eqb, eqb-true, ◌||◌, Option}
use Rattle.std.proofs.Common.{Some, None, List, [], ◌∷◌, map, length, get_or, set, drop, refl, ap, sym, subst, arith}
use Rattle.std.specs.Prelude.{All, IsTrue, fold, filter}
use Rattle.std.specs.List.{range_with_len, enumerate_from, list_any}
use Rattle.std.specs.Option.{ForSome, option_and_then}
use Rattle.std.proofs.lemmas.Bool.{cases_eq, true≢false, and_parts, false_from_ne_true, eq-eqb}
use Rattle.std.proofs.lemmas.List.{ext_get_or, length-map, length-set, get_or-map, get_or-set_same, get_or-set_other, set-get_or}
use Rattle.std.proofs.lemmas.List.Elements.{All-set, All-weaker, All-push}
use Rattle.std.proofs.lemmas.List.FromFn.{get_or-enumerate_from, length-enumerate_from}
use Rattle.std.proofs.Math.Seq.{map-set_same, drop-cons}
use Rattle.lrc_time.specs.Time.{entry}
use Rattle.lrc_page.specs.Page.{words_of}
use Rattle.lrc_store.specs.Interval.{IntervalRecord, index_of}
use Rattle.lrc_store.specs.Store.{StoreRecord, IsStore, intervals_of, notice_of, added, without_changes}
use Rattle.lrc_store.proofs.Lookups.{stored_at-added_other}
use Rattle.lrc_store.proofs.Stores.{intervals_of-added}
use Rattle.lrc_table.specs.declared.slot.State.{State}
use Rattle.lrc_table.specs.declared.slot.State.TheVariants.{Valid, Written, Invalid, Absent}
use Rattle.lrc_table.specs.PageCopy.{PageCopy, fresh, pending_changes, settled}
use Rattle.lrc_table.specs.PageCopy as page_copy
use Rattle.lrc_table.specs.Table.{Table, copy_at, with_copy}
use Rattle.lrc_table.proofs.Copies.{copy_of}
use Rattle.lrc_table.proofs.Tables.{copy_at-with_copy, copy_at-with_copy_other}
use Rattle.lrc_protocol.specs.Pages as machine
use Rattle.lrc_protocol.specs.Times.{is_named, indices_by}
use Rattle.lrc_protocol.specs.Pages.{Copy, absent, Memory, learned}
use Rattle.lrc_memory.specs.View.{Kept, NodeMemory, AreSized, IsKept, SameMemory, WasLast, seen, node_seen}
use Rattle.lrc_memory.specs.View.{seen_in, seen_copy, settled_store, unmade, store_over, with_known}
use Rattle.lrc_memory.specs.Turns.{CanBeAdded, IsInRange}
use Rattle.lrc_memory.specs.Steps.{invalidated_on, learned_one}
use Rattle.lrc_memory.proofs.Overlays.{over-alike, over-added}
use Rattle.lrc_memory.proofs.InStep.{all-added, in_step-noted, was-settled}
use Rattle.lrc_memory.proofs.Copies.{copy-seen, length-seen}
use Rattle.lrc_memory.proofs.Settling.{key_on, settled_at, set_copies, unmade-changed, kept-changed, kept-settled, seen-settled, after-settle, last-settled}
use Rattle.lrc_memory.proofs.Closes.{no_later, unsized}
use Rattle.lrc_memory.proofs.Writes.{nothing-settled, quiet-settled}

-- ---- copies, page by page

twice : (before : List ℕ) (c : Copy) → machine.invalidated before (machine.invalidated before c) ≡ machine.invalidated before c
twice before (machine.valid vs) = refl
twice before (machine.written vs tw) = refl
twice before (machine.invalid vs since) = refl
twice before machine.absent = refl

module _ (before : List ℕ) where
  pub length-invalidated : (pages : List ℕ) (copies : List Copy) → length (fold (invalidated_on before) copies pages) ≡ length copies
  length-invalidated [] copies = refl
  length-invalidated (p ∷ ps) copies =
      length-invalidated ps (invalidated_on before copies p) ∙ length-set copies p (machine.invalidated before (get_or copies p absent))

  -- a page that is named becomes invalid, another stays
  invalid-at : (pages : List ℕ) (copies : List Copy) (p : ℕ) → p < length copies
      → get_or (fold (invalidated_on before) copies pages) p absent
      ≡ cond (list_any (λ named. eqb named p) pages) (machine.invalidated before (get_or copies p absent)) (get_or copies p absent)
  invalid-at [] copies p within = refl
  invalid-at (q ∷ qs) copies p within =
      invalid-at qs (invalidated_on before copies q) p (omega (arith, length-set copies q (machine.invalidated before (get_or copies q absent)), within))
      ∙ by_test (eqb q p) refl (list_any (λ named. eqb named p) qs)
    where
      by_test : (b : Bool) → eqb q p ≡ b → (rest : Bool)
          → cond rest (machine.invalidated before (get_or (invalidated_on before copies q) p absent)) (get_or (invalidated_on before copies q) p absent)
          ≡ cond (b || rest) (machine.invalidated before (get_or copies p absent)) (get_or copies p absent)
      by_test true same rest =
          let q_is : q ≡ p = eqb-true _ _ same in
          let now : get_or (invalidated_on before copies q) p absent ≡ machine.invalidated before (get_or copies p absent) =
          ap (λ q. get_or (invalidated_on before copies q) p absent) q_is
          ∙ get_or-set_same copies p (machine.invalidated before (get_or copies p absent)) absent within in
          ap (λ c. cond rest (machine.invalidated before c) c) now ∙ either rest
        where
          either : (b : Bool)
              → cond b (machine.invalidated before (machine.invalidated before (get_or copies p absent))) (machine.invalidated before (get_or copies p absent))
              ≡ machine.invalidated before (get_or copies p absent)
          either true = twice before (get_or copies p absent)
          either false = refl
      by_test false other rest =
          ap (λ c. cond rest (machine.invalidated before c) c)
          (get_or-set_other copies q p (machine.invalidated before (get_or copies q absent)) absent
          (λ same. true≢false (sym (eq-eqb q p (sym same)) ∙ other)))

  -- ---- intervals

  pub store-learned : (intervals : List IntervalRecord) (m : Memory) → fold (learned_one before) m intervals
      ≡ record m { store = fold added m.store intervals; copies = (fold (learned_one before) m intervals).copies }
  store-learned [] m = refl
  store-learned (i ∷ is) m =
      store-learned is (learned_one before m i)

  copies-at : (intervals : List IntervalRecord) (m : Memory) (p : ℕ) → p < length m.copies
      → get_or (fold (learned_one before) m intervals).copies p absent
      ≡ cond (is_named intervals p) (machine.invalidated before (get_or m.copies p absent)) (get_or m.copies p absent)
  copies-at [] m p within = refl
  copies-at (i ∷ is) m p within =
      copies-at is (learned_one before m i) p (omega (arith, length-invalidated i.pages m.copies, within))
      ∙ ap (λ c. cond (is_named is p) (machine.invalidated before c) c) (invalid-at i.pages m.copies p within)
      ∙ either (is_named is p) (list_any (λ named. eqb named p) i.pages)
    where
      either : (rest first : Bool)
          → cond rest (machine.invalidated before (cond first (machine.invalidated before (get_or m.copies p absent)) (get_or m.copies p absent)))
          (cond first (machine.invalidated before (get_or m.copies p absent)) (get_or m.copies p absent))
          ≡ cond (first || rest) (machine.invalidated before (get_or m.copies p absent)) (get_or m.copies p absent)
      either true true = twice before (get_or m.copies p absent)
      either true false = refl
      either false true = refl
      either false false = refl

  pub length-learned : (intervals : List IntervalRecord) (m : Memory) → length (fold (learned_one before) m intervals).copies ≡ length m.copies
  length-learned [] m = refl
  length-learned (i ∷ is) m = length-learned is (learned_one before m i) ∙ length-invalidated i.pages m.copies

  -- one after another they make what is learned
  pub learned-all : (intervals : List IntervalRecord) (m : Memory) → fold (learned_one before) m intervals ≡ learned before intervals m
  learned-all intervals m =
      let f : ℕ × Copy → Copy = λ place. cond (is_named intervals place.0) (machine.invalidated before place.1) place.1 in
      let places = enumerate_from 0 m.copies in
      let long : length places ≡ length m.copies = length-enumerate_from 0 m.copies in
      let copies : (fold (learned_one before) m intervals).copies ≡ map f places =
      ext_get_or absent _ _ (length-learned intervals m ∙ sym (length-map places f ∙ long))
      (λ p inside.
      let within : p < length m.copies = omega (arith, length-learned intervals m, inside) in
      copies-at intervals m p within
      ∙ sym (get_or-map f places p (0, absent) absent (omega (arith, long, within))
      ∙ ap f (get_or-enumerate_from 0 m.copies p (0, absent) within ∙ ap (λ k. (k, get_or m.copies p absent)) (omega arith)))) in
      store-learned intervals m ∙ ap (λ cs. record m { store = fold added m.store intervals; copies = cs }) copies

-- ---- one page

abbrev pub invalid_at : Kept → ℕ → List ℕ → Bool → Kept
invalid_at kept page before in_step = record kept {
  table = with_copy kept.table page (page_copy.invalidated (copy_at kept.table page));
  since = set kept.since page before;
  in_step = in_step;
}

state-settled : (state : State) (values : List ℕ) (twin base : Option (List ℕ)) → (settled (copy_of state values twin base)).state ≡ state
state-settled Valid values None base = refl
state-settled Valid values (Some twin) base = refl
state-settled Written values twin base = refl
state-settled Invalid values twin base = refl
state-settled Absent values twin base = refl

module _ (kept : Kept) (page : ℕ) (before : List ℕ) (in_step : Bool) (within : page < length kept.table.copies)
    (valid : (copy_at kept.table page).state ≡ Valid) where
  invalid-copy : page_copy.invalidated (copy_at kept.table page) ≡ record (copy_at kept.table page) { state = Invalid }
  invalid-copy = ap (λ s. cond (page_copy.is_valid s) (record (copy_at kept.table page) { state = Invalid }) (copy_at kept.table page)) valid

  nothing-invalid : pending_changes (page_copy.invalidated (copy_at kept.table page)) ≡ None
  nothing-invalid = ap pending_changes invalid-copy

  pub kept-invalid : IsKept kept → length before ≡ length kept.store.last
      → (IsTrue in_step → All (WasLast kept.store) (kept.collected ∷ set kept.since page before)) → IsKept (invalid_at kept page before in_step)
  kept-invalid is long were =
      let mid = kept-changed kept page (page_copy.invalidated (copy_at kept.table page)) within is nothing-invalid in
      record {
        pages = mid.pages;
        since = length-set kept.since page before ∙ mid.since;
        named = mid.named;
        keepers = mid.keepers;
        me = is.me;
        collected = is.collected;
        keeping = is.keeping;
        makers = is.makers;
        passed = is.passed;
        in_step = were;
        store = is.store;
        sized = is.sized;
        unmade = mid.unmade;
        times = All-set (λ (t : List ℕ). length t ≡ length kept.store.last) kept.since page before long is.times;
      }

  pub seen-invalid : IsKept kept → pending_changes (copy_at kept.table page) ≡ None
      → node_seen (invalid_at kept page before in_step)
      ≡ with_known (node_seen kept) (record (seen kept) { copies = invalidated_on before (seen kept).copies page })
  seen-invalid is none =
      let old = copy_at kept.table page in
      let new = page_copy.invalidated old in
      let now = with_copy kept.table page new in
      let store : store_over (unmade kept.me kept.named now) kept.store ≡ store_over (unmade kept.me kept.named kept.table) kept.store =
      over-alike (unmade kept.me kept.named now) (unmade kept.me kept.named kept.table) kept.store
      (unmade-changed kept page new within none nothing-invalid) in
      let since_is : get_or (set kept.since page before) page [] ≡ before =
      get_or-set_same kept.since page before [] (omega (arith, is.since, within)) in
      let shown : machine.copy_at (seen kept) page ≡ machine.valid old.values =
      copy-seen kept page within ∙ ap (λ s. seen_in s (get_or kept.since page []) old) valid in
      let copies = set_copies kept.table now kept.since (set kept.since page before) page (machine.invalidated before (machine.copy_at (seen kept) page))
      (length-set kept.table.copies page new) within
      (ap (λ (c : PageCopy). seen_in c.state (get_or (set kept.since page before) page []) c) (copy_at-with_copy kept.table page new within ∙ invalid-copy)
      ∙ ap (λ t. machine.invalid old.values t) since_is
      ∙ sym (ap (machine.invalidated before) shown))
      (λ p apart.
      ap (λ (c : PageCopy). seen_in c.state (get_or (set kept.since page before) p []) c) (copy_at-with_copy_other kept.table page p new apart)
      ∙ ap (λ t. seen_in (copy_at kept.table p).state t (copy_at kept.table p)) (get_or-set_other kept.since page p before [] apart)) in
      let bases : map (λ (c : PageCopy). c.base) now.copies ≡ map (λ (c : PageCopy). c.base) kept.table.copies =
      map-set_same (λ (c : PageCopy). c.base) kept.table.copies page new _ (ap (λ (c : PageCopy). c.base) invalid-copy) in
      ap (λ s. with_known (node_seen kept) (record (seen (invalid_at kept page before in_step)) { store = s })) store
      ∙ ap (λ cs. with_known (node_seen kept) (record (seen kept) { copies = cs; bases = map (λ (c : PageCopy). c.base) now.copies })) copies
      ∙ ap (λ bs. with_known (node_seen kept) (record (seen kept) { copies = invalidated_on before (seen kept).copies page; bases = bs })) bases

-- a page settled, and then invalid
module _ (kept : Kept) (page : ℕ) (before copied named : List ℕ) (in_step : Bool) (store : StoreRecord) (mid table : Table)
    (within : page < length kept.table.copies) (valid : (copy_at kept.table page).state ≡ Valid) (named_is : named ≡ kept.named)
    (mid_is : mid ≡ with_copy kept.table page (settled (copy_at kept.table page)))
    (store_is : store ≡ settled_store kept.store (record { node = kept.me; index = get_or named page 0; page = page })
    (pending_changes (copy_at kept.table page)))
    (table_is : table ≡ with_copy mid page (page_copy.invalidated (copy_at mid page))) (copied_is : copied ≡ before) where
  abbrev first : Kept
  first = settled_at kept page

  first-within : page < length first.table.copies
  first-within = omega (arith, length-set kept.table.copies page (settled (copy_at kept.table page)), within)

  first-valid : (copy_at first.table page).state ≡ Valid
  first-valid =
      let old = copy_at kept.table page in
      ap (λ (c : PageCopy). c.state) (copy_at-with_copy kept.table page (settled old) within)
      ∙ state-settled old.state old.values old.twin old.base ∙ valid

  pub done-invalid : record kept { store = store; table = table; since = set kept.since page copied; in_step = in_step } ≡ invalid_at first page before in_step
  done-invalid =
      let parts = after-settle kept page named store mid named_is mid_is store_is in
      ap (λ (t : Table). record kept { store = store; table = t; since = set kept.since page copied; in_step = in_step }) table_is
      ∙ ap (λ (t : List ℕ). record kept {
        store = store;
        table = with_copy mid page
            (page_copy.invalidated (copy_at mid page));
        since = set kept.since page t;
        in_step = in_step;
      }) copied_is
      ∙ ap (λ (k : Kept). invalid_at k page before in_step) parts

  pub kept-done : IsKept kept → ForSome (pending_changes (copy_at kept.table page)) (λ changes. All (λ c. c.offset < words_of kept.table.size) changes)
      → length before ≡ length kept.store.last
      → (now : Bool) → in_step ≡ (kept.in_step && now) → (IsTrue now → WasLast kept.store before)
      → IsKept (record kept { store = store; table = table; since = set kept.since page copied; in_step = in_step })
  kept-done is fit long now step_is was =
      let mid_kept = kept-settled kept page within is fit in
      subst IsKept (sym done-invalid)
      (kept-invalid first page before in_step first-within first-valid mid_kept (long ∙ sym (last-settled kept page))
      (λ (step : IsTrue in_step).
      in_step-noted first.store first.collected first.since page before first.in_step now mid_kept.in_step
      (λ (here : IsTrue now). was-settled kept.store (key_on kept page) (pending_changes (copy_at kept.table page)) before (was here))
      (sym step_is ∙ step)))

  pub seen-done : IsKept kept → ForSome (pending_changes (copy_at kept.table page)) (λ changes. All (λ c. c.offset < words_of kept.table.size) changes)
      → (n : NodeMemory) → node_seen kept ≡ n
      → node_seen (record kept { store = store; table = table; since = set kept.since page copied; in_step = in_step })
      ≡ with_known n (record n.memory { copies = invalidated_on before n.memory.copies page })
  seen-done is fit n seen_is =
      ap node_seen done-invalid
      ∙ seen-invalid first page before in_step first-within first-valid (kept-settled kept page within is fit) (nothing-settled kept page 0 0 within)
      ∙ ap (λ (n : NodeMemory). with_known n (record n.memory { copies = invalidated_on before n.memory.copies page }))
      (seen-settled kept page within ∙ seen_is)

-- a copy that is not valid stays
pub stays-seen : (kept : Kept) (n : NodeMemory) (page : ℕ) (before : List ℕ) → node_seen kept ≡ n → page < length kept.table.copies
    → (copy_at kept.table page).state ≢ Valid → n ≡ with_known n (record n.memory { copies = invalidated_on before n.memory.copies page })
stays-seen kept n page before is within not =
    let shown : machine.copy_at n.memory page ≡ seen_copy kept.table kept.since page =
    ap (λ (n : NodeMemory). machine.copy_at n.memory page) (sym is) ∙ copy-seen kept page within in
    let same : machine.invalidated before (machine.copy_at n.memory page) ≡ machine.copy_at n.memory page =
    ap (machine.invalidated before) shown ∙ by_state (copy_at kept.table page).state not ∙ sym shown in
    sym (ap (λ c. with_known n (record n.memory { copies = set n.memory.copies page c })) same
    ∙ ap (λ cs. with_known n (record n.memory { copies = cs })) (set-get_or n.memory.copies page absent))
  where
    by_state : (state : State) → state ≢ Valid
        → machine.invalidated before (seen_in state (get_or kept.since page []) (copy_at kept.table page)) ≡ seen_in state
        (get_or kept.since page []) (copy_at kept.table page)
    by_state Valid not = absurd (not refl)
    by_state Written not = refl
    by_state Invalid not = refl
    by_state Absent not = refl

-- ---- one interval

module _ (kept : Kept) (interval : IntervalRecord) (is : IsKept kept) (next : index_of interval ≡ entry kept.store.last interval.node + 1) where
  apart : (page : ℕ) → ((kept.me ≡ interval.node) × (get_or kept.named page 0 ≡ index_of interval)) → ⊥
  apart page same =
      let index : get_or kept.named page 0 ≡ index_of interval = same.1 in
      let low : get_or kept.named page 0 ≤ entry kept.store.last kept.me = no_later kept [] is page in
      let last : entry kept.store.last kept.me ≡ entry kept.store.last interval.node = ap (entry kept.store.last) same.0 in
      omega (arith, index, low, last, next)

  pub seen-added : node_seen (record kept { store = added kept.store interval })
      ≡ with_known (node_seen kept) (record (seen kept) { store = added (seen kept).store interval })
  seen-added =
      ap (λ s. with_known (node_seen kept) (record (seen kept) { store = s }))
      (over-added (unmade kept.me kept.named kept.table) kept.store interval
      (λ page.
      ap (λ b. cond b (pending_changes (copy_at kept.table page)) None)
      (false_from_ne_true _
      (λ found.
      let parts = and_parts (eqb interval.node kept.me) _ found in
      apart page (sym (eqb-true _ _ parts.0), eqb-true _ _ parts.1)))))

  pub kept-added : IsInRange kept.store interval → IsStore (added kept.store interval) → IsKept (record kept { store = added kept.store interval })
  kept-added range sound =
      let last = length-set kept.store.last interval.node (index_of interval) in
      let now = set kept.store.last interval.node (index_of interval) in
      let grows : entry kept.store.last kept.me ≤ entry now kept.me =
      ⊎_elim
      (λ (same : kept.me ≡ interval.node).
      omega (
        arith,
        ap (λ q. entry now q) same,
        ap (λ q. entry kept.store.last q) same,
        get_or-set_same kept.store.last interval.node (index_of interval) 0 range.node,
        next,
      ))
      (λ other. omega (arith, get_or-set_other kept.store.last interval.node kept.me (index_of interval) 0 other))
      (cases_eq kept.me interval.node) in record {
        pages = is.pages;
        since = is.since;
        named = is.named;
        keepers = is.keepers;
        me = omega (arith, last, is.me);
        times = All-weaker (λ (t : List ℕ). length t ≡ length kept.store.last) (λ (t : List ℕ). length t ≡ length now)
            (λ t h. h ∙ sym last) kept.since is.times;
        collected = is.collected ∙ sym last;
        keeping = All-weaker (λ k. k < length kept.store.last) (λ k. k < length now) (λ k h. omega (arith, last, h)) kept.keepers is.keeping;
        makers = subst (All (λ (i : IntervalRecord). i.node < length now)) (sym (intervals_of-added kept.store interval))
            (All-push (λ (i : IntervalRecord). i.node < length now) (intervals_of kept.store) interval
            (All-weaker (λ (i : IntervalRecord). i.node < length kept.store.last) (λ (i : IntervalRecord). i.node < length now)
            (λ i h. omega (arith, last, h)) (intervals_of kept.store) is.makers)
            (omega (arith, last, range.node)));
        passed = All-weaker (λ i. i ≤ entry kept.store.last kept.me) (λ i. i ≤ entry now kept.me) (λ i h. omega (arith, grows, h)) kept.named is.passed;
        in_step = λ in_step. all-added kept.store interval (kept.collected ∷ kept.since) next range.node (is.in_step in_step);
        store = sound;
        sized = All-push (AreSized kept.table.size) kept.store.entries (without_changes interval) is.sized (unsized kept [] interval.pages);
        unmade = λ page changes pending.
            ap (option_and_then (notice_of page)) (stored_at-added_other kept.store interval kept.me (get_or kept.named page 0) (apart page))
            ∙ is.unmade page changes pending;
      }

-- ---- one after another

indices-more : (i : IntervalRecord) (is : List IntervalRecord) (q : ℕ)
    → indices_by (i ∷ is) q ≡ cond (eqb i.node q) (index_of i ∷ indices_by is q) (indices_by is q)
indices-more i is q = either (eqb i.node q)
  where
    either : (b : Bool) → map index_of (cond b (i ∷ filter (λ (interval : IntervalRecord). eqb interval.node q) is)
        (filter (λ (interval : IntervalRecord). eqb interval.node q) is))
        ≡ cond b (index_of i ∷ indices_by is q) (indices_by is q)
    either true = refl
    either false = refl

-- of its node an interval is the next one, and the others follow it
of-node : (store : StoreRecord) (i : IntervalRecord) (is : List IntervalRecord) (q : ℕ) → CanBeAdded store (i ∷ is) → eqb i.node q ≡ true
    → index_of i ∷ indices_by is q ≡ (entry store.last q + 1) ∷ range_with_len (entry store.last q + 1 + 1) (length (indices_by is q))
of-node store i is q can same =
    let shown : indices_by (i ∷ is) q ≡ index_of i ∷ indices_by is q =
    indices-more i is q ∙ ap (λ b. cond b (index_of i ∷ indices_by is q) (indices_by is q)) same in
    sym shown ∙ can.next q ∙ ap (λ l. range_with_len (entry store.last q + 1) (length l)) shown

-- what is added next, and what after it
pub head-next : (store : StoreRecord) (i : IntervalRecord) (is : List IntervalRecord) → CanBeAdded store (i ∷ is)
    → index_of i ≡ entry store.last i.node + 1
head-next store i is can = let listed = of-node store i is i.node can (eq-eqb i.node i.node refl) in cc

pub can-go_on : (store : StoreRecord) (i : IntervalRecord) (is : List IntervalRecord) → CanBeAdded store (i ∷ is) → CanBeAdded (added store i) is
can-go_on store i is can =
    let range : IsInRange store i = can.in_range 0 i (omega arith) in
    let last = length-set store.last i.node (index_of i) in record {
      in_range = λ k d within.
          let there : IsInRange store (get_or is k d) = can.in_range (suc k) d (omega arith) in record {
            node = omega (arith, there.node, last);
            stamp = there.stamp ∙ sym last;
            pages = there.pages;
          };
      next = λ q. by_test q (eqb i.node q) refl (range.node);
    }
  where
    by_test : (q : ℕ) (b : Bool) → eqb i.node q ≡ b → i.node < length store.last
        → indices_by is q ≡ range_with_len (entry (set store.last i.node (index_of i)) q + 1) (length (indices_by is q))
    by_test q true same within =
        let node : i.node ≡ q = eqb-true _ _ same in
        let listed = of-node store i is q can same in
        let index : index_of i ≡ entry store.last q + 1 = cc in
        let rest : indices_by is q ≡ range_with_len (entry store.last q + 1 + 1) (length (indices_by is q)) = cc in
        let now : entry (set store.last i.node (index_of i)) q ≡ entry store.last q + 1 =
        ap (λ p. entry (set store.last i.node (index_of i)) p) (sym node) ∙ get_or-set_same store.last i.node (index_of i) 0 within ∙ index in
        rest ∙ ap (λ e. range_with_len (e + 1) (length (indices_by is q))) (sym now)
    by_test q false other within =
        let shown : indices_by (i ∷ is) q ≡ indices_by is q =
        indices-more i is q ∙ ap (λ b. cond b (index_of i ∷ indices_by is q) (indices_by is q)) other in
        let now : entry (set store.last i.node (index_of i)) q ≡ entry store.last q =
        get_or-set_other store.last i.node q (index_of i) 0 (λ same. true≢false (sym (eq-eqb i.node q (sym same)) ∙ other)) in
        sym shown ∙ can.next q ∙ ap (λ l. range_with_len (entry store.last q + 1) (length l)) shown
        ∙ ap (λ e. range_with_len (e + 1) (length (indices_by is q))) (sym now)

-- where a list of intervals stands
pub can-at : (store : StoreRecord) (is : List IntervalRecord) (k : ℕ) (i : IntervalRecord) → k < length is → i ≡ get_or is k i
    → CanBeAdded store (drop k is) → CanBeAdded store (i ∷ drop (k + 1) is)
can-at store is k i within is_at can =
    let count : suc k ≡ k + 1 = omega arith in
    subst (CanBeAdded store) (drop-cons is k i within ∙ ap (λ j. j ∷ drop (suc k) is) (sym is_at) ∙ ap (λ n. i ∷ drop n is) count) can

pub same-same : (n : NodeMemory) → SameMemory n n
same-same n = record { me = refl; size = refl; pages = refl; nodes = refl }

pub same-trans : (a b c : NodeMemory) → SameMemory a b → SameMemory b c → SameMemory a c
same-trans a b c first second = record {
  me = second.me ∙ first.me;
  size = second.size ∙ first.size;
  pages = second.pages ∙ first.pages;
  nodes = second.nodes ∙ first.nodes;
}

-- ---- what the calls on one page ask

module _ (kept : Kept) (page : ℕ) (mid : Table) (within : page < length kept.table.copies) (valid : (copy_at kept.table page).state ≡ Valid)
    (mid_is : mid ≡ with_copy kept.table page (settled (copy_at kept.table page))) where
  pub asked-within : page < length mid.copies
  asked-within = omega (arith, ap (λ (t : Table). length t.copies) mid_is, length-set kept.table.copies page (settled (copy_at kept.table page)), within)

  pub asked-valid : (copy_at mid page).state ≡ Valid
  asked-valid =
      let old = copy_at kept.table page in
      ap (λ (t : Table). (copy_at t page).state) mid_is
      ∙ ap (λ (c : PageCopy). c.state) (copy_at-with_copy kept.table page (settled old) within)
      ∙ state-settled old.state old.values old.twin old.base ∙ valid

  pub asked-closed : (copy_at mid page).state ≢ Written
  asked-closed written = let no_state : Valid ≡ Written = sym asked-valid ∙ written in cc

  pub asked-quiet : page_copy.is_pending (copy_at mid page) ≡ false
  asked-quiet =
      ap (λ (t : Table). page_copy.is_pending (copy_at t page)) mid_is
      ∙ ap page_copy.is_pending (copy_at-with_copy kept.table page (settled (copy_at kept.table page)) within)
      ∙ quiet-settled (copy_at kept.table page)

pub in_range-seen : (kept : Kept) (n : NodeMemory) (interval : IntervalRecord) → node_seen kept ≡ n
    → IsInRange n.memory.store interval → IsInRange kept.store interval
in_range-seen kept n interval is range = record {
  node = omega (arith, range.node, ap (λ (n : NodeMemory). length n.memory.store.last) is);
  stamp = range.stamp ∙ sym (ap (λ (n : NodeMemory). length n.memory.store.last) is);
  pages = subst (λ (n : NodeMemory). All (λ page. page < n.memory.store.pages) interval.pages) (sym is) range.pages;
}

-- the pages of a list are in range
pub page-within : (kept : Kept) (n loop : NodeMemory) (pages items : List ℕ) (k : ℕ) → node_seen kept ≡ n → IsKept kept → SameMemory n loop
    → All (λ page. page < n.memory.store.pages) pages → items ≡ pages → k < length items → get_or items k 0 < length loop.memory.copies
page-within kept n loop pages items k is sound same range items_are within =
    let here : get_or pages k 0 < n.memory.store.pages = range k 0 (omega (arith, ap length items_are, within)) in
    omega (
      arith,
      here,
      ap (λ l. get_or l k 0) items_are,
      ap (λ (n : NodeMemory). n.memory.store.pages) is,
      ap (λ (n : NodeMemory). length n.memory.copies) is,
      length-seen kept,
      sound.pages,
      same.pages,
    )
