-- What a collection does to what is seen.
use Rattle.std.proofs.Common.{◌≡◌, ◌≢◌, ◌∙◌, ℕ, suc, ◌<◌, ◌≤◌, ⊎_elim, Bool, true, false, not, cond, eqb, ◌&&◌, Option}
use Rattle.std.proofs.Common.{Some, None, List, [], ◌∷◌, map, length, get_or, refl, ap, sym, subst, arith}
use Rattle.std.specs.Prelude.{All, IsTrue, filter, nat_le}
use Rattle.std.specs.List.{range_with_len, enumerate_from}
use Rattle.std.specs.Option.{option_or}
use Rattle.std.proofs.lemmas.Bool.{cases_lt, true≢false, ne_eqb, le-leb}
use Rattle.std.proofs.lemmas.List.{ext_get_or, length-map, get_or-map, get_or_past}
use Rattle.std.proofs.lemmas.List.Elements.{All-filter, filter_passes}
use Rattle.std.proofs.lemmas.List.FromFn.{get_or-map-range_with_len, length-map-range_with_len, get_or-enumerate_from}
use Rattle.std.proofs.lemmas.List.FromFn.{length-enumerate_from, get_or-range_with_len, length-range_with_len}
use Rattle.lrc_time.specs.Time.{entry}
use Rattle.lrc_page.specs.declared.changes.Change.{Change}
use Rattle.lrc_store.specs.declared.key.Key.{Key}
use Rattle.lrc_store.specs.Interval.{IntervalRecord, index_of}
use Rattle.lrc_store.specs.Store.{NoticeRecord, StoredRecord, StoreRecord, IsStore, interval_of, intervals_of, discarded, is_covered}
use Rattle.lrc_store.proofs.Stores.{IsStore-discarded, intervals_of-discarded}
use Rattle.lrc_table.specs.declared.slot.State.{State}
use Rattle.lrc_table.specs.declared.slot.State.TheVariants.{Valid, Written, Invalid, Absent}
use Rattle.lrc_table.specs.PageCopy.{PageCopy, fresh, pending_changes, without_twin, without_base, dropped}
use Rattle.lrc_table.specs.Table.{Table, copy_at, with_each}
use Rattle.lrc_protocol.specs.Pages as machine
use Rattle.lrc_protocol.specs.Barriers as barriers
use Rattle.lrc_memory.specs.View.{Kept, NodeMemory, AreSized, IsKept, SameMemory, seen, node_seen, seen_in}
use Rattle.lrc_memory.specs.View.{seen_copy, unmade, notice_over, stored_over, store_over, with_known}
use Rattle.lrc_memory.specs.Steps.{kept_base, without_bases}
use Rattle.lrc_memory.specs.Turns.{NoneIsWritten}
use Rattle.lrc_memory.proofs.Overlays.{map-both, over-discarded}
use Rattle.lrc_memory.proofs.InStep.{in_step-collected, was-now}
use Rattle.lrc_memory.proofs.Copies.{copy-seen, length-seen}
use Rattle.lrc_memory.proofs.Mending.{map-within}

-- ---- what stays

pub same-seen : (kept after : Kept) (n : NodeMemory) → node_seen kept ≡ n → after.me ≡ kept.me → after.table.size ≡ kept.table.size
    → length after.table.copies ≡ length kept.table.copies → length after.store.last ≡ length kept.store.last → SameMemory n (node_seen after)
same-seen kept after n is me size long nodes = record {
  me = me ∙ ap (λ (n : NodeMemory). n.me) is;
  size = size ∙ ap (λ (n : NodeMemory). n.size) is;
  pages = length-seen after ∙ long ∙ sym (length-seen kept) ∙ ap (λ (n : NodeMemory). length n.memory.copies) is;
  nodes = nodes ∙ ap (λ (n : NodeMemory). length n.memory.store.last) is;
}

-- ---- no copy is written

pub not-written : (kept : Kept) (n : NodeMemory) → node_seen kept ≡ n → NoneIsWritten n.memory → (page : ℕ) → (copy_at kept.table page).state ≢ Written
not-written kept n is closed page =
    ⊎_elim
    (λ (within : page < length kept.table.copies).
    let here : machine.changes_of (machine.copy_at n.memory page) ≡ None =
    closed page machine.absent (omega (arith, within, length-seen kept, ap (λ (n : NodeMemory). length n.memory.copies) is)) in
    by_state (copy_at kept.table page).state
    (sym (ap machine.changes_of (copy-seen kept page within)) ∙ ap (λ (n : NodeMemory). machine.changes_of (machine.copy_at n.memory page)) is ∙ here))
    (λ (past : length kept.table.copies ≤ page).
    let none : copy_at kept.table page ≡ fresh [] = get_or_past kept.table.copies page (fresh []) past in
    λ written. let no_state : Valid ≡ Written = sym (ap (λ (c : PageCopy). c.state) none) ∙ written in cc)
    (cases_lt page (length kept.table.copies))
  where
    by_state : (state : State) → machine.changes_of (seen_in state (get_or kept.since page []) (copy_at kept.table page)) ≡ None → state ≢ Written
    by_state Valid none written = cc
    by_state Written none written = absurd (cc)
    by_state Invalid none written = cc
    by_state Absent none written = cc

-- ---- the table

abbrev pub swept : Kept → Table
swept kept = without_bases kept.me kept.keepers (with_each (with_each kept.table without_twin) dropped)

each : (table : Table) (f : PageCopy → PageCopy) (page : ℕ) → page < length table.copies → copy_at (with_each table f) page ≡ f (copy_at table page)
each table f page within = get_or-map f table.copies page (fresh []) (fresh []) within

pub length-swept : (kept : Kept) → length (swept kept).copies ≡ length kept.table.copies
length-swept kept =
    length-map-range_with_len (kept_base kept.me kept.keepers (with_each (with_each kept.table without_twin) dropped)) 0
    (length (with_each (with_each kept.table without_twin) dropped).copies)
    ∙ length-map (with_each kept.table without_twin).copies dropped ∙ length-map kept.table.copies without_twin

module _ (kept : Kept) where
  abbrev clean : ℕ → PageCopy
  clean page = dropped (without_twin (copy_at kept.table page))

  cleaned : (page : ℕ) → page < length kept.table.copies → copy_at (with_each (with_each kept.table without_twin) dropped) page ≡ clean page
  cleaned page within =
      each (with_each kept.table without_twin) dropped page (omega (arith, length-map kept.table.copies without_twin, within))
      ∙ ap dropped (each kept.table without_twin page within)

  swept-at : (page : ℕ) → page < length kept.table.copies
      → copy_at (swept kept) page ≡ cond (eqb (get_or kept.keepers page 0) kept.me) (clean page) (without_base (clean page))
  swept-at page within =
      let t = with_each (with_each kept.table without_twin) dropped in
      let long : length t.copies ≡ length kept.table.copies = length-map (with_each kept.table without_twin).copies dropped
      ∙ length-map kept.table.copies without_twin in
      get_or-map-range_with_len (kept_base kept.me kept.keepers t) 0 (length t.copies) page page (fresh []) (omega (arith, long, within)) (omega arith)
      ∙ ap (λ c. cond (eqb (get_or kept.keepers page 0) kept.me) c (without_base c)) (cleaned page within)

  pub nothing-swept : (page : ℕ) → pending_changes (copy_at (swept kept) page) ≡ None
  nothing-swept page =
      ⊎_elim
      (λ (within : page < length kept.table.copies).
      ap pending_changes (swept-at page within) ∙ either (eqb (get_or kept.keepers page 0) kept.me) (clean page).state)
      (λ (past : length kept.table.copies ≤ page).
      ap pending_changes (get_or_past (swept kept).copies page (fresh []) (omega (arith, length-swept kept, past))))
      (cases_lt page (length kept.table.copies))
    where
      by_state : (state : State) → pending_changes (record (clean page) { state = state }) ≡ None
      by_state Valid = refl
      by_state Written = refl
      by_state Invalid = refl
      by_state Absent = refl

      either : (b : Bool) (state : State)
          → pending_changes (cond b (clean page) (without_base (clean page))) ≡ None
      either true state = by_state (clean page).state
      either false state = by_state (clean page).state

  copies-swept : ((page : ℕ) → (copy_at kept.table page).state ≢ Written) → (page : ℕ) → page < length kept.table.copies
      → seen_copy (swept kept) kept.since page ≡ machine.dropped (seen_copy kept.table kept.since page)
  copies-swept closed page within =
      ap (λ (c : PageCopy). seen_in c.state (get_or kept.since page []) c) (swept-at page within)
      ∙ either (eqb (get_or kept.keepers page 0) kept.me) (copy_at kept.table page).state (closed page)
    where
      by_state : (state : State) → state ≢ Written
          → seen_in (dropped (without_twin (record (copy_at kept.table page) { state = state }))).state (get_or kept.since page [])
          (dropped (without_twin (record (copy_at kept.table page) { state = state })))
          ≡ machine.dropped (seen_in state (get_or kept.since page []) (copy_at kept.table page))
      by_state Valid not = refl
      by_state Written not = absurd (not refl)
      by_state Invalid not = refl
      by_state Absent not = refl

      bare : (c : PageCopy) (state : State) → seen_in state (get_or kept.since page []) (without_base c) ≡ seen_in state (get_or kept.since page []) c
      bare c Valid = refl
      bare c Written = refl
      bare c Invalid = refl
      bare c Absent = refl

      either : (b : Bool) (state : State) → (copy_at kept.table page).state ≢ Written
          → seen_in (cond b (clean page) (without_base (clean page))).state (get_or kept.since page []) (cond b (clean page) (without_base (clean page)))
          ≡ machine.dropped (seen_in (copy_at kept.table page).state (get_or kept.since page []) (copy_at kept.table page))
      either true state not = by_state (copy_at kept.table page).state not
      either false state not = bare (clean page) (clean page).state ∙ by_state (copy_at kept.table page).state not

  bases-swept : map (λ (c : PageCopy). c.base) (swept kept).copies
      ≡ map (λ (place : ℕ × Option (List ℕ)). cond (eqb (get_or kept.keepers place.0 0) kept.me) place.1 None)
      (enumerate_from 0 (map (λ (c : PageCopy). c.base) kept.table.copies))
  bases-swept =
      let bases = map (λ (c : PageCopy). c.base) kept.table.copies in
      let n = length kept.table.copies in
      let f : ℕ × Option (List ℕ) → Option (List ℕ) = λ place. cond (eqb (get_or kept.keepers place.0 0) kept.me) place.1 None in
      let long : length bases ≡ n = length-map kept.table.copies (λ (c : PageCopy). c.base) in
      let places : length (enumerate_from 0 bases) ≡ n = length-enumerate_from 0 bases ∙ long in
      let old_long : length (map (λ (c : PageCopy). c.base) (swept kept).copies) ≡ n =
      length-map (swept kept).copies (λ (c : PageCopy). c.base) ∙ length-swept kept in
      ext_get_or None _ _ (old_long ∙ sym (length-map (enumerate_from 0 bases) f ∙ places))
      (λ p inside.
      let within : p < n = omega (arith, old_long, inside) in
      get_or-map (λ (c : PageCopy). c.base) (swept kept).copies p (fresh []) None (omega (arith, length-swept kept, within))
      ∙ ap (λ (c : PageCopy). c.base) (swept-at p within)
      ∙ either (eqb (get_or kept.keepers p 0) kept.me) p
      ∙ ap (λ b. cond (eqb (get_or kept.keepers p 0) kept.me) b None)
      (sym (get_or-map (λ (c : PageCopy). c.base) kept.table.copies p (fresh []) None within))
      ∙ sym (ap f (get_or-enumerate_from 0 bases p (0, None) (omega (arith, long, within)) ∙ ap (λ k. (k, get_or bases p None)) (omega arith)))
      ∙ sym (get_or-map f (enumerate_from 0 bases) p (0, None) None (omega (arith, places, within))))
    where
      either : (b : Bool) (p : ℕ) → (cond b (clean p) (without_base (clean p))).base ≡ cond b (copy_at kept.table p).base None
      either true p = refl
      either false p = refl

-- ---- the store

-- nothing from elsewhere
over-nothing : (o : Key → Option (List Change)) (entries : List StoredRecord)
    → All (λ (s : StoredRecord). (page : ℕ) → o (record { node = s.node; index = index_of (interval_of s); page = page }) ≡ None) entries
    → map (stored_over o) entries ≡ entries
over-nothing o [] none = refl
over-nothing o (s ∷ ss) none =
    let here : (page : ℕ) → o (record { node = s.node; index = index_of (interval_of s); page = page }) ≡ None = none 0 s (omega arith) in
    let first : stored_over o s ≡ s = ap (λ (notices : List NoticeRecord). record s { notices = notices }) (bare s here s.notices) in
    let rest : map (stored_over o) ss ≡ ss = over-nothing o ss (λ k d within. none (suc k) d (omega arith)) in
    cc
  where
    bare : (s : StoredRecord) → ((page : ℕ) → o (record { node = s.node; index = index_of (interval_of s); page = page }) ≡ None)
        → (notices : List NoticeRecord) → map (notice_over o s.node (index_of (interval_of s))) notices ≡ notices
    bare s none [] = refl
    bare s none (n ∷ ns) =
        let first : notice_over o s.node (index_of (interval_of s)) n ≡ n = ap (λ found. record n { changes = option_or found n.changes }) (none n.page) in
        let rest : map (notice_over o s.node (index_of (interval_of s))) ns ≡ ns = bare s none ns in
        cc

pub counted : (kept : Kept) → IsStore kept.store → All (λ (s : StoredRecord). index_of (interval_of s) ≤ entry kept.store.last s.node) kept.store.entries
counted kept sound k d within =
    let there = get_or kept.store.entries k d in
    let read : get_or (intervals_of kept.store) k (interval_of d) ≡ interval_of there = get_or-map interval_of kept.store.entries k d (interval_of d) within in
    subst (λ (i : IntervalRecord). index_of i ≤ entry kept.store.last i.node) read
    (sound.counted k (interval_of d) (omega (arith, length-map kept.store.entries interval_of, within)))

module _ (kept : Kept) (time : List ℕ) where
  o : Key → Option (List Change)
  o = unmade kept.me kept.named kept.table

  others : IsStore kept.store → entry kept.store.last kept.me ≤ entry time kept.me
      → All (λ (s : StoredRecord). s.node ≢ kept.me) (discarded kept.store time).entries
  others sound own k d within mine =
      let test : StoredRecord → Bool = λ s. not (is_covered time (interval_of s)) in
      let there = get_or (filter test kept.store.entries) k d in
      let passes : not (is_covered time (interval_of there)) ≡ true = filter_passes test kept.store.entries k d within in
      let below : index_of (interval_of there) ≤ entry kept.store.last there.node =
      All-filter test (λ (s : StoredRecord). index_of (interval_of s) ≤ entry kept.store.last s.node) kept.store.entries (counted kept sound) k d within in
      let at : entry kept.store.last there.node ≡ entry kept.store.last kept.me = ap (entry kept.store.last) mine in
      let mine_too : entry time there.node ≡ entry time kept.me = ap (entry time) mine in
      let known : is_covered time (interval_of there) ≡ true = le-test (index_of (interval_of there)) (entry time there.node)
      (omega (arith, below, at, mine_too, own)) in
      true≢false (sym passes ∙ ap not known)
    where
      le-test : (a b : ℕ) → a ≤ b → nat_le a b ≡ true
      le-test a b below = le-leb a b below

  seen-rest : IsStore kept.store → entry kept.store.last kept.me ≤ entry time kept.me
      → discarded (store_over (unmade kept.me kept.named kept.table) kept.store) time ≡ discarded kept.store time
  seen-rest sound own =
      sym (over-discarded (unmade kept.me kept.named kept.table) kept.store time)
      ∙ ap (λ (entries : List StoredRecord). record kept.store { entries = entries })
      (over-nothing (unmade kept.me kept.named kept.table) (discarded kept.store time).entries
      (λ k d within page.
      ap (λ b. cond (b && eqb (get_or kept.named page 0)
      (index_of (interval_of (get_or (discarded kept.store time).entries k d)))) (pending_changes (copy_at kept.table page)) None)
      (ne_eqb (get_or (discarded kept.store time).entries k d).node kept.me (others sound own k d within))))

-- ---- the whole

abbrev pub collected : Kept → List ℕ → Bool → Kept
collected kept time in_step = record kept { store = discarded kept.store time; table = swept kept; collected = time; in_step = in_step }

pub kept-collected : (kept : Kept) (time : List ℕ) (now : Bool) → IsKept kept → length time ≡ length kept.store.last
    → (IsTrue now → time ≡ kept.store.last) → IsKept (collected kept time (kept.in_step && now))
kept-collected kept time now is long last = record {
  pages = is.pages ∙ sym (length-swept kept);
  since = is.since ∙ sym (length-swept kept);
  named = is.named ∙ sym (length-swept kept);
  keepers = is.keepers ∙ sym (length-swept kept);
  me = is.me;
  times = is.times;
  collected = long;
  keeping = is.keeping;
  makers = subst (All (λ (i : IntervalRecord). i.node < length kept.store.last)) (sym (intervals_of-discarded kept.store time))
      (All-filter (λ (i : IntervalRecord). not (is_covered time i)) (λ (i : IntervalRecord). i.node < length kept.store.last)
      (intervals_of kept.store) is.makers);
  passed = is.passed;
  in_step = in_step-collected kept.store kept.collected time kept.since kept.in_step now is.in_step
      (λ now. was-now kept.store time is.store (last now));
  store = IsStore-discarded kept.store time is.store;
  sized = All-filter (λ (s : StoredRecord). not (is_covered time (interval_of s))) (AreSized kept.table.size) kept.store.entries is.sized;
  unmade = λ page changes pending. let nothing : Some changes ≡ None = sym pending ∙ nothing-swept kept page in absurd (cc);
}

pub seen-collected : (kept : Kept) (n : NodeMemory) (time : List ℕ) (in_step : Bool) → node_seen kept ≡ n → IsKept kept → NoneIsWritten n.memory
    → entry n.memory.store.last n.me ≤ entry time n.me
    → node_seen (collected kept time in_step) ≡ with_known n (barriers.after_collection n.me time n.memory)
seen-collected kept n time in_step is sound closed own =
    let after = collected kept time in_step in
    let count = length kept.table.copies in
    let mine : entry kept.store.last kept.me ≤ entry time kept.me =
    subst (λ (n : NodeMemory). entry n.memory.store.last n.me ≤ entry time n.me) (sym is) own in
    let store : store_over (unmade kept.me kept.named (swept kept)) (discarded kept.store time) ≡ discarded (seen kept).store time =
    ap (λ (entries : List StoredRecord). record kept.store { entries = entries })
    (over-nothing (unmade kept.me kept.named (swept kept)) (discarded kept.store time).entries
    (λ k d within page.
    let there = get_or (discarded kept.store time).entries k d in
    let test = eqb there.node kept.me && eqb (get_or kept.named page 0) (index_of (interval_of there)) in
    ap (λ found. cond test found None) (nothing-swept kept page) ∙ either test))
    ∙ sym (seen-rest kept time sound.store mine) in
    let copies : (seen after).copies ≡ map machine.dropped (seen kept).copies =
    ap (λ n. map (seen_copy (swept kept) kept.since) (range_with_len 0 n)) (length-swept kept)
    ∙ map-within (λ p. p < count) (seen_copy (swept kept) kept.since) (λ p. machine.dropped (seen_copy kept.table kept.since p)) (range_with_len 0 count)
    (λ k d within.
    let below : k < count = omega (arith, length-range_with_len 0 count, within) in
    omega (arith, get_or-range_with_len 0 count k d below, below))
    (λ p within. copies-swept kept (not-written kept n is closed) p within)
    ∙ sym (map-both (seen_copy kept.table kept.since) machine.dropped (range_with_len 0 count)) in
    ap (λ s. with_known (node_seen kept) (record (seen after) { store = s })) store
    ∙ ap (λ cs. with_known (node_seen kept) (record (seen after) { store = discarded (seen kept).store time; copies = cs })) copies
    ∙ ap (λ bs. with_known (node_seen kept)
    (record (seen after) { store = discarded (seen kept).store time; copies = map machine.dropped (seen kept).copies; bases = bs }))
    (bases-swept kept)
    ∙ ap (λ (n : NodeMemory). with_known n (barriers.after_collection n.me time n.memory)) is
  where
    nothing : Option (List Change)
    nothing = None

    either : (b : Bool) → cond b nothing nothing ≡ nothing
    either true = refl
    either false = refl

-- what was done, call by call
pub collected-is : (kept : Kept) (time copied keepers : List ℕ) (in_step : Bool) (store : StoreRecord) (t1 t2 t3 : Table) → store ≡ discarded kept.store time
    → t1 ≡ with_each kept.table without_twin → t2 ≡ with_each t1 dropped → keepers ≡ kept.keepers → t3 ≡ without_bases kept.me keepers t2
    → copied ≡ time → record kept { store = store; table = t3; collected = copied; in_step = in_step } ≡ collected kept time in_step
collected-is kept time copied keepers in_step store t1 t2 t3 store_is one two keepers_are three copied_is =
    let table : t3 ≡ swept kept =
    three ∙ ap (λ ks. without_bases kept.me ks t2) keepers_are ∙ ap (without_bases kept.me kept.keepers) (two ∙ ap (λ (t : Table). with_each t dropped) one) in
    ap (λ s. record kept { store = s; table = t3; collected = copied; in_step = in_step }) store_is
    ∙ ap (λ t. record kept { store = discarded kept.store time; table = t; collected = copied; in_step = in_step }) table
    ∙ ap (λ c. record kept { store = discarded kept.store time; table = swept kept; collected = c; in_step = in_step }) copied_is
