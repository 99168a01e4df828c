-- What a close does to what is seen.
use Rattle.std.proofs.Common.{◌≡◌, ◌∙◌, ℕ, ◌+◌, ◌<◌, ◌≤◌, ⊎_elim, Bool, true, false, not, cond, eqb, eqb-true, ◌&&◌, Option, Some}
use Rattle.std.proofs.Common.{None, List, [], ◌∷◌, ◌++◌, map, length, get_or, set, refl, ap, sym, subst, arith}
use Rattle.std.specs.Prelude.{All, Contains, fold, filter, filter_map, unwrap_or, IsSome, Result, Ok, Err, OnOk, OnErr, is_err}
use Rattle.std.specs.List.{range_with_len, enumerate_from, cons_option}
use Rattle.std.specs.Option.{ForSome, option_and_then, option_map, option_or}
use Rattle.std.proofs.lemmas.Bool.{cases_eq, cases_lt, true≢false, and_parts, and_from, false_from_ne_true, eq-eqb}
use Rattle.std.proofs.lemmas.List.{ext_get_or, length-map, length-set, get_or_past, get_or-set_same, get_or-set_other}
use Rattle.std.proofs.lemmas.List.Elements.{Contains-get_or, All-set, All-map, All-weaker, All-push}
use Rattle.std.proofs.Math.ListN.{get_or-map as get_or-mapped}
use Rattle.std.proofs.lemmas.List.FromFn.{get_or-map-range_with_len, length-map-range_with_len, get_or-enumerate_from, length-enumerate_from}
use Rattle.lrc_time.specs.Time.{entry}
use Rattle.lrc_page.specs.declared.changes.Change.{Change}
use Rattle.lrc_page.specs.Page.{words_of}
use Rattle.lrc_page.specs.Changes.{changes_between}
use Rattle.lrc_store.specs.declared.key.Key.{Key}
use Rattle.lrc_store.specs.Interval.{IntervalRecord, index_of}
use Rattle.lrc_store.specs.Store.{NoticeRecord, StoredRecord, StoreRecord, IsStore, interval_of, intervals_of, is_at}
use Rattle.lrc_store.specs.Store.{notice_at, notice_of, notice_with, stored_with, added, unread, without_changes}
use Rattle.lrc_store.proofs.Lookups.{notice_at-added, stored_at-added_other}
use Rattle.lrc_store.proofs.Orders.{Contains-first, Contains-later, cases_Contains, none_Contains}
use Rattle.lrc_store.proofs.Records.{notice_with-same, notice_with-other}
use Rattle.lrc_store.proofs.Stores.{stored_with-other, intervals_of-added}
use Rattle.lrc_table.specs.declared.slot.State.{State}
use Rattle.lrc_table.specs.declared.slot.State.TheVariants.{Valid, Written, Invalid, Absent}
use Rattle.lrc_table.specs.PageCopy.{PageCopy, IsWhole, fresh, is_written, pending_changes, closed, without_twin}
use Rattle.lrc_table.specs.Table.{Table, copy_at, with_each, written_pages}
use Rattle.lrc_table.proofs.Copies.{is_written-says, pending-closed, pending-untwinned, whole-twin}
use Rattle.lrc_table.proofs.Tables.{contains-written}
use Rattle.lrc_protocol.specs.Pages as copy
use Rattle.lrc_protocol.specs.Pages.{Copy, absent, all_changes, closed_interval, with_own, with_interval}
use Rattle.lrc_memory.specs.View.{Kept, NodeMemory, AreSized, IsKept, seen, node_seen, seen_in, seen_copy}
use Rattle.lrc_memory.specs.View.{unmade, notice_over, stored_over, store_over, with_known}
use Rattle.lrc_memory.proofs.Overlays.{map-alike, map-both, map-append, is_at-over, stored-over_new}
use Rattle.lrc_memory.proofs.InStep.{all-added}
use Rattle.lrc_memory.proofs.Discards.{counted}
use Rattle.lrc_memory.proofs.Mending.{map-within}

-- ---- what was written in the open interval

-- the changes of a written page
abbrev pub made : Table → ℕ → List Change
made table page = changes_between (unwrap_or (copy_at table page).twin []) (copy_at table page).values

filter_map-map : {X Y Z : Type 0} (g : Y → Option Z) (h : X → Y) (xs : List X) → filter_map g (map h xs) ≡ filter_map (λ x. g (h x)) xs
filter_map-map g h [] = refl
filter_map-map g h (x ∷ xs) = cc (filter_map-map g h xs)

filter_map-filter : {X Y : Type 0} (g : X → Option Y) (t : X → Bool) (m : X → Y) (xs : List X) → ((x : X) → g x ≡ cond (t x) (Some (m x)) None)
    → filter_map g xs ≡ map m (filter t xs)
filter_map-filter g t m [] same = refl
filter_map-filter g t m (x ∷ xs) same =
    ap (λ o. cons_option o (filter_map g xs)) (same x) ∙ ap (cons_option (cond (t x) (Some (m x)) None)) (filter_map-filter g t m xs same) ∙ either (t x)
  where
    either : (b : Bool) → cons_option (cond b (Some (m x)) None) (map m (filter t xs)) ≡ map m (cond b (x ∷ filter t xs) (filter t xs))
    either true = refl
    either false = refl

enumerate-range : (f : ℕ → Copy) (n : ℕ) → enumerate_from 0 (map f (range_with_len 0 n)) ≡ map (λ p. (p, f p)) (range_with_len 0 n)
enumerate-range f n =
    let xs = map f (range_with_len 0 n) in
    let g : ℕ → ℕ × Copy = λ p. (p, f p) in
    let long : length xs ≡ n = length-map-range_with_len f 0 n in
    ext_get_or (0, absent) _ _ (length-enumerate_from 0 xs ∙ long ∙ sym (length-map-range_with_len g 0 n))
    (λ i inside.
    let within : i < n = omega (arith, length-enumerate_from 0 xs, long, inside) in
    get_or-enumerate_from 0 xs i (0, absent) (omega (arith, long, within))
    ∙ ap (λ k. (k, get_or xs i absent)) (omega arith)
    ∙ ap (λ c. (i, c)) (get_or-map-range_with_len f 0 n i i absent within (omega arith))
    ∙ sym (get_or-map-range_with_len g 0 n i i (0, absent) within (omega arith)))

pub all_changes-seen : (kept : Kept) → all_changes (seen kept) ≡ map (λ p. (p, made kept.table p)) (written_pages kept.table)
all_changes-seen kept =
    let f = seen_copy kept.table kept.since in
    let pair : ℕ → List Change → ℕ × List Change = λ p changes. (p, changes) in
    let g : ℕ × Copy → Option (ℕ × List Change) = λ place. option_map (pair place.0) (copy.changes_of place.1) in
    let all = range_with_len 0 (length kept.table.copies) in
    ap (filter_map g) (enumerate-range f (length kept.table.copies))
    ∙ filter_map-map g (λ p. (p, f p)) all
    ∙ filter_map-filter (λ p. g (p, f p)) (λ p. is_written (copy_at kept.table p).state) (λ p. (p, made kept.table p)) all
    (λ p. by_state p (copy_at kept.table p).state)
  where
    pair : ℕ → List Change → ℕ × List Change
    pair p changes = (p, changes)

    by_state : (p : ℕ) (state : State)
        → option_map (pair p) (copy.changes_of (seen_in state (get_or kept.since p []) (copy_at kept.table p)))
        ≡ cond (is_written state) (Some (p, made kept.table p)) None
    by_state p Valid = refl
    by_state p Written = refl
    by_state p Invalid = refl
    by_state p Absent = refl

-- ---- the changes of the interval, page by page

module _ (given : ℕ → List Change) where
  abbrev turn : NoticeRecord → ℕ → NoticeRecord
  turn n p = notice_with p (given p) n

  turn-stays : (q : ℕ) (ps : List ℕ) → fold turn (record { page = q; changes = Some (given q) }) ps ≡ record { page = q; changes = Some (given q) }
  turn-stays q [] = refl
  turn-stays q (p ∷ ps) = ap (λ n. fold turn n ps) (by_test (eqb q p) refl) ∙ turn-stays q ps
    where
      by_test : (b : Bool) → eqb q p ≡ b → notice_with p (given p) (record { page = q; changes = Some (given q) }) ≡
          record { page = q; changes = Some (given q) }
      by_test true same =
          notice_with-same p (given p) (record { page = q; changes = Some (given q) }) same
          ∙ ap (λ p. record { page = p; changes = Some (given p) }) (sym (eqb-true _ _ same))
      by_test false apart = notice_with-other p (given p) (record { page = q; changes = Some (given q) }) apart

  turn-one : (q : ℕ) (changes : Option (List Change)) (ps : List ℕ) → Contains ps q
      → fold turn (record { page = q; changes = changes }) ps ≡ record { page = q; changes = Some (given q) }
  turn-one q changes [] member = absurd (none_Contains q member)
  turn-one q changes (p ∷ ps) member = by_test (eqb q p) refl (λ later. turn-one q changes ps later)
    where
      by_test : (b : Bool) → eqb q p ≡ b
          → (Contains ps q → fold turn (record { page = q; changes = changes }) ps ≡ record { page = q; changes = Some (given q) })
          → fold turn (notice_with p (given p) (record { page = q; changes = changes })) ps ≡ record { page = q; changes = Some (given q) }
      by_test true same rest =
          ap (λ n. fold turn n ps)
          (notice_with-same p (given p) (record { page = q; changes = changes }) same
          ∙ ap (λ p. record { page = p; changes = Some (given p) }) (sym (eqb-true _ _ same)))
          ∙ turn-stays q ps
      by_test false apart rest =
          ap (λ n. fold turn n ps) (notice_with-other p (given p) (record { page = q; changes = changes }) apart)
          ∙ rest
          (⊎_elim (λ (same : p ≡ q). absurd (true≢false (sym (eq-eqb q p (sym same)) ∙ apart))) (λ later. later) (cases_Contains p ps q member))

  turns : (ps : List ℕ) (ns : List NoticeRecord) → fold (λ ns p. map (notice_with p (given p)) ns) ns ps ≡ map (λ n. fold turn n ps) ns
  turns [] ns = sym (same ns)
    where
      same : (ns : List NoticeRecord) → map (λ n. n) ns ≡ ns
      same [] = refl
      same (n ∷ ns) = ap (λ rest. n ∷ rest) (same ns)
  turns (p ∷ ps) ns = turns ps (map (notice_with p (given p)) ns) ∙ map-both (notice_with p (given p)) (λ n. fold turn n ps) ns

  each-of : (ps : List ℕ) → All (λ p. Contains ps p) ps
  each-of ps k d within = Contains-get_or ps k d within

  all-turned : (ps : List ℕ) → fold (λ ns p. map (notice_with p (given p)) ns) (map unread ps) ps
      ≡ map (λ p. record { page = p; changes = Some (given p) }) ps
  all-turned ps =
      turns ps (map unread ps) ∙ map-both unread (λ n. fold turn n ps) ps
      ∙ map-within (λ p. Contains ps p) (λ p. fold turn (unread p) ps) (λ p. record { page = p; changes = Some (given p) }) ps (each-of ps)
      (λ p member. turn-one p None ps member)

  -- the changes of an interval that was added last are kept with it
  fold-own : (store : StoreRecord) (me index : ℕ) (es : List StoredRecord) (s : StoredRecord) (ps : List ℕ)
      → All (λ e. is_at me index e ≡ false) es → is_at me index s ≡ true
      → fold (with_own me index) (record store { entries = es ++ s ∷ [] }) (map (λ p. (p, given p)) ps)
      ≡ record store { entries = es ++ (record s { notices = fold (λ ns p. map (notice_with p (given p)) ns) s.notices ps }) ∷ [] }
  fold-own store me index es s [] apart at = refl
  fold-own store me index es s (p ∷ ps) apart at =
      ap (λ (st : StoreRecord). fold (with_own me index) st (map (λ p. (p, given p)) ps)) (step store me index es s p apart at)
      ∙ fold-own store me index es (record s { notices = map (notice_with p (given p)) s.notices }) ps apart at
    where
      step : (store : StoreRecord) (me index : ℕ) (es : List StoredRecord) (s : StoredRecord) (p : ℕ)
          → All (λ e. is_at me index e ≡ false) es → is_at me index s ≡ true
          → with_own me index (record store { entries = es ++ s ∷ [] }) (p, given p)
          ≡ record store { entries = es ++ (record s { notices = map (notice_with p (given p)) s.notices }) ∷ [] }
      step store me index es s p apart at =
          let key : Key = record { node = me; index = index; page = p } in
          ap (λ (entries : List StoredRecord). record store { entries = entries })
          (map-append (stored_with key (given p)) es (s ∷ [])
          ∙ ap (λ (l : List StoredRecord). l ++ stored_with key (given p) s ∷ [])
          (map-within (λ e. is_at me index e ≡ false) (stored_with key (given p)) (λ e. e) es apart (λ e not. stored_with-other key (given p) e not)
          ∙ same es)
          ∙ ap (λ b. es ++ cond b (record s { notices = map (notice_with p (given p)) s.notices }) s ∷ []) at)
        where
          same : (es : List StoredRecord) → map (λ e. e) es ≡ es
          same [] = refl
          same (e ∷ es) = ap (λ rest. e ∷ rest) (same es)

-- ---- the indices of the pages

abbrev pub named_with : ℕ → List ℕ → ℕ → List ℕ
named_with index named page = set named page index

pub length-named : (index : ℕ) (ps named : List ℕ) → length (fold (named_with index) named ps) ≡ length named
length-named index [] named = refl
length-named index (p ∷ ps) named = length-named index ps (set named p index) ∙ length-set named p index

pub all-named : (P : ℕ → Type 0) (index : ℕ) (ps named : List ℕ) → P index → All P named → All P (fold (named_with index) named ps)
all-named P index [] named here all = all
all-named P index (p ∷ ps) named here all = all-named P index ps (set named p index) here (All-set P named p index here all)

named-stays : (index : ℕ) (ps named : List ℕ) (q : ℕ) → q < length named → get_or named q 0 ≡ index → get_or (fold (named_with index) named ps) q 0 ≡ index
named-stays index [] named q within is = is
named-stays index (p ∷ ps) named q within is =
    named-stays index ps (set named p index) q (omega (arith, length-set named p index, within))
    (⊎_elim
    (λ (same : q ≡ p). ap (λ k. get_or (set named p index) k 0) same ∙ get_or-set_same named p index 0 (omega (arith, same, within)))
    (λ apart. get_or-set_other named p q index 0 apart ∙ is)
    (cases_eq q p))

pub named-here : (index : ℕ) (ps named : List ℕ) (q : ℕ) → q < length named → Contains ps q → get_or (fold (named_with index) named ps) q 0 ≡ index
named-here index [] named q within member = absurd (none_Contains q member)
named-here index (p ∷ ps) named q within member =
    let inside : q < length (set named p index) = omega (arith, length-set named p index, within) in
    ⊎_elim
    (λ (same : p ≡ q).
    named-stays index ps (set named p index) q inside
    (ap (λ k. get_or (set named p index) k 0) (sym same) ∙ get_or-set_same named p index 0 (omega (arith, same, within))))
    (λ later. named-here index ps (set named p index) q inside later)
    (cases_Contains p ps q member)

pub named-other : (index : ℕ) (ps named : List ℕ) (q : ℕ) → (Contains ps q → ⊥) → get_or (fold (named_with index) named ps) q 0 ≡ get_or named q 0
named-other index [] named q not = refl
named-other index (p ∷ ps) named q not =
    named-other index ps (set named p index) q (λ later. not (Contains-later p ps q later))
    ∙ get_or-set_other named p q index 0 (λ same. not (subst (Contains (p ∷ ps)) (sym same) (Contains-first p ps)))

-- ---- the whole

abbrev pub interval_at : Kept → List ℕ → IntervalRecord
interval_at kept stamp = record { node = kept.me; stamp = stamp; pages = written_pages kept.table }

abbrev pub closed_at : Kept → List ℕ → Kept
closed_at kept stamp = record kept {
  store = added kept.store (interval_at kept stamp);
  table = with_each kept.table closed;
  named = fold (named_with (entry stamp kept.me)) kept.named (written_pages kept.table);
}

module _ (kept : Kept) (stamp : List ℕ) where
  abbrev pub o : Key → Option (List Change)
  o = unmade kept.me kept.named kept.table

  abbrev pub after : Key → Option (List Change)
  after = unmade kept.me (closed_at kept stamp).named (with_each kept.table closed)

  each : (page : ℕ) → copy_at (with_each kept.table closed) page ≡ closed (copy_at kept.table page)
  each page = get_or-mapped closed kept.table.copies page (fresh [])

  member : (page : ℕ) → is_written (copy_at kept.table page).state ≡ true → Contains (written_pages kept.table) page
  member page is =
      ⊎_elim
      (λ (within : page < length kept.table.copies). (contains-written kept.table page).1 (within, is))
      (λ (past : length kept.table.copies ≤ page).
      let none : copy_at kept.table page ≡ fresh [] = get_or_past kept.table.copies page (fresh []) past in
      let not : is_written (copy_at kept.table page).state ≡ false = ap (λ (c : PageCopy). is_written c.state) none in
      absurd (true≢false (sym is ∙ not)))
      (cases_lt page (length kept.table.copies))

  not-pending : (state : State) (c : PageCopy) → is_written state ≡ true → pending_changes (record c { state = state }) ≡ None
  not-pending Valid c is = absurd (cc)
  not-pending Written c is = refl
  not-pending Invalid c is = refl
  not-pending Absent c is = refl

  -- before, a key that is not of the closed interval
  elsewhere : IsKept kept → (key : Key) → ((key.node ≡ kept.me) × (key.index ≡ entry stamp kept.me) → ⊥) → after key ≡ o key
  elsewhere is key apart = by_test (is_written (copy_at kept.table key.page).state) refl
    where
      nothing : Option (List Change)
      nothing = None

      either : (b : Bool) → cond b nothing nothing ≡ nothing
      either true = refl
      either false = refl

      by_test : (b : Bool) → is_written (copy_at kept.table key.page).state ≡ b → after key ≡ o key
      by_test true w =
          let there = member key.page w in
          let within : key.page < length kept.named = omega (arith, is.named, ((contains-written kept.table key.page).0 there).0) in
          let named : get_or (closed_at kept stamp).named key.page 0 ≡ entry stamp kept.me =
          named-here (entry stamp kept.me) (written_pages kept.table) kept.named key.page within there in
          ap (λ b. cond b (pending_changes (copy_at (with_each kept.table closed) key.page)) None)
          (false_from_ne_true _
          (λ found.
          let parts = and_parts (eqb key.node kept.me) _ found in
          apart (eqb-true _ _ parts.0, sym (eqb-true _ _ parts.1) ∙ named)))
          ∙ sym (ap (λ found. cond (eqb key.node kept.me && eqb (get_or kept.named key.page 0) key.index) found None)
          (not-pending (copy_at kept.table key.page).state (copy_at kept.table key.page) w)
          ∙ either (eqb key.node kept.me && eqb (get_or kept.named key.page 0) key.index))
      by_test false w =
          ap (λ n. cond (eqb key.node kept.me && eqb n key.index) (pending_changes (copy_at (with_each kept.table closed) key.page)) None)
          (named-other (entry stamp kept.me) (written_pages kept.table) kept.named key.page
          (λ there. true≢false (sym ((contains-written kept.table key.page).0 there).1 ∙ w)))
          ∙ ap (λ c. cond (eqb key.node kept.me && eqb (get_or kept.named key.page 0) key.index) (pending_changes c) None)
          (each key.page ∙ ap (λ b. cond b (record (copy_at kept.table key.page) { state = Valid }) (copy_at kept.table key.page)) w)

  -- a page of the closed interval has its changes to make
  here : IsKept kept → All (IsWhole kept.table.size) kept.table.copies → (page : ℕ) → Contains (written_pages kept.table) page
      → after (record { node = kept.me; index = entry stamp kept.me; page = page }) ≡ Some (made kept.table page)
  here is whole page there =
      let facts = (contains-written kept.table page).0 there in
      let copy = copy_at kept.table page in
      let written : copy.state ≡ Written = is_written-says copy.state facts.1 in
      ap (λ b. cond (b && eqb (get_or (closed_at kept stamp).named page 0) (entry stamp kept.me))
      (pending_changes (copy_at (with_each kept.table closed) page)) None)
      (eq-eqb kept.me kept.me refl)
      ∙ ap (λ b. cond b (pending_changes (copy_at (with_each kept.table closed) page)) None)
      (eq-eqb _ _ (named-here (entry stamp kept.me) (written_pages kept.table) kept.named page (omega (arith, is.named, facts.0)) there))
      ∙ ap pending_changes (each page)
      ∙ by_twin copy.twin refl written (whole-twin kept.table.size copy (whole page (fresh []) facts.0) written)
    where
      by_twin : (found : Option (List ℕ)) → (copy_at kept.table page).twin ≡ found → (copy_at kept.table page).state ≡ Written
          → IsSome (copy_at kept.table page).twin
          → pending_changes (closed (copy_at kept.table page)) ≡ Some (made kept.table page)
      by_twin None none written some = let no : IsSome {T = List ℕ} None = subst (λ (t : Option (List ℕ)). IsSome t) none some in absurd (cc)
      by_twin (Some twin) found written some =
          pending-closed (copy_at kept.table page) twin written found
          ∙ ap (λ (t : Option (List ℕ)). Some (changes_between (unwrap_or t []) (copy_at kept.table page).values)) (sym found)

  -- entries from before are not of the closed interval
  old-entries : IsKept kept → entry stamp kept.me ≡ entry kept.store.last kept.me + 1
      → All (λ e. is_at kept.me (entry stamp kept.me) e ≡ false) kept.store.entries
  old-entries is next k d within =
      let there = get_or kept.store.entries k d in
      false_from_ne_true _
      (λ at.
      let parts = and_parts (eqb there.node kept.me) _ at in
      let node : there.node ≡ kept.me = eqb-true _ _ parts.0 in
      let index : index_of (interval_of there) ≡ entry stamp kept.me = eqb-true _ _ parts.1 in
      let below : index_of (interval_of there) ≤ entry kept.store.last there.node = counted kept is.store k d within in
      let same : entry kept.store.last there.node ≡ entry kept.store.last kept.me = ap (entry kept.store.last) node in
      absurd (omega (arith, index, below, same, next)))

  entries-elsewhere : IsKept kept → entry stamp kept.me ≡ entry kept.store.last kept.me + 1
      → map (stored_over after) kept.store.entries ≡ map (stored_over o) kept.store.entries
  entries-elsewhere is next =
      map-within (λ e. is_at kept.me (entry stamp kept.me) e ≡ false) (stored_over after) (stored_over o) kept.store.entries (old-entries is next)
      (λ e not.
      ap (λ (notices : List NoticeRecord). record e { notices = notices })
      (map-alike (notice_over after e.node (index_of (interval_of e))) (notice_over o e.node (index_of (interval_of e))) e.notices
      (λ n.
      ap (λ found. record n { changes = option_or found n.changes })
      (elsewhere is (record { node = e.node; index = index_of (interval_of e); page = n.page })
      (λ there. true≢false (sym (and_from _ _ (eq-eqb _ _ there.0) (eq-eqb _ _ there.1)) ∙ not))))))

  -- the interval with its changes
  abbrev full : StoredRecord
  full = record {
    node = kept.me;
    stamp = stamp;
    notices = map (λ page. record { page = page; changes = Some (made kept.table page) }) (written_pages kept.table);
  }

  last-seen : IsKept kept → All (IsWhole kept.table.size) kept.table.copies → stored_over after (without_changes (interval_at kept stamp)) ≡ full
  last-seen is whole =
      let index = entry stamp kept.me in
      let f : ℕ → Option (List Change) = λ page. after (record { node = kept.me; index = index; page = page }) in
      stored-over_new after (interval_at kept stamp) f (λ page. refl)
      ∙ ap (λ (notices : List NoticeRecord). record full { notices = notices })
      (map-within (λ p. Contains (written_pages kept.table) p) (λ page. record { page = page; changes = option_or (f page) None })
      (λ page. record { page = page; changes = Some (made kept.table page) }) (written_pages kept.table)
      (λ k d within. Contains-get_or (written_pages kept.table) k d within)
      (λ page there. ap (λ found. record { page = page; changes = option_or found None }) (here is whole page there)))

  abbrev with_entries : List StoredRecord → StoreRecord
  with_entries entries = record (added kept.store (interval_at kept stamp)) { entries = entries }

  store-closed : IsKept kept → All (IsWhole kept.table.size) kept.table.copies → entry stamp kept.me ≡ entry kept.store.last kept.me + 1
      → store_over after (added kept.store (interval_at kept stamp))
      ≡ fold (with_own kept.me (entry stamp kept.me)) (added (seen kept).store (closed_interval kept.me stamp (seen kept))) (all_changes (seen kept))
  store-closed is whole next =
      let index = entry stamp kept.me in
      let w = written_pages kept.table in
      let es = map (stored_over o) kept.store.entries in
      let changes = all_changes-seen kept in
      let pages : map (λ (page : ℕ × List Change). page.0) (all_changes (seen kept)) ≡ w =
      ap (map (λ (page : ℕ × List Change). page.0)) changes ∙ map-both (λ p. (p, made kept.table p)) (λ (page : ℕ × List Change). page.0) w ∙ same w in
      let apart : All (λ e. is_at kept.me index e ≡ false) es =
      All-map (λ e. is_at kept.me index e ≡ false) (stored_over o) kept.store.entries
      (λ k d within. is_at-over o kept.me index (get_or kept.store.entries k d) ∙ old-entries is next k d within) in
      ap with_entries
      (map-append (stored_over after) kept.store.entries (without_changes (interval_at kept stamp) ∷ [])
      ∙ ap (λ l. l ++ stored_over after (without_changes (interval_at kept stamp)) ∷ []) (entries-elsewhere is next)
      ∙ ap (λ s. es ++ s ∷ []) (last-seen is whole)
      ∙ sym (ap (λ notices. es ++ (record full { notices = notices }) ∷ []) (all-turned (made kept.table) w)))
      ∙ sym (fold-own (made kept.table) (added kept.store (interval_at kept stamp)) kept.me index es (without_changes (interval_at kept stamp)) w apart
      (and_from _ _ (eq-eqb kept.me kept.me refl) (eq-eqb index index refl)))
      ∙ ap (fold (with_own kept.me index) (added (seen kept).store (interval_at kept stamp))) (sym changes)
      ∙ ap (λ ps. fold (with_own kept.me index) (added (seen kept).store (record { node = kept.me; stamp = stamp; pages = ps }))
      (all_changes (seen kept))) (sym pages)
    where
      same : (w : List ℕ) → map (λ p. p) w ≡ w
      same [] = refl
      same (p ∷ ps) = ap (λ rest. p ∷ rest) (same ps)

  copies-closed : (page : ℕ) → seen_copy (with_each kept.table closed) kept.since page ≡ copy.closed (seen_copy kept.table kept.since page)
  copies-closed page =
      ap (λ (c : PageCopy). seen_in c.state (get_or kept.since page []) c) (each page) ∙ by_state (copy_at kept.table page).state
    where
      by_state : (state : State)
          → seen_in (closed (record (copy_at kept.table page) { state = state })).state (get_or kept.since page [])
          (closed (record (copy_at kept.table page) { state = state }))
          ≡ copy.closed (seen_in state (get_or kept.since page []) (copy_at kept.table page))
      by_state Valid = refl
      by_state Written = refl
      by_state Invalid = refl
      by_state Absent = refl

  bases-closed : map (λ (c : PageCopy). c.base) (map closed kept.table.copies) ≡ map (λ (c : PageCopy). c.base) kept.table.copies
  bases-closed =
      map-both closed (λ (c : PageCopy). c.base) kept.table.copies
      ∙ map-alike (λ (c : PageCopy). (closed c).base) (λ (c : PageCopy). c.base) kept.table.copies (λ c. by_test c (is_written c.state))
    where
      by_test : (c : PageCopy) (b : Bool) → (cond b (record c { state = Valid }) c).base ≡ c.base
      by_test c true = refl
      by_test c false = refl

  pub seen-closed : (n : NodeMemory) → node_seen kept ≡ n → IsKept kept → All (IsWhole kept.table.size) kept.table.copies
      → entry stamp kept.me ≡ entry kept.store.last kept.me + 1
      → node_seen (closed_at kept stamp) ≡ with_known n (with_interval n.me stamp n.memory)
  seen-closed n is sound whole next =
      let now = with_each kept.table closed in
      let count = length kept.table.copies in
      let copies : map (seen_copy now kept.since) (range_with_len 0 (length now.copies)) ≡ map copy.closed (seen kept).copies =
      ap (λ n. map (seen_copy now kept.since) (range_with_len 0 n)) (length-map kept.table.copies closed)
      ∙ map-alike (seen_copy now kept.since) (λ p. copy.closed (seen_copy kept.table kept.since p)) (range_with_len 0 count) copies-closed
      ∙ sym (map-both (seen_copy kept.table kept.since) copy.closed (range_with_len 0 count)) in
      ap (λ s. with_known (node_seen kept) (record (seen (closed_at kept stamp)) { store = s })) (store-closed sound whole next)
      ∙ ap (λ cs. with_known (node_seen kept)
      (record (seen (closed_at kept stamp)) { store = (with_interval kept.me stamp (seen kept)).store; copies = cs })) copies
      ∙ ap (λ bs. with_known (node_seen kept) (record (with_interval kept.me stamp (seen kept)) { bases = bs })) bases-closed
      ∙ ap (λ (n : NodeMemory). with_known n (with_interval n.me stamp n.memory)) is

  pub unsized : (ps : List ℕ) → All (λ (n : NoticeRecord). ForSome n.changes (λ cs. All (λ c. c.offset < words_of kept.table.size) cs)) (map unread ps)
  unsized ps = All-map (λ (n : NoticeRecord). ForSome n.changes (λ cs. All (λ c. c.offset < words_of kept.table.size) cs)) unread
      ps (λ k d within cs is. absurd (cc))

  pub no_later : IsKept kept → (page : ℕ) → get_or kept.named page 0 ≤ entry kept.store.last kept.me
  no_later is page =
      ⊎_elim
      (λ (within : page < length kept.named). is.passed page 0 within)
      (λ (past : length kept.named ≤ page). omega (arith, get_or_past kept.named page 0 past))
      (cases_lt page (length kept.named))

  unmade-closed : IsKept kept → entry stamp kept.me ≡ entry kept.store.last kept.me + 1 → (page : ℕ) (changes : List Change)
      → pending_changes (copy_at (with_each kept.table closed) page) ≡ Some changes
      → notice_at (added kept.store (interval_at kept stamp)) (record { node = kept.me; index = get_or (closed_at kept stamp).named page 0; page = page })
      ≡ Some (record { page = page; changes = None })
  unmade-closed is next page changes pending = by_test (is_written (copy_at kept.table page).state) refl
    where
      by_test : (b : Bool) → is_written (copy_at kept.table page).state ≡ b
          → notice_at (added kept.store (interval_at kept stamp)) (record { node = kept.me; index = get_or (closed_at kept stamp).named page 0; page = page })
          ≡ Some (record { page = page; changes = None })
      by_test true w =
          let there = member page w in
          let within : page < length kept.named = omega (arith, is.named, ((contains-written kept.table page).0 there).0) in
          ap (λ i. notice_at (added kept.store (interval_at kept stamp)) (record { node = kept.me; index = i; page = page }))
          (named-here (entry stamp kept.me) (written_pages kept.table) kept.named page within there)
          ∙ notice_at-added kept.store (interval_at kept stamp) page is.store next there
      by_test false w =
          let before : pending_changes (copy_at kept.table page) ≡ Some changes =
          sym (ap pending_changes (each page ∙ ap (λ b. cond b (record (copy_at kept.table page) { state = Valid }) (copy_at kept.table page)) w)) ∙ pending in
          let low : get_or kept.named page 0 ≤ entry kept.store.last kept.me = no_later is page in
          ap (λ i. notice_at (added kept.store (interval_at kept stamp)) (record { node = kept.me; index = i; page = page }))
          (named-other (entry stamp kept.me) (written_pages kept.table) kept.named page
          (λ there. true≢false (sym ((contains-written kept.table page).0 there).1 ∙ w)))
          ∙ ap (option_and_then (notice_of page))
          (stored_at-added_other kept.store (interval_at kept stamp) kept.me (get_or kept.named page 0)
          (λ same. let index : get_or kept.named page 0 ≡ entry stamp kept.me = same.1 in absurd (omega (arith, index, low, next))))
          ∙ is.unmade page changes before

  pub kept-closed : IsKept kept → All (IsWhole kept.table.size) kept.table.copies → IsStore (added kept.store (interval_at kept stamp))
      → length stamp ≡ length kept.store.last → entry stamp kept.me ≡ entry kept.store.last kept.me + 1 → IsKept (closed_at kept stamp)
  kept-closed is whole sound long next =
      let index = entry stamp kept.me in
      let last = length-set kept.store.last kept.me index in
      let count = length-map kept.table.copies closed in
      let own : entry (set kept.store.last kept.me index) kept.me ≡ index = get_or-set_same kept.store.last kept.me index 0 is.me in record {
        pages = is.pages ∙ sym count;
        since = is.since ∙ sym count;
        named = length-named index (written_pages kept.table) kept.named ∙ is.named ∙ sym count;
        keepers = is.keepers ∙ sym count;
        me = omega (arith, last, is.me);
        times = All-weaker (λ (t : List ℕ). length t ≡ length kept.store.last) (λ (t : List ℕ). length t ≡ length (set kept.store.last kept.me index))
            (λ t h. h ∙ sym last) kept.since is.times;
        collected = is.collected ∙ sym last;
        keeping = All-weaker (λ k. k < length kept.store.last) (λ k. k < length (set kept.store.last kept.me index))
            (λ k h. omega (arith, last, h)) kept.keepers is.keeping;
        makers = subst (All (λ (i : IntervalRecord). i.node < length (set kept.store.last kept.me index)))
            (sym (intervals_of-added kept.store (interval_at kept stamp)))
            (All-push (λ (i : IntervalRecord). i.node < length (set kept.store.last kept.me index)) (intervals_of kept.store) (interval_at kept stamp)
            (All-weaker (λ (i : IntervalRecord). i.node < length kept.store.last) (λ (i : IntervalRecord). i.node < length (set kept.store.last kept.me index))
            (λ i h. omega (arith, last, h)) (intervals_of kept.store) is.makers)
            (omega (arith, last, is.me)));
        passed = all-named (λ i. i ≤ entry (set kept.store.last kept.me index) kept.me) index (written_pages kept.table) kept.named (omega (arith, own))
            (All-weaker (λ i. i ≤ entry kept.store.last kept.me) (λ i. i ≤ entry (set kept.store.last kept.me index) kept.me)
            (λ i h. omega (arith, own, next, h)) kept.named is.passed);
        in_step = λ in_step. all-added kept.store (interval_at kept stamp) (kept.collected ∷ kept.since) next is.me (is.in_step in_step);
        store = sound;
        sized = All-push (AreSized kept.table.size) kept.store.entries (without_changes (interval_at kept stamp)) is.sized (unsized (written_pages kept.table));
        unmade = λ page changes pending. unmade-closed is next page changes pending;
      }

-- ---- where the interval could not be stored

pub kept-dropped : (kept : Kept) → IsKept kept → IsKept (record kept { table = with_each (with_each kept.table closed) without_twin })
kept-dropped kept is =
    let now = with_each (with_each kept.table closed) without_twin in
    let count : length now.copies ≡ length kept.table.copies =
    length-map (with_each kept.table closed).copies without_twin ∙ length-map kept.table.copies closed in record {
      pages = is.pages ∙ sym count;
      since = is.since ∙ sym count;
      named = is.named ∙ sym count;
      keepers = is.keepers ∙ sym count;
      me = is.me;
      times = is.times;
      collected = is.collected;
      keeping = is.keeping;
      makers = is.makers;
      passed = is.passed;
      in_step = is.in_step;
      store = is.store;
      sized = is.sized;
      unmade = λ page changes pending.
          let nothing : Some changes ≡ None =
          sym pending
          ∙ ap pending_changes (get_or-mapped without_twin (with_each kept.table closed).copies page (fresh []))
          ∙ pending-untwinned (copy_at (with_each kept.table closed) page) in
          absurd (cc);
    }

-- ---- after the calls

pub told_ok : {X E : Type 0} {P : Type 0} (r : Result X E) → OnOk r P → is_err r ≡ false → P
told_ok (Ok x) told fine = told
told_ok (Err e) told fine = absurd (cc)

pub told_err : {X E : Type 0} {P : Type 0} (r : Result X E) → OnErr r P → is_err r ≡ true → P
told_err (Ok x) told bad = absurd (cc)
told_err (Err e) told bad = told

pub interval-is : (kept : Kept) (stamp copied w : List ℕ) (interval : IntervalRecord) → interval ≡ record { node = kept.me; stamp = copied; pages = w }
    → copied ≡ stamp → w ≡ written_pages kept.table → interval ≡ interval_at kept stamp
interval-is kept stamp copied w interval is copied_is w_is =
    is
    ∙ ap (λ s. record { node = kept.me; stamp = s; pages = w }) copied_is
    ∙ ap (λ w. record { node = kept.me; stamp = stamp; pages = w }) w_is

pub closed-is : (kept : Kept) (stamp named pages : List ℕ) (index : ℕ) (interval : IntervalRecord) (store : StoreRecord) (table : Table)
    → interval ≡ interval_at kept stamp → store ≡ added kept.store interval → table ≡ with_each kept.table closed
    → pages ≡ interval.pages → index ≡ index_of interval → named ≡ fold (named_with index) kept.named pages
    → record kept { store = store; table = table; named = named } ≡ closed_at kept stamp
closed-is kept stamp named pages index interval store table is store_is table_is pages_are index_is named_is =
    let names : named ≡ (closed_at kept stamp).named =
    named_is
    ∙ ap (λ ps. fold (named_with index) kept.named ps) (pages_are ∙ ap (λ (i : IntervalRecord). i.pages) is)
    ∙ ap (λ i. fold (named_with i) kept.named (written_pages kept.table)) (index_is ∙ ap index_of is) in
    ap (λ s. record kept { store = s; table = table; named = named }) (store_is ∙ ap (added kept.store) is)
    ∙ ap (λ t. record kept { store = added kept.store (interval_at kept stamp); table = t; named = named }) table_is
    ∙ ap (λ ns. record kept { store = added kept.store (interval_at kept stamp); table = with_each kept.table closed; named = ns }) names

pub written-below : (table : Table) (count : ℕ) (w : List ℕ) → w ≡ written_pages table → length table.copies ≡ count → All (λ page. page < count) w
written-below table count w is long =
    subst (All (λ page. page < count)) (sym is)
    (λ k d within.
    let inside = Contains-get_or (written_pages table) k d within in
    omega (arith, ((contains-written table (get_or (written_pages table) k d)).0 inside).0, long))
