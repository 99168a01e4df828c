-- What a store knows of intervals that were closed: each stored one is one of those, and the changes that are known are its changes.
use Rattle.std.proofs.Common.{◌≡◌, ◌⊎◌, ℕ, ◌<◌, List, [], ◌∷◌, ◌++◌, Bool, true, false, map, refl, sym, ap, subst, ◌∙◌, inl, inr, ⊎_elim, arith}
use Rattle.std.specs.Prelude.{Option, Some, None, not, find, ◌==◌, All, AllPairs, Contains, cond, fold, option_and_then, slice_index_or, if◌then◌else◌}
use Rattle.std.specs.List.{AllZip}
use Rattle.std.proofs.lemmas.Bool.{eq-eqb, eqb-true, ne_eqb}
use Rattle.std.proofs.lemmas.Option.{same_Some}
use Rattle.std.proofs.lemmas.List.Elements.{All-head, All-tail, All-push, All-map, All-weaker, All-filter}
use Rattle.std.proofs.lemmas.List.Elements.{All-contains, All-contains_itself, Contains-append_left}
use Rattle.lrc_time.specs.Time.{entry}
use Rattle.lrc_page.specs.declared.changes.Change.{Change}
use Rattle.lrc_store.specs.declared.key.Key.{Key}
use Rattle.lrc_store.specs.Interval.{IntervalRecord}
use Rattle.lrc_store.specs.Store.{StoreRecord, StoredRecord, NoticeRecord, interval_of, is_at, is_covered, unread, without_changes}
use Rattle.lrc_store.specs.Store.{added, notice_with, stored_with, attached, discarded, stored_at, notice_of, changes_at}
use Rattle.lrc_store.proofs.Lookups.{passes-find}
use Rattle.lrc_envelope.specs.Records.{IndexedChangesRecord}
use Rattle.lrc_copies.specs.Stamps.{stamp_index}
use Rattle.lrc_copies.proofs.Members.{Contains-first, Contains-later, cases_Contains, none_Contains, AllPairs-first, AllPairs-rest}
use Rattle.lrc_protocol.specs.Times.{next_time}
use Rattle.lrc_protocol.specs.Pages.{all_changes, closed_interval, with_own, with_interval, with_part}
use Rattle.lrc_protocol.specs.Node.{Node}
use Rattle.lrc_reading_laws.specs.Made.{AllMade}
use Rattle.lrc_reading_laws.specs.Written.{made_stamps, made_changes}
use Rattle.lrc_reading_laws.proofs.Closed.History.{closed_record}
use Rattle.lrc_reading_laws.proofs.Stamped.Lists.{HasRecord, interval-in, interval-from, AreFound, is_at-parts, closed-interval}
use Rattle.lrc_reading_laws.proofs.Stamped.Made.{Rises}

-- ---- finding

pub find-in : {X : Type 0} (p : X → Bool) (xs : List X) (x : X) → find p xs ≡ Some x → Contains xs x
find-in p [] x e = absurd cc
find-in p (y ∷ xs) x e = here (λ e. find-in p xs x e) (p y) e
  where
    here : (find p xs ≡ Some x → Contains xs x) → (b : Bool) → cond b (Some y) (find p xs) ≡ Some x → Contains (y ∷ xs) x
    here rest true e = subst (Contains (y ∷ xs)) (same_Some y x e) (Contains-first y xs)
    here rest false e = Contains-later y xs x (rest e)

find-append_left : {X : Type 0} (p : X → Bool) (xs ys : List X) (x : X) → find p xs ≡ Some x → find p (xs ++ ys) ≡ Some x
find-append_left p [] ys x e = absurd cc
find-append_left p (y ∷ xs) ys x e = here (λ e. find-append_left p xs ys x e) (p y) e
  where
    here : (find p xs ≡ Some x → find p (xs ++ ys) ≡ Some x) → (b : Bool) → cond b (Some y) (find p xs) ≡ Some x → cond b (Some y) (find p (xs ++ ys)) ≡ Some x
    here rest true e = e
    here rest false e = rest e

-- what is found at the end of two steps was found by the first
pub then_Some : {X Y : Type 0} (f : X → Option Y) (o : Option X) (y : Y) → option_and_then f o ≡ Some y → (x : X) × (o ≡ Some x) × (f x ≡ Some y)
then_Some f None y e = absurd cc
then_Some f (Some x) y e = (x, refl, e)

abbrev changes_of : NoticeRecord → Option (List Change)
changes_of notice = notice.changes

-- the changes of a page among notices
abbrev changes_in : ℕ → List NoticeRecord → Option (List Change)
changes_in page notices = option_and_then changes_of (find (λ (notice : NoticeRecord). notice.page == page) notices)

-- where pages rise, each notice is found by its page
find-rising : (notices : List NoticeRecord) (b : NoticeRecord) → AllPairs (λ (a b : NoticeRecord). a.page < b.page) notices → Contains notices b
    → find (λ (notice : NoticeRecord). notice.page == b.page) notices ≡ Some b
find-rising [] b rises c = absurd (none_Contains b c)
find-rising (a ∷ notices) b rises c =
    ⊎_elim
    (λ (first : a ≡ b).
    ap (λ t. cond t (Some a) (find (λ (notice : NoticeRecord). notice.page == b.page) notices))
    (eq-eqb a.page b.page (ap (λ (x : NoticeRecord). x.page) first))
    ∙ ap Some first)
    (λ (later : Contains notices b).
    let less : a.page < b.page = AllPairs-first (λ (a b : NoticeRecord). a.page < b.page) a notices b rises later in
    ap (λ t. cond t (Some a) (find (λ (notice : NoticeRecord). notice.page == b.page) notices)) (ne_eqb a.page b.page (λ e. omega (arith, less, e)))
    ∙ find-rising notices b (AllPairs-rest (λ (a b : NoticeRecord). a.page < b.page) a notices rises) later)
    (cases_Contains a notices b c)

-- so the changes of its page are its own
changes-rising : (notices : List NoticeRecord) (b : NoticeRecord) (page : ℕ) (changes : List Change)
    → AllPairs (λ (a b : NoticeRecord). a.page < b.page) notices → changes_in page notices ≡ Some changes → Contains notices b → b.page ≡ page
    → b.changes ≡ Some changes
changes-rising notices b page changes rises e c is =
    sym (ap (option_and_then changes_of) (find-rising notices b rises c)) ∙ ap (λ k. changes_in k notices) is ∙ e

-- ---- what was made

-- with more that was made
pub changes-more : (made new : List StoredRecord) (key : Key) (changes : List Change) → made_changes made key ≡ Some changes
    → made_changes (made ++ new) key ≡ Some changes
changes-more made new key changes e =
    let outer : (b : NoticeRecord) × (_ ≡ Some b) × (b.changes ≡ Some changes) =
    then_Some changes_of (option_and_then (notice_of key.page) (stored_at made key.node key.index)) changes e in
    let inner : (x : StoredRecord) × (stored_at made key.node key.index ≡ Some x) × (notice_of key.page x ≡ Some outer.0) =
    then_Some (notice_of key.page) (stored_at made key.node key.index) outer.0 outer.1 in
    ap (λ o. option_and_then changes_of (option_and_then (notice_of key.page) o))
    (find-append_left (is_at key.node key.index) made new inner.0 inner.1)
    ∙ ap (option_and_then changes_of) inner.2 ∙ outer.2

-- the changes of a key of an interval that was made
made-at : (made : List StoredRecord) (m : StoredRecord) (key : Key) → AreFound made → Contains made m → m.node ≡ key.node
    → stamp_index made_stamps m ≡ key.index → made_changes made key ≡ changes_in key.page m.notices
made-at made m key found c node index =
    ap (λ o. option_and_then changes_of (option_and_then (notice_of key.page) o))
    (ap (λ n. stored_at made n key.index) (sym node) ∙ ap (stored_at made m.node) (sym index) ∙ found m c)

-- changes of a maker's intervals, as they were made
abbrev pub ArePartsOf : List StoredRecord → ℕ → ℕ → List IndexedChangesRecord → Type 0
ArePartsOf made from page parts =
    All (λ (part : IndexedChangesRecord). made_changes made (record { node = from; index = part.index; page = page }) ≡ Some part.changes) parts

-- ---- what is known of it

-- a notice is known as it was made: its page, and its changes if any are known
abbrev pub IsNoticeOf : NoticeRecord → NoticeRecord → Type 0
IsNoticeOf a b = (a.page ≡ b.page) × ((a.changes ≡ None) ⊎ (a.changes ≡ b.changes))

pub record IsKnown (made : List StoredRecord) (s : StoredRecord) : Type 0 where
  pub m : StoredRecord
  pub in_list : Contains made m
  pub node_is : s.node ≡ m.node
  pub stamp_is : s.stamp ≡ m.stamp
  pub notices : AllZip IsNoticeOf s.notices m.notices

known-more : (made new : List StoredRecord) (s : StoredRecord) → IsKnown made s → IsKnown (made ++ new) s
known-more made new s k =
    record { m = k.m; in_list = Contains-append_left made new k.m k.in_list; node_is = k.node_is; stamp_is = k.stamp_is; notices = k.notices }

pub all_known-more : (made new : List StoredRecord) (entries : List StoredRecord) → All (IsKnown made) entries → All (IsKnown (made ++ new)) entries
all_known-more made new entries h = All-weaker (IsKnown made) (IsKnown (made ++ new)) (λ s k. known-more made new s k) entries h

-- ---- an interval that comes

unread-notices : (notices : List NoticeRecord) → AllZip IsNoticeOf (map unread (map (λ (notice : NoticeRecord). notice.page) notices)) notices
unread-notices [] = tt
unread-notices (b ∷ notices) = ((refl, inl refl), unread-notices notices)

module _ (made : List StoredRecord) where
  come-known : (i : IntervalRecord) → Contains (map interval_of made) i → IsKnown made (without_changes i)
  come-known i c =
      let r : HasRecord made i = interval-from made i c in
      subst (λ i. IsKnown made (without_changes i)) r.is
      (record { m = r.x; in_list = r.in_list; node_is = refl; stamp_is = refl; notices = unread-notices r.x.notices })

  pub learned-known : (intervals : List IntervalRecord) (store : StoreRecord) → AllMade (map interval_of made) intervals → All (IsKnown made) store.entries
      → All (IsKnown made) (fold added store intervals).entries
  learned-known [] store t h = h
  learned-known (i ∷ intervals) store t h =
      learned-known intervals (added store i) t.1 (All-push (IsKnown made) store.entries (without_changes i) h (come-known i t.0))

  pub dropped-known : (store : StoreRecord) (time : List ℕ) → All (IsKnown made) store.entries → All (IsKnown made) (discarded store time).entries
  dropped-known store time h = All-filter (λ stored. not (is_covered time (interval_of stored))) (IsKnown made) store.entries h

  module _ (found : AreFound made) (rising : All Rises made) where
    -- ---- changes that come

    notices-with : (page : ℕ) (changes : List Change) (known those : List NoticeRecord) → AllZip IsNoticeOf known those
        → ((b : NoticeRecord) → Contains those b → b.page ≡ page → b.changes ≡ Some changes) → AllZip IsNoticeOf (map (notice_with page changes) known) those
    notices-with page changes [] [] z h = tt
    notices-with page changes [] (b ∷ those) z h = absurd z
    notices-with page changes (a ∷ known) [] z h = absurd z
    notices-with page changes (a ∷ known) (b ∷ those) z h =
        (here (a.page == page) refl, notices-with page changes known those z.1 (λ c in_rest. h c (Contains-later b those c in_rest)))
      where
        here : (t : Bool) → (a.page == page) ≡ t → IsNoticeOf (if t then record { page = page; changes = Some changes } else a) b
        here true e =
            let is : a.page ≡ page = eqb-true a.page page e in
            (sym is ∙ z.0.0, inr (sym (h b (Contains-first b those) (sym z.0.0 ∙ is))))
        here false e = z.0

    stored-with : (key : Key) (changes : List Change) (s : StoredRecord) → made_changes made key ≡ Some changes → IsKnown made s
        → IsKnown made (stored_with key changes s)
    stored-with key changes s e k = here (is_at key.node key.index s) refl
      where
        here : (t : Bool) → is_at key.node key.index s ≡ t
            → IsKnown made (if t then record s { notices = map (notice_with key.page changes) s.notices } else s)
        here true at =
            let parts : (s.node ≡ key.node) × (stamp_index made_stamps s ≡ key.index) = is_at-parts key.node key.index s at in
            let index : stamp_index made_stamps k.m ≡ key.index = ap (entry k.m.stamp) (sym k.node_is) ∙ ap (λ t. entry t s.node) (sym k.stamp_is) ∙ parts.1 in
            let of_page : changes_in key.page k.m.notices ≡ Some changes =
            sym (made-at made k.m key found k.in_list (sym k.node_is ∙ parts.0) index) ∙ e in
            record {
              m = k.m;
              in_list = k.in_list;
              node_is = k.node_is;
              stamp_is = k.stamp_is;
              notices = notices-with key.page changes s.notices k.m.notices k.notices
                  (λ b c is. changes-rising k.m.notices b key.page changes (All-contains Rises made k.m rising k.in_list) of_page c is);
            }
        here false at = k

    attached-known : (store : StoreRecord) (key : Key) (changes : List Change) → made_changes made key ≡ Some changes → All (IsKnown made) store.entries
        → All (IsKnown made) (attached store key changes).entries
    attached-known store key changes e h =
        All-map (IsKnown made) (stored_with key changes) store.entries
        (All-weaker (IsKnown made) (λ s. IsKnown made (stored_with key changes s)) (λ s k. stored-with key changes s e k) store.entries h)

    pub parts-known : (from page : ℕ) (parts : List IndexedChangesRecord) (store : StoreRecord) → ArePartsOf made from page parts
        → All (IsKnown made) store.entries → All (IsKnown made) (fold (with_part from page) store parts).entries
    parts-known from page [] store p h = h
    parts-known from page (part ∷ parts) store p h =
        let P : IndexedChangesRecord → Type 0 = λ part.
        made_changes made (record { node = from; index = part.index; page = page }) ≡ Some part.changes in
        parts-known from page parts (with_part from page store part) (All-tail P part parts p)
        (attached-known store (record { node = from; index = part.index; page = page }) part.changes (All-head P part parts p) h)

    own-changes : (me index : ℕ) (pages : List (ℕ × List Change)) (store : StoreRecord)
        → All (λ (page : ℕ × List Change). made_changes made (record { node = me; index = index; page = page.0 }) ≡ Some page.1) pages
        → All (IsKnown made) store.entries → All (IsKnown made) (fold (with_own me index) store pages).entries
    own-changes me index [] store p h = h
    own-changes me index (page ∷ pages) store p h =
        let P : ℕ × List Change → Type 0 = λ page. made_changes made (record { node = me; index = index; page = page.0 }) ≡ Some page.1 in
        own-changes me index pages (with_own me index store page) (All-tail P page pages p)
        (attached-known store (record { node = me; index = index; page = page.0 }) page.1 (All-head P page pages p) h)

    -- ---- the interval that a node closes

    abbrev note : ℕ × List Change → NoticeRecord
    note page = record { page = page.0; changes = Some page.1 }

    note-in : (pages : List (ℕ × List Change)) (page : ℕ × List Change) → Contains pages page → Contains (map note pages) (note page)
    note-in [] page c = absurd (none_Contains page c)
    note-in (p ∷ pages) page c =
        ⊎_elim
        (λ (first : p ≡ page). subst (λ x. Contains (map note (p ∷ pages)) (note x)) first (Contains-first (note p) (map note pages)))
        (λ (later : Contains pages page). Contains-later (note p) (map note pages) (note page) (note-in pages page later))
        (cases_Contains p pages page c)

    pub closed-known : (node : Node) → Contains made (closed_record node) → All (IsKnown made) node.memory.store.entries
        → All (IsKnown made) (with_interval node.setting.me (next_time node.setting.me node.locks.time) node.memory).store.entries
    closed-known node c h =
        let me : ℕ = node.setting.me in
        let stamp : List ℕ = next_time me node.locks.time in
        let i : IntervalRecord = closed_interval me stamp node.memory in
        let pages : List (ℕ × List Change) = all_changes node.memory in
        let Q : ℕ × List Change → Type 0 = λ page. made_changes made (record { node = me; index = entry stamp me; page = page.0 }) ≡ Some page.1 in
        own-changes me (entry stamp me) pages (added node.memory.store i)
        (λ k d within.
        let page : ℕ × List Change = slice_index_or pages k d in
        let b : NoticeRecord = note page in
        made-at made (closed_record node) (record { node = me; index = entry stamp me; page = page.0 }) found c refl refl
        ∙ ap (option_and_then changes_of)
        (find-rising (closed_record node).notices b (All-contains Rises made (closed_record node) rising c)
        (note-in pages page (All-contains_itself pages k d within))))
        (learned-known (i ∷ []) node.memory.store
        (subst (Contains (map interval_of made)) (closed-interval node) (interval-in made (closed_record node) c), tt) h)

    -- ---- what is read of a store

    notices-of : (page : ℕ) (changes : List Change) (known those : List NoticeRecord) → AllZip IsNoticeOf known those → changes_in page known ≡ Some changes
        → changes_in page those ≡ Some changes
    notices-of page changes [] [] z e = e
    notices-of page changes [] (b ∷ those) z e = absurd z
    notices-of page changes (a ∷ known) [] z e = absurd z
    notices-of page changes (a ∷ known) (b ∷ those) z e =
        ap (λ k. option_and_then changes_of (cond (k == page) (Some b) (find (λ (notice : NoticeRecord). notice.page == page) those))) (sym z.0.0)
        ∙ here (λ e. notices-of page changes known those z.1 e) (a.page == page) e
      where
        here : (changes_in page known ≡ Some changes → changes_in page those ≡ Some changes) → (t : Bool)
            → option_and_then changes_of (cond t (Some a) (find (λ (notice : NoticeRecord). notice.page == page) known)) ≡ Some changes
            → option_and_then changes_of (cond t (Some b) (find (λ (notice : NoticeRecord). notice.page == page) those)) ≡ Some changes
        here rest true e =
            ⊎_elim (λ (none : a.changes ≡ None). absurd cc) (λ (same : a.changes ≡ b.changes). sym same ∙ e) z.0.1
        here rest false e = rest e

    -- changes that are known are those that were made
    pub known-of : (store : StoreRecord) (key : Key) (changes : List Change) → All (IsKnown made) store.entries → changes_at store key ≡ Some changes
        → made_changes made key ≡ Some changes
    known-of store key changes h e =
        let outer : (a : NoticeRecord) × (_ ≡ Some a) × (a.changes ≡ Some changes) =
        then_Some changes_of (option_and_then (notice_of key.page) (stored_at store.entries key.node key.index)) changes e in
        let inner : (s : StoredRecord) × (stored_at store.entries key.node key.index ≡ Some s) × (notice_of key.page s ≡ Some outer.0) =
        then_Some (notice_of key.page) (stored_at store.entries key.node key.index) outer.0 outer.1 in
        let s : StoredRecord = inner.0 in
        let k : IsKnown made s =
        All-contains (IsKnown made) store.entries s h (find-in (is_at key.node key.index) store.entries s inner.1) in
        let parts : (s.node ≡ key.node) × (stamp_index made_stamps s ≡ key.index) =
        is_at-parts key.node key.index s (passes-find (is_at key.node key.index) store.entries s inner.1) in
        let index : stamp_index made_stamps k.m ≡ key.index = ap (entry k.m.stamp) (sym k.node_is) ∙ ap (λ t. entry t s.node) (sym k.stamp_is) ∙ parts.1 in
        made-at made k.m key found k.in_list (sym k.node_is ∙ parts.0) index
        ∙ notices-of key.page changes s.notices k.m.notices k.notices (ap (option_and_then changes_of) inner.2 ∙ outer.2)
