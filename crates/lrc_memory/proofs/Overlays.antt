-- A store seen with changes from elsewhere has the same intervals and notices.
use Rattle.std.proofs.Common.{◌≡◌, ◌≢◌, ◌∙◌, ℕ, Bool, true, false, cond, eqb, eqb-true, ◌&&◌, Option, Some, None, List, [], ◌∷◌, ◌++◌, map, refl, ap, sym}
use Rattle.std.specs.Prelude.{filter, not}
use Rattle.std.specs.Option.{is_some, option_and_then, option_map, option_or}
use Rattle.std.proofs.lemmas.Bool.{true≢false, and_parts, and_from, eq-eqb}
use Rattle.lrc_page.specs.declared.changes.Change.{Change}
use Rattle.lrc_store.specs.declared.key.Key.{Key}
use Rattle.lrc_store.specs.Interval.{IntervalRecord, index_of}
use Rattle.lrc_store.specs.Store.{NoticeRecord, StoredRecord, StoreRecord, interval_of, intervals_of, is_at, stored_at, stored_with, notice_of}
use Rattle.lrc_store.specs.Store.{notice_at, notice_with, attached, added, discarded, without_changes, unread, is_covered}
use Rattle.lrc_store.proofs.Lookups.{find-map, passes-find}
use Rattle.lrc_store.proofs.Records.{interval_of-without_changes, notice_with-other, notice_with-same}
use Rattle.lrc_store.proofs.Stores.{interval_of-stored_with}
use Rattle.lrc_memory.specs.View.{notice_over, stored_over, store_over}

module _ {X Y : Type 0} where
  pub map-alike : (f g : X → Y) (xs : List X) → ((x : X) → f x ≡ g x) → map f xs ≡ map g xs
  map-alike f g [] same = refl
  map-alike f g (x ∷ xs) same = cc (same x, map-alike f g xs same)

  pub map-append : (f : X → Y) (xs ys : List X) → map f (xs ++ ys) ≡ map f xs ++ map f ys
  map-append f [] ys = refl
  map-append f (x ∷ xs) ys = ap (λ rest. f x ∷ rest) (map-append f xs ys)

pub map-both : {X Y Z : Type 0} (f : X → Y) (g : Y → Z) (xs : List X) → map g (map f xs) ≡ map (λ x. g (f x)) xs
map-both f g [] = refl
map-both f g (x ∷ xs) = ap (λ rest. g (f x) ∷ rest) (map-both f g xs)

-- ---- intervals and notices

module _ (o : Key → Option (List Change)) where
  pages-over : (node index : ℕ) (notices : List NoticeRecord)
      → map (λ (n : NoticeRecord). n.page) (map (notice_over o node index) notices) ≡ map (λ (n : NoticeRecord). n.page) notices
  pages-over node index [] = refl
  pages-over node index (n ∷ ns) = ap (λ rest. n.page ∷ rest) (pages-over node index ns)

  pub interval-over : (stored : StoredRecord) → interval_of (stored_over o stored) ≡ interval_of stored
  interval-over stored =
      ap (λ (pages : List ℕ). record { node = stored.node; stamp = stored.stamp; pages = pages })
      (pages-over stored.node (index_of (interval_of stored)) stored.notices)

  entries-over : (entries : List StoredRecord) → map interval_of (map (stored_over o) entries) ≡ map interval_of entries
  entries-over [] = refl
  entries-over (e ∷ es) = cc (interval-over e, entries-over es)

  pub intervals-over : (store : StoreRecord) → intervals_of (store_over o store) ≡ intervals_of store
  intervals-over store = entries-over store.entries

  pub is_at-over : (node index : ℕ) (stored : StoredRecord) → is_at node index (stored_over o stored) ≡ is_at node index stored
  is_at-over node index stored = ap (λ (i : IntervalRecord). eqb i.node node && eqb (index_of i) index) (interval-over stored)

  -- a notice with the changes from elsewhere
  abbrev pub notice_seen : Key → NoticeRecord → NoticeRecord
  notice_seen key notice = record notice { changes = option_or (o key) notice.changes }

  -- a notice is found with the changes from elsewhere, and no other is found
  pub notice_at-over : (store : StoreRecord) (key : Key) → notice_at (store_over o store) key ≡ option_map (notice_seen key) (notice_at store key)
  notice_at-over store key =
      ap (option_and_then (notice_of key.page)) (find-map (is_at key.node key.index) (stored_over o) store.entries (is_at-over key.node key.index))
      ∙ by_found (stored_at store.entries key.node key.index) refl
    where
      by_notice : (stored : StoredRecord) → is_at key.node key.index stored ≡ true → (found : Option NoticeRecord)
          → notice_of key.page stored ≡ found
          → option_map (notice_over o stored.node (index_of (interval_of stored))) found ≡ option_map (notice_seen key) found
      by_notice stored at None none = refl
      by_notice stored at (Some notice) some =
          let parts = and_parts (eqb stored.node key.node) _ at in
          let node : stored.node ≡ key.node = eqb-true _ _ parts.0 in
          let index : index_of (interval_of stored) ≡ key.index = eqb-true _ _ parts.1 in
          let page : notice.page ≡ key.page = eqb-true _ _ (passes-find (λ n. eqb n.page key.page) stored.notices notice some) in
          let same : (record { node = stored.node; index = index_of (interval_of stored); page = notice.page }) ≡ key =
          ap (λ (n : ℕ). record { node = n; index = index_of (interval_of stored); page = notice.page }) node
          ∙ ap (λ (i : ℕ). record { node = key.node; index = i; page = notice.page }) index
          ∙ ap (λ (p : ℕ). record { node = key.node; index = key.index; page = p }) page in
          ap (λ (k : Key). Some (record notice { changes = option_or (o k) notice.changes })) same

      by_found : (found : Option StoredRecord) → stored_at store.entries key.node key.index ≡ found
          → option_and_then (notice_of key.page) (option_map (stored_over o) found)
          ≡ option_map (notice_seen key) (option_and_then (notice_of key.page) found)
      by_found None none = refl
      by_found (Some stored) some =
          find-map (λ notice. eqb notice.page key.page) (notice_over o stored.node (index_of (interval_of stored))) stored.notices (λ notice. refl)
          ∙ by_notice stored (passes-find (is_at key.node key.index) store.entries stored some) (notice_of key.page stored) refl

  -- what is seen has a notice exactly where the store has one
  pub has_notice-over : (store : StoreRecord) (key : Key) → is_some (notice_at (store_over o store) key) ≡ is_some (notice_at store key)
  has_notice-over store key = ap is_some (notice_at-over store key) ∙ by_found (notice_at store key)
    where
      by_found : (found : Option NoticeRecord) → is_some (option_map (notice_seen key) found) ≡ is_some found
      by_found None = refl
      by_found (Some notice) = refl

-- ---- what the store's calls do to what is seen

module _ (o other : Key → Option (List Change)) where
  pub over-alike : (store : StoreRecord) → ((key : Key) → o key ≡ other key) → store_over o store ≡ store_over other store
  over-alike store same =
      ap (λ (entries : List StoredRecord). record store { entries = entries })
      (map-alike (stored_over o) (stored_over other) store.entries
      (λ stored.
      ap (λ (notices : List NoticeRecord). record stored { notices = notices })
      (map-alike (notice_over o stored.node (index_of (interval_of stored))) (notice_over other stored.node (index_of (interval_of stored))) stored.notices
      (λ notice.
      ap (λ (found : Option (List Change)). record notice { changes = option_or found notice.changes })
      (same (record { node = stored.node; index = index_of (interval_of stored); page = notice.page }))))))

  notice-settled : (key : Key) (changes : List Change) (notice : NoticeRecord) → ((k : Key) → k ≢ key → other k ≡ o k)
      → other key ≡ None → o key ≡ Some changes
      → notice_over other key.node key.index (notice_with key.page changes notice) ≡ notice_over o key.node key.index notice
  notice-settled key changes notice elsewhere none here = by_test (eqb notice.page key.page) refl
    where
      by_test : (b : Bool) → eqb notice.page key.page ≡ b
          → notice_over other key.node key.index (notice_with key.page changes notice) ≡ notice_over o key.node key.index notice
      by_test true same =
          let page : notice.page ≡ key.page = eqb-true _ _ same in
          ap (notice_over other key.node key.index) (notice_with-same key.page changes notice same)
          ∙ ap (λ found. record { page = key.page; changes = option_or found (Some changes) }) none
          ∙ ap (λ found. record { page = key.page; changes = option_or found notice.changes }) (sym here)
          ∙ ap (λ p. record { page = p; changes = option_or (o (record { node = key.node; index = key.index; page = p })) notice.changes }) (sym page)
      by_test false apart =
          ap (notice_over other key.node key.index) (notice_with-other key.page changes notice apart)
          ∙ ap (λ found. record notice { changes = option_or found notice.changes })
          (elsewhere (record { node = key.node; index = key.index; page = notice.page })
          (λ same. let page : notice.page ≡ key.page = ap (λ (k : Key). k.page) same in true≢false (sym (eq-eqb _ _ page) ∙ apart)))

  stored-settled : (key : Key) (changes : List Change) (stored : StoredRecord) → ((k : Key) → k ≢ key → other k ≡ o k)
      → other key ≡ None → o key ≡ Some changes → stored_over other (stored_with key changes stored) ≡ stored_over o stored
  stored-settled key changes stored elsewhere none here = by_test (is_at key.node key.index stored) refl
    where
      by_test : (b : Bool) → is_at key.node key.index stored ≡ b
          → stored_over other (stored_with key changes stored) ≡ stored_over o stored
      by_test true at =
          let index = index_of (interval_of stored) in
          let parts = and_parts (eqb stored.node key.node) _ at in
          let node : stored.node ≡ key.node = eqb-true _ _ parts.0 in
          let is : index ≡ key.index = eqb-true _ _ parts.1 in
          let shown : stored_with key changes stored ≡ record stored { notices = map (notice_with key.page changes) stored.notices } =
          ap (λ b. cond b (record stored { notices = map (notice_with key.page changes) stored.notices }) stored) at in
          let made : map (notice_over other key.node key.index) (map (notice_with key.page changes) stored.notices)
          ≡ map (notice_over o key.node key.index) stored.notices =
          map-both (notice_with key.page changes) (notice_over other key.node key.index) stored.notices
          ∙ map-alike (λ n. notice_over other key.node key.index (notice_with key.page changes n)) (notice_over o key.node key.index) stored.notices
          (λ n. notice-settled key changes n elsewhere none here) in
          ap (λ (i : IntervalRecord). record (stored_with key changes stored)
          { notices = map (notice_over other (stored_with key changes stored).node (index_of i)) (stored_with key changes stored).notices })
          (interval_of-stored_with key changes stored)
          ∙ ap (λ (s : StoredRecord). record s { notices = map (notice_over other s.node index) s.notices }) shown
          ∙ ap (λ (n : ℕ). record stored { notices = map (notice_over other n index) (map (notice_with key.page changes) stored.notices) }) node
          ∙ ap (λ (i : ℕ). record stored { notices = map (notice_over other key.node i) (map (notice_with key.page changes) stored.notices) }) is
          ∙ ap (λ (notices : List NoticeRecord). record stored { notices = notices }) made
          ∙ ap (λ (i : ℕ). record stored { notices = map (notice_over o key.node i) stored.notices }) (sym is)
          ∙ ap (λ (n : ℕ). record stored { notices = map (notice_over o n index) stored.notices }) (sym node)
      by_test false apart =
          let index = index_of (interval_of stored) in
          let shown : stored_with key changes stored ≡ stored =
          ap (λ b. cond b (record stored { notices = map (notice_with key.page changes) stored.notices }) stored) apart in
          ap (stored_over other) shown
          ∙ ap (λ (notices : List NoticeRecord). record stored { notices = notices })
          (map-alike (notice_over other stored.node index) (notice_over o stored.node index) stored.notices
          (λ n.
          ap (λ (found : Option (List Change)). record n { changes = option_or found n.changes })
          (elsewhere (record { node = stored.node; index = index; page = n.page })
          (λ same.
          let node : stored.node ≡ key.node = ap (λ (k : Key). k.node) same in
          let is : index ≡ key.index = ap (λ (k : Key). k.index) same in
          true≢false (sym (and_from _ _ (eq-eqb _ _ node) (eq-eqb _ _ is)) ∙ apart)))))

  -- changes that are made are seen as before
  pub over-settled : (store : StoreRecord) (key : Key) (changes : List Change) → ((k : Key) → k ≢ key → other k ≡ o k)
      → other key ≡ None → o key ≡ Some changes → store_over other (attached store key changes) ≡ store_over o store
  over-settled store key changes elsewhere none here =
      ap (λ (entries : List StoredRecord). record store { entries = entries })
      (map-both (stored_with key changes) (stored_over other) store.entries
      ∙ map-alike (λ stored. stored_over other (stored_with key changes stored)) (stored_over o) store.entries
      (λ stored. stored-settled key changes stored elsewhere none here))

-- ---- attaching, adding, discarding

module _ (o : Key → Option (List Change)) where
  notice-attached : (key : Key) (changes : List Change) (notice : NoticeRecord) → o key ≡ None
      → notice_over o key.node key.index (notice_with key.page changes notice)
      ≡ notice_with key.page changes (notice_over o key.node key.index notice)
  notice-attached key changes notice none = by_test (eqb notice.page key.page) refl
    where
      by_test : (b : Bool) → eqb notice.page key.page ≡ b
          → notice_over o key.node key.index (notice_with key.page changes notice)
          ≡ notice_with key.page changes (notice_over o key.node key.index notice)
      by_test true same =
          ap (notice_over o key.node key.index) (notice_with-same key.page changes notice same)
          ∙ ap (λ found. record { page = key.page; changes = option_or found (Some changes) }) none
          ∙ sym (notice_with-same key.page changes (notice_over o key.node key.index notice) same)
      by_test false apart =
          ap (notice_over o key.node key.index) (notice_with-other key.page changes notice apart)
          ∙ sym (notice_with-other key.page changes (notice_over o key.node key.index notice) apart)

  stored-attached : (key : Key) (changes : List Change) (stored : StoredRecord) → o key ≡ None
      → stored_over o (stored_with key changes stored) ≡ stored_with key changes (stored_over o stored)
  stored-attached key changes stored none = by_test (is_at key.node key.index stored) refl
    where
      by_test : (b : Bool) → is_at key.node key.index stored ≡ b
          → stored_over o (stored_with key changes stored) ≡ stored_with key changes (stored_over o stored)
      by_test true at =
          let index = index_of (interval_of stored) in
          let parts = and_parts (eqb stored.node key.node) _ at in
          let node : stored.node ≡ key.node = eqb-true _ _ parts.0 in
          let is : index ≡ key.index = eqb-true _ _ parts.1 in
          let over = stored_over o stored in
          let shown : stored_with key changes stored ≡ record stored { notices = map (notice_with key.page changes) stored.notices } =
          ap (λ b. cond b (record stored { notices = map (notice_with key.page changes) stored.notices }) stored) at in
          let seen : stored_with key changes over ≡ record over { notices = map (notice_with key.page changes) over.notices } =
          ap (λ b. cond b (record over { notices = map (notice_with key.page changes) over.notices }) over) (is_at-over o key.node key.index stored ∙ at) in
          let made : map (notice_over o key.node key.index) (map (notice_with key.page changes) stored.notices)
          ≡ map (notice_with key.page changes) (map (notice_over o key.node key.index) stored.notices) =
          map-both (notice_with key.page changes) (notice_over o key.node key.index) stored.notices
          ∙ map-alike (λ n. notice_over o key.node key.index (notice_with key.page changes n))
          (λ n. notice_with key.page changes (notice_over o key.node key.index n)) stored.notices
          (λ n. notice-attached key changes n none)
          ∙ sym (map-both (notice_over o key.node key.index) (notice_with key.page changes) stored.notices) in
          ap (λ (i : IntervalRecord). record (stored_with key changes stored)
          { notices = map (notice_over o (stored_with key changes stored).node (index_of i)) (stored_with key changes stored).notices })
          (interval_of-stored_with key changes stored)
          ∙ ap (λ (s : StoredRecord). record s { notices = map (notice_over o s.node index) s.notices }) shown
          ∙ ap (λ (n : ℕ). record stored { notices = map (notice_over o n index) (map (notice_with key.page changes) stored.notices) }) node
          ∙ ap (λ (i : ℕ). record stored { notices = map (notice_over o key.node i) (map (notice_with key.page changes) stored.notices) }) is
          ∙ ap (λ (notices : List NoticeRecord). record stored { notices = notices }) made
          ∙ ap (λ (i : ℕ). record stored { notices = map (notice_with key.page changes) (map (notice_over o key.node i) stored.notices) }) (sym is)
          ∙ ap (λ (n : ℕ). record stored { notices = map (notice_with key.page changes) (map (notice_over o n index) stored.notices) }) (sym node)
          ∙ sym seen
      by_test false apart =
          let over = stored_over o stored in
          ap (λ b. stored_over o (cond b (record stored { notices = map (notice_with key.page changes) stored.notices }) stored)) apart
          ∙ sym (ap (λ b. cond b (record over { notices = map (notice_with key.page changes) over.notices }) over)
          (is_at-over o key.node key.index stored ∙ apart))

  -- changes of a key that has none from elsewhere
  pub over-attached : (store : StoreRecord) (key : Key) (changes : List Change) → o key ≡ None
      → store_over o (attached store key changes) ≡ attached (store_over o store) key changes
  over-attached store key changes none =
      ap (λ (entries : List StoredRecord). record store { entries = entries })
      (map-both (stored_with key changes) (stored_over o) store.entries
      ∙ map-alike (λ stored. stored_over o (stored_with key changes stored)) (λ stored. stored_with key changes (stored_over o stored)) store.entries
      (λ stored. stored-attached key changes stored none)
      ∙ sym (map-both (stored_over o) (stored_with key changes) store.entries))

  -- an interval with notices without changes
  unread-over : (node index : ℕ) (pages : List ℕ) (f : ℕ → Option (List Change))
      → ((page : ℕ) → o (record { node = node; index = index; page = page }) ≡ f page)
      → map (notice_over o node index) (map unread pages) ≡ map (λ page. record { page = page; changes = option_or (f page) None }) pages
  unread-over node index pages f is =
      map-both unread (notice_over o node index) pages
      ∙ map-alike (λ page. notice_over o node index (unread page)) (λ page. record { page = page; changes = option_or (f page) None }) pages
      (λ page. ap (λ found. record { page = page; changes = option_or found None }) (is page))

  pub stored-over_new : (interval : IntervalRecord) (f : ℕ → Option (List Change))
      → ((page : ℕ) → o (record { node = interval.node; index = index_of interval; page = page }) ≡ f page)
      → stored_over o (without_changes interval)
      ≡ record {
        node = interval.node;
        stamp = interval.stamp;
        notices =
            map (λ page. record { page = page; changes = option_or (f page) None }) interval.pages;
      }
  stored-over_new interval f is =
      ap (λ (i : IntervalRecord). record (without_changes interval)
      { notices = map (notice_over o interval.node (index_of i)) (without_changes interval).notices })
      (interval_of-without_changes interval)
      ∙ ap (λ (notices : List NoticeRecord). record (without_changes interval) { notices = notices })
      (unread-over interval.node (index_of interval) interval.pages f is)

  pub over-added : (store : StoreRecord) (interval : IntervalRecord)
      → ((page : ℕ) → o (record { node = interval.node; index = index_of interval; page = page }) ≡ None)
      → store_over o (added store interval) ≡ added (store_over o store) interval
  over-added store interval none =
      ap (λ (entries : List StoredRecord). record (added store interval) { entries = entries })
      (map-append (stored_over o) store.entries (without_changes interval ∷ [])
      ∙ ap (λ (s : StoredRecord). map (stored_over o) store.entries ++ s ∷ []) (stored-over_new interval (λ page. None) none))

  filter-over : (test : IntervalRecord → Bool) (entries : List StoredRecord)
      → filter (λ s. test (interval_of s)) (map (stored_over o) entries) ≡ map (stored_over o) (filter (λ s. test (interval_of s)) entries)
  filter-over test [] = refl
  filter-over test (e ∷ es) =
      ap (λ (i : IntervalRecord). cond (test i) (stored_over o e ∷ filter (λ s. test (interval_of s)) (map (stored_over o) es))
      (filter (λ s. test (interval_of s)) (map (stored_over o) es)))
      (interval-over o e)
      ∙ ap (λ rest. cond (test (interval_of e)) (stored_over o e ∷ rest) rest) (filter-over test es)
      ∙ either (test (interval_of e))
    where
      either : (b : Bool)
          → cond b (stored_over o e ∷ map (stored_over o) (filter (λ s. test (interval_of s)) es)) (map (stored_over o) (filter (λ s. test (interval_of s)) es))
          ≡ map (stored_over o) (cond b (e ∷ filter (λ s. test (interval_of s)) es) (filter (λ s. test (interval_of s)) es))
      either true = refl
      either false = refl

  pub over-discarded : (store : StoreRecord) (time : List ℕ) → store_over o (discarded store time) ≡ discarded (store_over o store) time
  over-discarded store time =
      ap (λ (entries : List StoredRecord). record store { entries = entries }) (sym (filter-over (λ i. not (is_covered time i)) store.entries))
