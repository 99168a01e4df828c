-- The acts fix the closed intervals: of any two lists that have what they made, each has the intervals of the other.
use Rattle.std.proofs.Common.{◌≡◌, ℕ, suc, ◌+◌, ◌<◌, ◌≤◌, List, [], ◌∷◌, Bool, true, false, cond, length, map, refl, sym, ap, subst, ◌∙◌, inl, inr, ⊎_elim, arith}
use Rattle.std.specs.Prelude.{Some, ◌==◌, ◌&&◌, filter, All, AllPairs, Contains, slice_get}
use Rattle.std.proofs.Math.Seq.{take-length}
use Rattle.std.proofs.lemmas.Bool.{cases_lt}
use Rattle.std.proofs.lemmas.List.{get_or_past}
use Rattle.std.proofs.lemmas.List.Elements.{All-contains, All-map}
use Rattle.std.proofs.lemmas.List.Recursion.{is_count_by}
use Rattle.lrc_program.specs.declared.Program.{Program}
use Rattle.lrc_trace.specs.declared.act.Act.{Act}
use Rattle.lrc_trace.specs.declared.act.Deed.{Deed}
use Rattle.lrc_trace.specs.Run.{Does, count_of}
use Rattle.lrc_trace.specs.Interval.{closes, interval_at}
use Rattle.lrc_trace.proofs.Intervals.{closed_between}
use Rattle.lrc_time.specs.Time.{entry}
use Rattle.lrc_clock.specs.Times.{stamp_at}
use Rattle.lrc_clock.specs.Cover.{ClosesAt}
use Rattle.lrc_exec.specs.Follows.{deeds_of}
use Rattle.lrc_store.specs.Interval.{IntervalRecord}
use Rattle.lrc_store.specs.Store.{StoredRecord, NoticeRecord, interval_of}
use Rattle.lrc_copies.specs.Stamps.{stamp_index}
use Rattle.lrc_copies.proofs.Members.{Contains-first, Contains-later, cases_Contains, none_Contains, AllPairs-rest}
use Rattle.lrc_protocol.specs.Node.{Wait, nothing, grant, departure, access, upkeep, discard, OptionsRecord}
use Rattle.lrc_protocol.specs.Run.{Logged, World}
use Rattle.lrc_protocol.proofs.Worlds.{run-whole}
use Rattle.lrc_order_laws.specs.Counts.{count, awaits_acquire}
use Rattle.lrc_order_laws.proofs.OwnEntry.{own_entry}
use Rattle.lrc_order_laws.proofs.Pending.{get_within}
use Rattle.lrc_order_laws.proofs.Reached.{IsReached}
use Rattle.lrc_reading_laws.specs.Known.{AreKnown}
use Rattle.lrc_reading_laws.specs.Written.{made_stamps, last_write, word_on}
use Rattle.lrc_reading_laws.specs.Acted.{WritesPage, AreOfActs}
use Rattle.lrc_reading_laws.proofs.Stamped.Lists.{interval-in}
use Rattle.lrc_reading_laws.proofs.Lazy.Made.{index_most, member_at}

-- ---- lists of pages

abbrev pages_in : List NoticeRecord → List ℕ
pages_in notices = map (λ (notice : NoticeRecord). notice.page) notices

abbrev AreRising : List NoticeRecord → Type 0
AreRising notices = AllPairs (λ (a b : NoticeRecord). a.page < b.page) notices

above_first : (x : NoticeRecord) (xs : List NoticeRecord) (page : ℕ) → AreRising (x ∷ xs) → Contains (pages_in xs) page → x.page < page
above_first x xs page rising c =
    let all : All (λ (b : NoticeRecord). x.page < b.page) xs = λ k d within. rising 0 (suc k) d (omega arith) (omega (arith, within)) in
    All-contains (λ p. x.page < p) (pages_in xs) page (All-map (λ p. x.page < p) (λ (notice : NoticeRecord). notice.page) xs all) c

-- the same first page, and the same others
module _ (x : NoticeRecord) (xs : List NoticeRecord) (y : NoticeRecord) (ys : List NoticeRecord) (rises : AreRising (x ∷ xs)) (rises' : AreRising (y ∷ ys))
    (into : (page : ℕ) → Contains (pages_in (x ∷ xs)) page → Contains (pages_in (y ∷ ys)) page)
    (from : (page : ℕ) → Contains (pages_in (y ∷ ys)) page → Contains (pages_in (x ∷ xs)) page) where
  first_same : x.page ≡ y.page
  first_same =
      ⊎_elim
      (λ (is : y.page ≡ x.page). sym is)
      (λ (later : Contains (pages_in ys) x.page).
      let under : y.page < x.page = above_first y ys x.page rises' later in
      ⊎_elim
      (λ (is : x.page ≡ y.page). is)
      (λ (later' : Contains (pages_in xs) y.page). let over : x.page < y.page = above_first x xs y.page rises later' in absurd (omega (arith, under, over)))
      (cases_Contains x.page (pages_in xs) y.page (from y.page (Contains-first y.page (pages_in ys)))))
      (cases_Contains y.page (pages_in ys) x.page (into x.page (Contains-first x.page (pages_in xs))))

  rest_into : (page : ℕ) → Contains (pages_in xs) page → Contains (pages_in ys) page
  rest_into page c =
      let over : x.page < page = above_first x xs page rises c in
      ⊎_elim
      (λ (is : y.page ≡ page). let same : _ = first_same in absurd (omega (arith, over, is, same)))
      (λ (later : Contains (pages_in ys) page). later)
      (cases_Contains y.page (pages_in ys) page (into page (Contains-later x.page (pages_in xs) page c)))

  rest_from : (page : ℕ) → Contains (pages_in ys) page → Contains (pages_in xs) page
  rest_from page c =
      let over : y.page < page = above_first y ys page rises' c in
      ⊎_elim
      (λ (is : x.page ≡ page). let same : _ = first_same in absurd (omega (arith, over, is, same)))
      (λ (later : Contains (pages_in xs) page). later)
      (cases_Contains x.page (pages_in xs) page (from page (Contains-later y.page (pages_in ys) page c)))

-- rising pages are the same where they have the same members
same_pages : (xs ys : List NoticeRecord) → AreRising xs → AreRising ys → ((page : ℕ) → Contains (pages_in xs) page → Contains (pages_in ys) page)
    → ((page : ℕ) → Contains (pages_in ys) page → Contains (pages_in xs) page) → pages_in xs ≡ pages_in ys
same_pages [] [] rises rises' into from = refl
same_pages [] (y ∷ ys) rises rises' into from = absurd (none_Contains y.page (from y.page (Contains-first y.page (pages_in ys))))
same_pages (x ∷ xs) [] rises rises' into from = absurd (none_Contains x.page (into x.page (Contains-first x.page (pages_in xs))))
same_pages (x ∷ xs) (y ∷ ys) rises rises' into from =
    let less : NoticeRecord → NoticeRecord → Type 0 = λ a b. a.page < b.page in
    let rest : pages_in xs ≡ pages_in ys =
    same_pages xs ys (AllPairs-rest less x xs rises) (AllPairs-rest less y ys rises') (rest_into x xs y ys rises rises' into from)
    (rest_from x xs y ys rises rises' into from) in
    ap (λ page. page ∷ pages_in xs) (first_same x xs y ys rises rises' into from) ∙ ap (λ pages. y.page ∷ pages) rest

-- ---- counts of closing acts

count_one : (a : Act) (deeds : List Deed) (b : Bool) → length (cond b (a.deed ∷ filter closes deeds) (filter closes deeds))
    ≡ cond b (1 + length (filter closes deeds)) (length (filter closes deeds))
count_one a deeds true = omega arith
count_one a deeds false = refl

count_next : (a : Act) (acts : List Act) (b : Bool)
    → count closes (map (λ (a : Act). a.deed) (cond b (a ∷ acts) acts))
    ≡ cond (b && closes a.deed) (1 + count closes (map (λ (a : Act). a.deed) acts)) (count closes (map (λ (a : Act). a.deed) acts))
count_next a acts true = count_one a (map (λ (a : Act). a.deed) acts) (closes a.deed)
count_next a acts false = refl

-- a node's closing deeds are its closing acts
counts_same : (n : ℕ) (acts : List Act) → count closes (deeds_of n acts) ≡ count_of closes n acts
counts_same n acts =
    is_count_by (λ acts. count closes (deeds_of n acts)) (λ (a : Act). (a.node == n) && closes a.deed) refl
    (λ a acts. count_next a (filter (λ (a : Act). a.node == n) acts) (a.node == n)) acts

awaits_few : (w : Wait) → awaits_acquire w ≤ 1
awaits_few nothing = omega arith
awaits_few (grant lock) = omega arith
awaits_few departure = omega arith
awaits_few (access need) = omega arith
awaits_few (upkeep collection needs) = omega arith
awaits_few (discard collection) = omega arith

-- ---- two lists

interval_with : ℕ → List ℕ → List ℕ → IntervalRecord
interval_with node stamp pages = record { node = node; stamp = stamp; pages = pages }

module _ (program : Program) (nodes : ℕ) (options : OptionsRecord) (world : World) (r : IsReached program nodes options world)
    (made other : List StoredRecord) (known : AreKnown nodes made world) (of : AreOfActs options.size nodes made world)
    (known' : AreKnown nodes other world) (of' : AreOfActs options.size nodes other world) (x : StoredRecord) (c : Contains made x) where
  abbrev q : ℕ
  q = x.node

  abbrev k : ℕ
  k = stamp_index made_stamps x

  least : 1 ≤ k
  least = known.stamped.begun x c

  among : q < nodes
  among = elim (cases_lt q (length x.stamp)) [
    | inl lt ↦ subst (λ m. q < m) (known.stamped.long x c) lt
    | inr past ↦ let none : entry x.stamp q ≡ 0 = get_or_past x.stamp q 0 past in let some : _ = least in absurd (omega (arith, none, some))
  ]

  its_node : (l : Logged) × (slice_get world.nodes q ≡ Some l)
  its_node =
      get_within world.nodes q (subst (λ m. q < m) (sym (run-whole program nodes options r.events world r.runs).count) among)

  most : k ≤ entry its_node.0.node.locks.time q
  most = index_most made world known.are x its_node.0 c its_node.1

  -- the one with the same node and index
  twin_of : (y : StoredRecord) × Contains other y × (y.node ≡ q) × (stamp_index made_stamps y ≡ k)
  twin_of = member_at other world known'.are q k its_node.0 its_node.1 least most

  -- the node is in no interval before those that it has closed
  reaches : k ≤ interval_at world.acts q (length world.acts)
  reaches =
      let own : _ = own_entry program nodes options r.events world r.runs q its_node.0 its_node.1 in
      let counted : _ = counts_same q world.acts in
      let all : interval_at world.acts q (length world.acts) ≡ 1 + count_of closes q world.acts =
      ap (λ acts. 1 + count_of closes q acts) (take-length world.acts) in
      let few : _ = awaits_few its_node.0.node.mail.wait in
      let upto : _ = most in
      omega (arith, own, counted, all, few, upto)

  stamp_same : (y : StoredRecord) → Contains other y → y.node ≡ q → stamp_index made_stamps y ≡ k → y.stamp ≡ x.stamp
  stamp_same y c' node_is index_is = elim (cases_lt k (interval_at world.acts q (length world.acts))) [
    | inl lt ↦
        let closed : (i : ℕ) × (0 ≤ i) × (i < length world.acts)
        × ((d : Deed) × Does world.acts i q d × (closes d ≡ true) × (interval_at world.acts q i ≡ k)) =
        closed_between world.acts q 0 (length world.acts) k (omega arith) (omega arith) least lt in
        let there : ClosesAt world.acts q k closed.0 =
        record { deed = closed.3.0; does = closed.3.1; closing = closed.3.2; interval = closed.3.3 } in
        of'.stamped y closed.0 c'
        (subst (λ n. ClosesAt world.acts n (stamp_index made_stamps y) closed.0) (sym node_is)
        (subst (λ index. ClosesAt world.acts q index closed.0) (sym index_is) there))
        ∙ ap (λ n. stamp_at nodes world.acts world.times n closed.0) node_is
        ∙ sym (of.stamped x closed.0 c there)
    | inr le ↦
        let up : _ = reaches in
        let here : interval_at world.acts q (length world.acts) ≡ k = omega (arith, le, up) in
        of'.waiting y c' (ap (λ n. interval_at world.acts n (length world.acts)) node_is ∙ here ∙ sym index_is)
        ∙ ap (λ n. stamp_at nodes world.acts world.times n (length world.acts)) node_is
        ∙ sym (of.waiting x c here)
  ]

  -- what is written in an interval goes by its node and index alone
  writes_same : (x y : StoredRecord) (page : ℕ) → x.node ≡ y.node → stamp_index made_stamps x ≡ stamp_index made_stamps y
      → WritesPage options.size world.acts page x → WritesPage options.size world.acts page y
  writes_same x y page node_is index_is w = record {
    offset = w.offset;
    value = w.value;
    within = w.within;
    wrote =
        ap (λ n. last_write world.acts n (stamp_index made_stamps y) (word_on options.size page w.offset)) (sym node_is)
        ∙ ap (λ index. last_write world.acts x.node index (word_on options.size page w.offset)) (sym index_is)
        ∙ w.wrote;
  }

  pages_same : (y : StoredRecord) → Contains other y → y.node ≡ q → stamp_index made_stamps y ≡ k → (interval_of y).pages ≡ (interval_of x).pages
  pages_same y c' node_is index_is =
      same_pages y.notices x.notices
      (All-contains (λ (x : StoredRecord). AreRising x.notices) other y known'.pages c')
      (All-contains (λ (x : StoredRecord). AreRising x.notices) made x known.pages c)
      (λ page there. (of.named x page c).1 (writes_same y x page node_is index_is ((of'.named y page c').0 there)))
      (λ page there. (of'.named y page c').1 (writes_same x y page (sym node_is) (sym index_is) ((of.named x page c).0 there)))

  pub fixed : Contains (map interval_of other) (interval_of x)
  unfolding interval_with
  fixed =
      let y : StoredRecord = twin_of.0 in
      let same : interval_of y ≡ interval_of x =
      ap (λ node. interval_with node y.stamp (interval_of y).pages) twin_of.2
      ∙ ap (λ stamp. interval_with q stamp (interval_of y).pages) (stamp_same y twin_of.1 twin_of.2 twin_of.3)
      ∙ ap (λ pages. interval_with q x.stamp pages) (pages_same y twin_of.1 twin_of.2 twin_of.3) in
      subst (Contains (map interval_of other)) same (interval-in other y twin_of.1)
