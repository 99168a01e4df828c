-- News that a node can learn: a time that covers only what was closed, and the closed intervals between the node's time and that one.
use Rattle.std.proofs.Common.{◌≡◌, ℕ, zero, ◌+◌, ◌-◌, ◌<◌, ◌≤◌, List, [], ◌∷◌, ◌++◌, Bool, true, false, length}
use Rattle.std.proofs.Common.{map, refl, sym, ap, subst, ◌∙◌, ⊎_elim, arith, append-nil}
use Rattle.std.specs.Prelude.{Some, All, Contains, slice_get, ◌==◌, if◌then◌else◌}
use Rattle.std.specs.List.{list_all, range_with_len}
use lib.Pointwise.{pointwise}
use Rattle.std.proofs.lemmas.Bool.{and_from, eq-eqb, lt-ltb, le-leb, cases_lt}
use Rattle.std.proofs.lemmas.List.Elements.{All-contains, Contains-push_cases}
use Rattle.lrc_program.specs.declared.Program.{Program}
use Rattle.lrc_exec.specs.Meaning.{Setting}
use Rattle.lrc_exec.specs.Plain.{setting_of}
use Rattle.lrc_time.specs.Time.{entry, Covers, covers}
use Rattle.lrc_time.proofs.Times.{covers-holds}
use Rattle.lrc_page.specs.Place.{pages_of}
use Rattle.lrc_store.specs.Interval.{IntervalRecord, index_of as interval_index}
use Rattle.lrc_store.specs.Store.{StoredRecord, interval_of}
use Rattle.lrc_copies.specs.Stamps.{stamp_index}
use Rattle.lrc_copies.proofs.Members.{Contains-first, Contains-later, none_Contains}
use Rattle.lrc_copies.proofs.Stamping.{le-covered}
use Rattle.lrc_protocol.specs.Times.{indices_by, are_between}
use Rattle.lrc_protocol.specs.Node.{OptionsRecord}
use Rattle.lrc_protocol.specs.Turn.{is_page, is_interval, is_news_in_range, is_learnable}
use Rattle.lrc_protocol.specs.Run.{Logged, World}
use Rattle.lrc_protocol.specs.Follows.{turns_of}
use Rattle.lrc_order_laws.proofs.Shape.{NodeShape, shape_at}
use Rattle.lrc_order_laws.proofs.Reached.{IsReached}
use Rattle.lrc_node_laws.proofs.Ranges.{pages-closed}
use Rattle.lrc_node_laws.proofs.Always.{ranged_at}
use Rattle.lrc_reading_laws.specs.Made.{AllMade}
use Rattle.lrc_reading_laws.specs.Written.{made_stamps}
use Rattle.lrc_reading_laws.proofs.Closed.Stored.{Member, made_at, index_in, from_range}
use Rattle.lrc_reading_laws.proofs.Closed.History.{History, KeptByHistory, by_history, reached_by, closed_record}
use Rattle.lrc_reading_laws.proofs.Stamped.Lists.{HasRecord, interval-from, closed-interval}
use Rattle.lrc_reading_laws.proofs.Stamped.Worlds.{Placed, placed}
use Rattle.lrc_reading_laws.proofs.Stamped.Made.{AreListed, all_made, all_listed}
use Rattle.lrc_reading_laws.proofs.Stamped.Cuts.{IsFull, Counted}
use Rattle.lrc_reading_laws.proofs.Stamped.Times.{AreCuts, all_cuts}

-- ---- tests

pub each_from : {X : Type 0} (p : X → Bool) (xs : List X) → ((x : X) → Contains xs x → p x ≡ true) → list_all p xs ≡ true
each_from p [] h = refl
each_from p (x ∷ xs) h = and_from (p x) (list_all p xs) (h x (Contains-first x xs)) (each_from p xs (λ y c. h y (Contains-later x xs y c)))

pub numbers_same : (xs : List ℕ) → pointwise ◌==◌ xs xs ≡ true
numbers_same [] = refl
numbers_same (x ∷ xs) = and_from (x == x) (pointwise ◌==◌ xs xs) (eq-eqb x x refl) (numbers_same xs)

-- a time that covers only what was closed has no more of a node than that
pub full-most : (made : List StoredRecord) (time : List ℕ) (q n : ℕ) → IsFull made time → Counted made q n → entry time q ≤ n
full-most made time q n full counted =
    ⊎_elim
    (λ (more : n < entry time q).
    let m : Member q (n + 1) (map interval_of made) = full.reach q (n + 1) (omega arith) (omega (arith, more)) in
    let between : (1 ≤ interval_index m.i) × (interval_index m.i < 1 + n) =
    from_range 1 n (interval_index m.i)
    (subst (λ ks. Contains ks (interval_index m.i)) counted (index_in q (map interval_of made) m.i m.in_list m.node_is)) in
    let last : interval_index m.i < 1 + n = between.1 in
    let is : interval_index m.i ≡ n + 1 = m.index_is in
    absurd (omega (arith, last, is)))
    (λ (le : entry time q ≤ n). le)
    (cases_lt n (entry time q))

module _ (program : Program) (nodes : ℕ) (options : OptionsRecord) where
  -- ---- the pages that are named

  abbrev pages : ℕ
  pages = pages_of program.words options.size

  abbrev HasPages : StoredRecord → Type 0
  HasPages x = All (λ page. page < pages) (interval_of x).pages

  pages_at : (world : World) → IsReached program nodes options world → (n : ℕ) (l : Logged) → slice_get world.nodes n ≡ Some l
      → pages_of l.node.setting.words l.node.options.size ≡ pages
  pages_at world r n l at =
      let shape : NodeShape (setting_of program nodes n) options (record { node = l.node; turns = turns_of l.log }) =
      shape_at program nodes options r.events world n l r.runs at in
      ap (λ (s : Setting). pages_of s.words l.node.options.size) shape.setting ∙ ap (λ (o : OptionsRecord). pages_of program.words o.size) shape.options

  closed-pages : (world : World) → IsReached program nodes options world → (n : ℕ) (l : Logged) → slice_get world.nodes n ≡ Some l
      → HasPages (closed_record l.node)
  closed-pages world r n l at =
      let p : Placed nodes n l.node = placed program nodes options world r n l at in
      subst (λ (i : IntervalRecord). All (λ page. page < pages) i.pages) (sym (closed-interval l.node))
      (pages-closed l.node.memory pages ((ranged_at l.node p.reached).memory.copies ∙ pages_at world r n l at))

  abbrev AllPaged : List StoredRecord → Type 0
  AllPaged made = (x : StoredRecord) → Contains made x → HasPages x

  paged-history : KeptByHistory program nodes options (λ world made. AllPaged made)
  paged-history world made flight n l after input log_entry at come i r r' h paged =
      by_test (entry after.node.locks.time l.node.setting.me == entry l.node.locks.time l.node.setting.me)
    where
      by_test : (b : Bool) → AllPaged (made ++ (if b then [] else closed_record l.node ∷ []))
      by_test true x c = paged x (subst (λ all. Contains all x) (append-nil made) c)
      by_test false x c =
          ⊎_elim
          (λ (old : Contains made x). paged x old)
          (λ (new : closed_record l.node ≡ x). subst HasPages new (closed-pages world r n l at))
          (Contains-push_cases made (closed_record l.node) x c)

  all_paged : (world : World) (made : List StoredRecord) → History program nodes options world made → AllPaged made
  all_paged world made h =
      by_history program nodes options (λ world made. AllPaged made) (λ x c. absurd (none_Contains x c)) paged-history world made h

  -- ---- news

  module _ (world : World) (made : List StoredRecord) (h : History program nodes options world made) (n : ℕ) (l : Logged)
      (at : slice_get world.nodes n ≡ Some l) where
    p : Placed nodes n l.node
    p = placed program nodes options world (reached_by program nodes options world made h) n l at

    -- each that was made is one that the node can take
    in-ranges : (i : IntervalRecord) → Contains (map interval_of made) i → is_interval l.node i ≡ true
    in-ranges i c =
        let r : HasRecord made i = interval-from made i c in
        let listed : AreListed nodes made = all_listed program nodes options world made h in
        let cuts : AreCuts nodes made world = all_cuts program nodes options world made h in
        let count : l.node.setting.nodes ≡ nodes = p.count in
        let named : HasPages r.x = all_paged world made h r.x r.in_list in
        subst (λ i. is_interval l.node i ≡ true) r.is
        (and_from _ _
        (and_from _ _ (lt-ltb r.x.node l.node.setting.nodes (subst (λ k. r.x.node < k) (sym count) (listed.among r.x r.in_list)))
        (eq-eqb (length r.x.stamp) l.node.setting.nodes (cuts.stamped.long r.x r.in_list ∙ sym count)))
        (each_from (is_page l.node) (interval_of r.x).pages
        (λ page in_pages.
        lt-ltb page (pages_of l.node.setting.words l.node.options.size)
        (subst (λ k. page < k) (sym (pages_at world (reached_by program nodes options world made h) n l at))
        (All-contains (λ page. page < pages) (interval_of r.x).pages page named in_pages)))))

    pub news_from : (time : List ℕ) (intervals : List IntervalRecord) → length time ≡ nodes → IsFull made time
        → AllMade (map interval_of made) intervals → ((i : IntervalRecord) → Contains intervals i → interval_index i ≤ entry time i.node)
        → is_news_in_range l.node time intervals ≡ true
    news_from time intervals long full told upto =
        and_from _ _
        (and_from _ _ (eq-eqb (length time) l.node.setting.nodes (long ∙ sym p.count))
        (each_from (is_interval l.node) intervals (λ i c. in-ranges i (made_at (map interval_of made) intervals i told c))))
        (each_from (λ (i : IntervalRecord). covers time i.stamp) intervals
        (λ i c.
        let r : HasRecord made i = interval-from made i (made_at (map interval_of made) intervals i told c) in
        let node_is : r.x.node ≡ i.node = ap (λ (i : IntervalRecord). i.node) r.is in
        let index_is : stamp_index made_stamps r.x ≡ interval_index i = ap interval_index r.is in
        let known : interval_index i ≤ entry time i.node = upto i c in
        let at_node : entry time r.x.node ≡ entry time i.node = ap (entry time) node_is in
        let covered : Covers time r.x.stamp =
        full.cut r.x r.in_list (le-covered made_stamps time r.x (omega (arith, index_is, known, at_node))) in
        covers-holds time i.stamp (subst (λ (i : IntervalRecord). Covers time i.stamp) r.is covered)))

    -- a node can learn a time that covers only what was closed, with just the intervals between its own time and that one
    pub learnable_from : (time : List ℕ) (intervals : List IntervalRecord) → length time ≡ nodes → IsFull made time
        → AllMade (map interval_of made) intervals
        → ((q : ℕ) → q < nodes → indices_by intervals q ≡ range_with_len (entry l.node.locks.time q + 1) (entry time q - entry l.node.locks.time q))
        → is_learnable l.node time intervals ≡ true
    learnable_from time intervals long full told between =
        and_from _ _
        (and_from _ _ (news_from time intervals long full told upto)
        (each_from (λ q. are_between intervals q (entry l.node.locks.time q) (entry time q)) (range_with_len 0 l.node.setting.nodes)
        (λ q c.
        let within : (zero ≤ q) × (q < zero + l.node.setting.nodes) = from_range 0 l.node.setting.nodes q c in
        let below : q < 0 + l.node.setting.nodes = within.1 in
        let lt : q < nodes = subst (λ k. q < k) p.count (omega (arith, below)) in
        ap (λ ks. pointwise ◌==◌ ks (range_with_len (entry l.node.locks.time q + 1) (entry time q - entry l.node.locks.time q))) (between q lt)
        ∙ numbers_same (range_with_len (entry l.node.locks.time q + 1) (entry time q - entry l.node.locks.time q)))))
        (le-leb (entry time l.node.setting.me) (entry l.node.locks.time l.node.setting.me)
        (subst (λ k. entry time k ≤ entry l.node.locks.time k) (sym p.me)
        (full-most made time n (entry l.node.locks.time n) full ((all_made program nodes options world made h).exact n l at))))
      where
        upto : (i : IntervalRecord) → Contains intervals i → interval_index i ≤ entry time i.node
        upto i c =
            let r : HasRecord made i = interval-from made i (made_at (map interval_of made) intervals i told c) in
            let lt : i.node < nodes =
            subst (λ (i : IntervalRecord). i.node < nodes) r.is ((all_listed program nodes options world made h).among r.x r.in_list) in
            let q : ℕ = i.node in
            let there : Contains (range_with_len (entry l.node.locks.time q + 1) (entry time q - entry l.node.locks.time q)) (interval_index i) =
            subst (λ ks. Contains ks (interval_index i)) (between q lt) (index_in q intervals i c refl) in
            let within : _ =
            from_range (entry l.node.locks.time q + 1) (entry time q - entry l.node.locks.time q) (interval_index i) there in
            let low : entry l.node.locks.time q + 1 ≤ interval_index i = within.0 in
            let high : interval_index i < entry l.node.locks.time q + 1 + (entry time q - entry l.node.locks.time q) = within.1 in
            omega (arith, low, high)
