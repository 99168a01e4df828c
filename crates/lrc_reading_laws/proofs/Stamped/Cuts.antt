-- Times that are cuts of what was closed: one that a node goes on to by closing an interval, or by learning news, is one again.
use Rattle.std.proofs.Common.{◌≡◌, ℕ, ◌+◌, ◌-◌, ◌<◌, ◌≤◌, max, List, [], ◌∷◌, ◌++◌, Bool, true, false, length}
use Rattle.std.proofs.Common.{map, refl, sym, ap, subst, ◌∙◌, ⊎_elim, arith, append-nil}
use Rattle.std.specs.Prelude.{IsTrue, ◌==◌, All, Contains, if◌then◌else◌}
use Rattle.std.specs.List.{range_with_len}
use Rattle.std.proofs.lemmas.Bool.{cases_eq, cases_lt, ne_eqb}
use Rattle.std.proofs.lemmas.List.{get_or_past, map-append}
use Rattle.std.proofs.lemmas.List.Elements.{All-contains, Contains-append_left, Contains-push, Contains-push_cases}
use Rattle.lrc_time.specs.Time.{entry, zeros, joined, Covers}
use Rattle.lrc_time.proofs.Times.{covers-trans, covers-joined_first, covers-joined_second, entry-zeros, entry-joined, entry-set_other}
use Rattle.lrc_store.specs.Interval.{IntervalRecord, index_of as interval_index}
use Rattle.lrc_store.specs.Store.{StoredRecord, interval_of}
use Rattle.lrc_copies.specs.Stamps.{stamp_index, stamps_covered, IsCut, AreStamped, IsClosedAt}
use Rattle.lrc_copies.proofs.Members.{none_Contains}
use Rattle.lrc_copies.proofs.Stamping.{covered-le, le-covered, cut_longer, stamped_longer}
use Rattle.lrc_protocol.specs.Times.{indices_by, next_time}
use Rattle.lrc_protocol.specs.Node.{Node}
use Rattle.lrc_reading_laws.specs.Made.{AllMade}
use Rattle.lrc_reading_laws.specs.Written.{made_stamps}
use Rattle.lrc_reading_laws.proofs.Closed.History.{closed_record}
use Rattle.lrc_reading_laws.proofs.Closed.Stored.{Member, made_at, index_in, in_index, from_range, in_range}
use Rattle.lrc_reading_laws.proofs.Stamped.Lists.{HasRecord, interval-in, interval-from, own_between, found_once}
use Rattle.lrc_reading_laws.proofs.Stamped.Worlds.{Placed}
use Rattle.lrc_reading_laws.proofs.Stamped.Made.{AreListed, closed-index}

-- the time is a cut, and covers only what was closed
pub record IsFull (made : List StoredRecord) (time : List ℕ) : Type 0 where
  pub cut : IsCut made_stamps made time
  pub reach : (q k : ℕ) → 1 ≤ k → k ≤ entry time q → Member q k (map interval_of made)

-- of this node exactly so many were closed
abbrev pub Counted : List StoredRecord → ℕ → ℕ → Type 0
Counted made q n = indices_by (map interval_of made) q ≡ range_with_len 1 n

pub zeros-full : (nodes : ℕ) → IsFull [] (zeros nodes)
zeros-full nodes = record {
  cut = λ a c. absurd (none_Contains a c);
  reach = λ q k least most. let none : entry (zeros nodes) q ≡ 0 = entry-zeros nodes q in absurd (omega (arith, least, most, none));
}

member-more : (made : List StoredRecord) (new : List StoredRecord) (q k : ℕ) → Member q k (map interval_of made) → Member q k (map interval_of (made ++ new))
member-more made new q k m = record {
  i = m.i;
  in_list = subst (λ all. Contains all m.i) (sym (map-append interval_of made new)) (Contains-append_left (map interval_of made)
      (map interval_of new) m.i m.in_list);
  node_is = m.node_is;
  index_is = m.index_is;
}

-- no such time covers an interval that is not closed yet
pub unknown_by : (made : List StoredRecord) (time : List ℕ) (n : ℕ) (x : StoredRecord) → IsFull made time → Counted made x.node n
    → stamp_index made_stamps x ≡ n + 1 → IsTrue (stamps_covered made_stamps time x) → ⊥
unknown_by made time n x full counted e covered =
    let most : stamp_index made_stamps x ≤ entry time x.node = covered-le made_stamps time x covered in
    let m : Member x.node (n + 1) (map interval_of made) = full.reach x.node (n + 1) (omega arith) (omega (arith, most, e)) in
    let between : (1 ≤ interval_index m.i) × (interval_index m.i < 1 + n) =
    from_range 1 n (interval_index m.i)
    (subst (λ ks. Contains ks (interval_index m.i)) counted (index_in x.node (map interval_of made) m.i m.in_list m.node_is)) in
    let last : interval_index m.i < 1 + n = between.1 in
    let is : interval_index m.i ≡ n + 1 = m.index_is in
    omega (arith, last, is)

-- so it stays one when that interval is closed
full_longer : (made : List StoredRecord) (time : List ℕ) (n : ℕ) (x : StoredRecord) → IsFull made time → Counted made x.node n
    → stamp_index made_stamps x ≡ n + 1 → IsFull (made ++ x ∷ []) time
full_longer made time n x full counted e = record {
  cut = cut_longer made_stamps made time x full.cut (unknown_by made time n x full counted e);
  reach = λ q k least most. member-more made (x ∷ []) q k (full.reach q k least most);
}

-- ---- news

-- news as a node with this time takes them: so many entries; they cover the stamps; and for each node the intervals are those
-- above the node's time
pub record IsTold (nodes : ℕ) (made : List StoredRecord) (before time : List ℕ) (intervals : List IntervalRecord) : Type 0 where
  pub long : length time ≡ nodes
  pub covered : All (λ (i : IntervalRecord). Covers time i.stamp) intervals
  pub between : (q : ℕ) → q < nodes → indices_by intervals q ≡ range_with_len (entry before q + 1) (entry time q - entry before q)
  pub told : AllMade (map interval_of made) intervals

module _ (nodes : ℕ) (made : List StoredRecord) (before time : List ℕ) (intervals : List IntervalRecord) (listed : AreListed nodes made)
    (full : IsFull made before) (t : IsTold nodes made before time intervals) where
  -- what is between the times is told
  told_between : (q k : ℕ) → q < nodes → entry before q < k → k ≤ entry time q → Member q k intervals
  told_between q k lt above most =
      in_index q k intervals
      (subst (λ ks. Contains ks k) (sym (t.between q lt))
      (in_range (entry before q + 1) (entry time q - entry before q) k (omega (arith, above)) (omega (arith, above, most))))

  stamp-covered : (a : StoredRecord) → Contains made a → entry before a.node < stamp_index made_stamps a → stamp_index made_stamps a ≤ entry time a.node
      → Covers time a.stamp
  stamp-covered a c above most =
      let m : Member a.node (stamp_index made_stamps a) intervals = told_between a.node (stamp_index made_stamps a) (listed.among a c) above most in
      let r : HasRecord made m.i = interval-from made m.i (made_at (map interval_of made) intervals m.i t.told m.in_list) in
      let node_is : r.x.node ≡ a.node = ap (λ (i : IntervalRecord). i.node) r.is ∙ m.node_is in
      let index_is : stamp_index made_stamps r.x ≡ stamp_index made_stamps a = ap interval_index r.is ∙ m.index_is in
      let same : r.x ≡ a = found_once made r.x a listed.found r.in_list c node_is index_is in
      let stamp_is : m.i.stamp ≡ a.stamp = ap (λ (i : IntervalRecord). i.stamp) (sym r.is) ∙ ap (λ (x : StoredRecord). x.stamp) same in
      subst (Covers time) stamp_is (All-contains (λ (i : IntervalRecord). Covers time i.stamp) intervals m.i t.covered m.in_list)

  pub full_learned : IsFull made (joined before time)
  full_learned = record {
    cut = λ a c covered.
        let most : stamp_index made_stamps a ≤ entry (joined before time) a.node = covered-le made_stamps (joined before time) a covered in
        let join : entry (joined before time) a.node ≡ max (entry before a.node) (entry time a.node) = entry-joined before time a.node in
        ⊎_elim
        (λ (above : entry before a.node < stamp_index made_stamps a).
        covers-trans (joined before time) time a.stamp (covers-joined_second before time)
        (stamp-covered a c above (omega (arith, above, most, join))))
        (λ (le : stamp_index made_stamps a ≤ entry before a.node).
        covers-trans (joined before time) before a.stamp (covers-joined_first before time) (full.cut a c (le-covered made_stamps before a le)))
        (cases_lt (entry before a.node) (stamp_index made_stamps a));
    reach = λ q k least most.
        let join : entry (joined before time) q ≡ max (entry before q) (entry time q) = entry-joined before time q in
        ⊎_elim
        (λ (above : entry before q < k).
        let upto : k ≤ entry time q = omega (arith, above, most, join) in
        let m : Member q k intervals = told_between q k (is_node q k least upto) above upto in
        record { i = m.i; in_list = made_at (map interval_of made) intervals m.i t.told m.in_list; node_is = m.node_is; index_is = m.index_is })
        (λ (le : k ≤ entry before q). full.reach q k least le)
        (cases_lt (entry before q) k);
  }
    where
      is_node : (q k : ℕ) → 1 ≤ k → k ≤ entry time q → q < nodes
      is_node q k least upto =
          ⊎_elim
          (λ (lt : q < nodes). lt)
          (λ (le : nodes ≤ q).
          let none : entry time q ≡ 0 = get_or_past time q 0 (omega (arith, t.long, le)) in
          absurd (omega (arith, none, least, upto)))
          (cases_lt q nodes)

-- ---- closing

module _ (nodes n : ℕ) (node : Node) (made : List StoredRecord) (p : Placed nodes n node) (listed : AreListed nodes made)
    (counted : Counted made node.setting.me (entry node.locks.time node.setting.me)) where
  abbrev me : ℕ
  me = node.setting.me

  abbrev time : List ℕ
  time = node.locks.time

  abbrev new : StoredRecord
  new = closed_record node

  -- what a node makes of the list in a turn after which it has this time
  abbrev pub made_with : List ℕ → List StoredRecord
  made_with after = made ++ (if entry after me == entry time me then [] else new ∷ [])

  index_is : stamp_index made_stamps new ≡ entry time me + 1
  index_is = closed-index nodes n node p

  pub full_still : (after t : List ℕ) → IsFull made t → IsFull (made_with after) t
  full_still after t full = by_test (entry after me == entry time me)
    where
      by_test : (b : Bool) → IsFull (made ++ (if b then [] else new ∷ [])) t
      by_test true = subst (λ all. IsFull all t) (sym (append-nil made)) full
      by_test false = full_longer made t (entry time me) new full counted index_is

  module _ (full : IsFull made time) (stamped : AreStamped made_stamps nodes made) (stamps : (a : StoredRecord) → Contains made a → IsFull made a.stamp) where
    closed_at : IsClosedAt made_stamps nodes made time new
    closed_at = record {
      long = p.long;
      counted = subst (λ k. k < nodes) (sym p.me) p.within;
      cut = full.cut;
      stamped = refl;
      own = λ a c e.
          le-covered made_stamps time a
          (subst (λ q. stamp_index made_stamps a ≤ entry time q) (sym e) (own_between made me (entry time me) a counted c e).1);
      unknown = λ a c. unknown_by made a.stamp (entry time me) new (stamps a c) counted index_is;
    }

    longer : AreStamped made_stamps nodes (made ++ new ∷ [])
    longer = stamped_longer made_stamps nodes made time new closed_at stamped

    -- the new interval's stamp
    stamp-full : IsFull (made ++ new ∷ []) (next_time me time)
    stamp-full = record {
      cut = longer.cuts new (Contains-push made new);
      reach = λ q k least most. ⊎_elim
          (λ (own : q ≡ me). ⊎_elim
          (λ (old : k < entry time me + 1).
          member-more made (new ∷ []) q k (full.reach q k least (subst (λ x. k ≤ entry time x) (sym own) (omega (arith, old)))))
          (λ (last : entry time me + 1 ≤ k).
          let upto : k ≤ stamp_index made_stamps new = subst (λ x. k ≤ entry (next_time me time) x) own most in
          record {
            i = interval_of new;
            in_list = interval-in (made ++ new ∷ []) new (Contains-push made new);
            node_is = sym own;
            index_is = omega (arith, last, upto, index_is);
          })
          (cases_lt k (entry time me + 1)))
          (λ (other : q ≡ me → ⊥).
          member-more made (new ∷ []) q k
          (full.reach q k least (subst (λ x. k ≤ x) (entry-set_other time me (entry time me + 1) q other) most)))
          (cases_eq q me);
    }

    pub full_closed : IsFull (made_with (next_time me time)) (next_time me time)
    full_closed =
        subst (λ b. IsFull (made ++ (if b then [] else new ∷ [])) (next_time me time)) (sym (ne_eqb (entry (next_time me time) me)
        (entry time me) grows)) stamp-full
      where
        grows : entry (next_time me time) me ≡ entry time me → ⊥
        grows e = omega (arith, e, index_is)

    pub stamped_still : (after : List ℕ) → AreStamped made_stamps nodes (made_with after)
    stamped_still after = by_test (entry after me == entry time me)
      where
        by_test : (b : Bool) → AreStamped made_stamps nodes (made ++ (if b then [] else new ∷ []))
        by_test true = subst (AreStamped made_stamps nodes) (sym (append-nil made)) stamped
        by_test false = longer

    pub stamps_still : (after : List ℕ) (a : StoredRecord) → Contains (made_with after) a → IsFull (made_with after) a.stamp
    stamps_still after = by_test (entry after me == entry time me)
      where
        by_test : (b : Bool) (a : StoredRecord) → Contains (made ++ (if b then [] else new ∷ [])) a → IsFull (made ++ (if b then [] else new ∷ [])) a.stamp
        by_test true a c =
            subst (λ all. IsFull all a.stamp) (sym (append-nil made)) (stamps a (subst (λ all. Contains all a) (append-nil made) c))
        by_test false a c =
            ⊎_elim
            (λ (old : Contains made a). full_longer made a.stamp (entry time me) new (stamps a old) counted index_is)
            (λ (last : new ≡ a). subst (λ (x : StoredRecord). IsFull (made ++ new ∷ []) x.stamp) last stamp-full)
            (Contains-push_cases made new a c)
