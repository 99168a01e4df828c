-- How many intervals a node stores: node by node the entries of its time less those of its collected time.
use Rattle.std.proofs.Common.{◌≡◌, ℕ, zero, suc, ◌+◌, ◌<◌, ◌≤◌, ◌&&◌, List, [], ◌∷◌, Bool, true, false, cond, length, map, inl, inr, refl, sym, ap, ◌∙◌, arith}
use Rattle.std.specs.Prelude.{Some, ◌==◌, ◌-◌, nat_le, All, filter}
use Rattle.std.proofs.lemmas.Bool.{cases_eq, cases_lt, eq-eqb, ne_eqb, leb-true, le-leb, false_from_ne_true}
use Rattle.std.proofs.lemmas.List.{length-map}
use Rattle.std.proofs.lemmas.List.Elements.{All-head, All-tail, All-weaker}
use Rattle.std.proofs.lemmas.List.FromFn.{length-range_with_len}
use Rattle.lrc_time.specs.Time.{entry, weight_of}
use Rattle.lrc_time.proofs.Times.{weight-first}
use Rattle.lrc_page.specs.Place.{pages_of}
use Rattle.lrc_store.specs.Interval.{IntervalRecord, index_of}
use Rattle.lrc_store.specs.Store.{interval_of, intervals_of}
use Rattle.lrc_protocol.specs.Times.{indices_by}
use Rattle.lrc_protocol.specs.Node.{Node}
use Rattle.lrc_protocol.specs.Turn.{asks_for_collection}
use Rattle.lrc_node_laws.specs.Ranges.{InRange}
use Rattle.lrc_node_laws.specs.Reached.{IsReached}
use Rattle.lrc_node_laws.specs.Stored.{StoresExactly}
use Rattle.lrc_node_laws.proofs.Always.{exact_at, ranged_at}
use Rattle.lrc_exact.specs.Rule.{State, asks}

-- ---- sums over nodes

total : (ℕ → ℕ) → ℕ → ℕ
total f zero = 0
total f (suc n) = f n + total f n

total-same : (f g : ℕ → ℕ) (n : ℕ) → ((q : ℕ) → q < n → f q ≡ g q) → total f n ≡ total g n
unfolding total
total-same f g zero same = refl
total-same f g (suc n) same =
    let here = same n (omega arith) in
    let rest = total-same f g n (λ q lt. same q (omega arith)) in
    omega arith

total-plus : (f g : ℕ → ℕ) (n : ℕ) → total (λ q. f q + g q) n ≡ total f n + total g n
unfolding total
total-plus f g zero = refl
total-plus f g (suc n) = let rest = total-plus f g n in omega arith

total-first : (f : ℕ → ℕ) (n : ℕ) → total f (suc n) ≡ f 0 + total (λ q. f (suc q)) n
unfolding total
total-first f zero = refl
total-first f (suc n) = let rest = total-first f n in omega arith

total-zero : (n : ℕ) → total (λ q. 0) n ≡ 0
unfolding total
total-zero zero = refl
total-zero (suc n) = let rest = total-zero n in omega arith

-- the weight of a time
weight-total : (xs : List ℕ) → weight_of xs ≡ total (entry xs) (length xs)
unfolding total
weight-total [] = refl
weight-total (x ∷ xs) =
    let first = weight-first x xs in
    let rest = weight-total xs in
    let all = total-first (entry (x ∷ xs)) (length xs) in
    omega arith

-- ---- intervals, by node

abbrev one : ℕ → ℕ → ℕ
one k q = cond (k == q) 1 0

total-none : (k n : ℕ) → n ≤ k → total (one k) n ≡ 0
unfolding total
total-none k zero le = refl
total-none k (suc n) le =
    let here : one k n ≡ 0 = ap (λ b. cond b 1 0) (ne_eqb k n (λ e. omega arith)) in
    let rest = total-none k n (omega arith) in
    omega arith

total-one : (k n : ℕ) → k < n → total (one k) n ≡ 1
unfolding total
total-one k zero lt = absurd (omega arith)
total-one k (suc n) lt =
    elim (cases_eq k n) [
      | inl same ↦
          let here : one k n ≡ 1 = ap (λ b. cond b 1 0) (eq-eqb k n same) in
          let rest = total-none k n (omega arith) in
          omega arith
      | inr other ↦
          let here : one k n ≡ 0 = ap (λ b. cond b 1 0) (ne_eqb k n other) in
          let rest = total-one k n (omega arith) in
          omega arith
    ]

counted : (x : IntervalRecord) (xs : List IntervalRecord) (b : Bool)
    → length (map index_of (cond b (x ∷ xs) xs)) ≡ cond b 1 0 + length (map index_of xs)
counted x xs true = omega arith
counted x xs false = omega arith

by_nodes : (xs : List IntervalRecord) (n : ℕ) → All (λ (i : IntervalRecord). i.node < n) xs → total (λ q. length (indices_by xs q)) n ≡ length xs
by_nodes [] n all = total-zero n
by_nodes (x ∷ xs) n all =
    let within = All-head (λ (i : IntervalRecord). i.node < n) x xs all in
    let rest = by_nodes xs n (All-tail (λ (i : IntervalRecord). i.node < n) x xs all) in
    let each = total-same (λ q. length (indices_by (x ∷ xs) q)) (λ q. one x.node q + length (indices_by xs q)) n
    (λ q lt. counted x (filter (λ (i : IntervalRecord). i.node == q) xs) (x.node == q)) in
    let parts = total-plus (one x.node) (λ q. length (indices_by xs q)) n in
    let first = total-one x.node n within in
    omega arith

-- ---- a node

module _ (node : Node) (r : IsReached node) where
  e : StoresExactly node.locks.time node.memory
  e = exact_at node r

  abbrev count : ℕ
  count = node.setting.nodes

  abbrev above : ℕ → ℕ
  above q = entry node.locks.time q - entry node.memory.collected q

  stored : total above count ≡ length node.memory.store.entries
  stored =
      let ranges : All (InRange count (pages_of node.setting.words node.options.size)) (intervals_of node.memory.store) =
      (ranged_at node r).memory.intervals in
      let within : All (λ (i : IntervalRecord). i.node < count) (intervals_of node.memory.store) =
      All-weaker (InRange count (pages_of node.setting.words node.options.size)) (λ (i : IntervalRecord). i.node < count) (λ i h. h.node)
      (intervals_of node.memory.store) ranges in
      let all = by_nodes (intervals_of node.memory.store) count within in
      let long = length-map node.memory.store.entries interval_of in
      let each = total-same above (λ q. length (indices_by (intervals_of node.memory.store) q)) count
      (λ q lt.
      sym (ap length (e.stored q) ∙ length-range_with_len (entry node.memory.collected q + 1) (above q))) in
      omega arith

  pub holds : length node.memory.store.entries + weight_of node.memory.collected ≡ weight_of node.locks.time
  holds =
      let time = weight-total node.locks.time in
      let gone = weight-total node.memory.collected in
      let time_long : total (entry node.locks.time) (length node.locks.time) ≡ total (entry node.locks.time) count =
      ap (total (entry node.locks.time)) (ranged_at node r).time in
      let gone_long : total (entry node.memory.collected) (length node.memory.collected) ≡ total (entry node.memory.collected) count =
      ap (total (entry node.memory.collected)) (ranged_at node r).memory.collected in
      let split = total-same (entry node.locks.time) (λ q. above q + entry node.memory.collected q) count
      (λ q lt. let below = e.below q in omega arith) in
      let parts = total-plus above (entry node.memory.collected) count in
      let held = stored in
      omega arith

-- as many on both sides
shifted : (least more held weight : ℕ) → held + more ≡ weight → nat_le least held ≡ nat_le (least + more) weight
shifted least more held weight is =
    elim (cases_lt held least) [
      | inl less ↦
          false_from_ne_true (nat_le least held) (λ t. let le = leb-true least held t in omega arith)
          ∙ sym (false_from_ne_true (nat_le (least + more) weight) (λ t. let le = leb-true (least + more) weight t in omega arith))
      | inr most ↦ le-leb least held (omega arith) ∙ sym (le-leb (least + more) weight (omega arith))
    ]

pub asks_so : (node : Node) (state : State) → IsReached node → state.knows.time ≡ node.locks.time → state.dropped ≡ node.memory.collected
    → asks_for_collection node ≡ (nat_le 1 node.options.collect && asks node.options.collect (Some state))
asks_so node state r time dropped =
    let collect : ℕ = node.options.collect in
    ap (λ b. nat_le 1 collect && b)
    (shifted collect (weight_of node.memory.collected) (length node.memory.store.entries) (weight_of node.locks.time) (holds node r)
    ∙ ap (λ t. nat_le (collect + weight_of t) (weight_of node.locks.time)) (sym dropped)
    ∙ ap (λ t. nat_le (collect + weight_of state.dropped) (weight_of t)) (sym time))
