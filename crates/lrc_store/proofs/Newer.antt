-- The newer intervals, node by node.
use Rattle.std.proofs.Common.{◌≡◌, ℕ, zero, suc, ◌+◌, ◌<◌, ◌∙◌, true, eqb, eqb-true, nat_lt, List, [], ◌∷◌, ◌++◌, length, get_or, ap, sym, subst, arith, ⊎_elim}
use Rattle.std.specs.Prelude.{IsTrue}
use Rattle.std.specs.List.{All, AllPairs, Contains, filter}
use Rattle.std.proofs.lemmas.Bool.{and_parts, and_from, cases_eq, eq-eqb, lt-ltb}
use Rattle.std.proofs.lemmas.List.Elements.{All-append, All-contains, All-head, All-tail, All-weaker, Contains-append_cases}
use Rattle.std.proofs.lemmas.List.Elements.{Contains-append_left, Contains-append_right, filter_passes}
use Rattle.std.proofs.lemmas.List.Kept.{AllPairs-cons, AllPairs-filter}
use Rattle.lrc_store.specs.Chains.{ChainsRecord}
use Rattle.lrc_store.specs.Nodes.{NodesRecord}
use Rattle.lrc_store.specs.declared.key.Key.{Key}
use Rattle.lrc_store.specs.Interval.{IntervalRecord, by_node, index_of}
use Rattle.lrc_store.specs.Links.{IsLinkedUp, is_newer_of}
use Rattle.lrc_store.specs.Store.{StoreRecord, IsNewer, intervals_of, is_newer}
use Rattle.lrc_store.proofs.Orders.{none_Contains, filter-Contains}
use Rattle.lrc_store.proofs.Ranks.{less-by_rank, tied-by_rank}

-- two lists that hold a relation, and each of the first to each of the second
append_pairs : {X : Type 0} (R : X → X → Type 0) (xs ys : List X) → AllPairs R xs → AllPairs R ys
    → All (λ x. All (R x) ys) xs → AllPairs R (xs ++ ys)
append_pairs R [] ys first second cross = second
append_pairs R (x ∷ xs) ys first second cross =
    let ahead : All (R x) xs = λ k d within. first zero (suc k) d (omega arith) (omega arith) in
    let rest : AllPairs R xs = λ i j d less within. first (suc i) (suc j) d (omega arith) (omega arith) in
    AllPairs-cons R x (xs ++ ys)
    (All-append (R x) xs ys ahead (All-head (λ y. All (R y) ys) x xs cross))
    (append_pairs R xs ys rest second (All-tail (λ y. All (R y) ys) x xs cross))

module _ (since upto : List ℕ) (intervals : List IntervalRecord) where
  -- the newer intervals of the first nodes
  abbrev pub by_nodes : ℕ → List IntervalRecord
  by_nodes zero = []
  by_nodes (suc node) = by_nodes node ++ filter (is_newer_of node since upto) intervals

  pub by_nodes-more : (node : ℕ) (found more : List IntervalRecord) → found ≡ by_nodes node
      → more ≡ filter (is_newer_of node since upto) intervals → found ++ more ≡ by_nodes (node + 1)
  by_nodes-more node found more before here =
      let next : suc node ≡ node + 1 = omega arith in
      ap (λ (l : List IntervalRecord). l ++ more) before ∙ ap (λ (l : List IntervalRecord). by_nodes node ++ l) here ∙ ap by_nodes next

  of_node : (node : ℕ) → All (λ i. i.node ≡ node) (filter (is_newer_of node since upto) intervals)
  of_node node k d within =
      let i = get_or (filter (is_newer_of node since upto) intervals) k d in
      eqb-true _ _ (and_parts (eqb i.node node) (is_newer since upto i) (filter_passes (is_newer_of node since upto) intervals k d within)).0

  below : (nodes : ℕ) → All (λ i. i.node < nodes) (by_nodes nodes)
  below zero = λ k d within. absurd (omega arith)
  below (suc node) =
      All-append (λ i. i.node < suc node) (by_nodes node) (filter (is_newer_of node since upto) intervals)
      (All-weaker (λ i. i.node < node) (λ i. i.node < suc node) (λ i h. omega (arith, h)) (by_nodes node) (below node))
      (All-weaker (λ i. i.node ≡ node) (λ i. i.node < suc node) (λ i h. omega (arith, h)) (filter (is_newer_of node since upto) intervals) (of_node node))

  first_of : (nodes : ℕ) (x : IntervalRecord) → Contains (by_nodes nodes) x → Contains intervals x × (is_newer since upto x ≡ true)
  first_of zero x there = absurd (none_Contains x there)
  first_of (suc node) x there =
      ⊎_elim
      (λ before. first_of node x before)
      (λ (here : Contains (filter (is_newer_of node since upto) intervals) x).
      let both = (filter-Contains (is_newer_of node since upto) intervals x).0 here in
      (both.0, (and_parts (eqb x.node node) (is_newer since upto x) both.1).1))
      (Contains-append_cases (by_nodes node) (filter (is_newer_of node since upto) intervals) x there)

  found_in : (nodes : ℕ) (x : IntervalRecord) → Contains intervals x → is_newer since upto x ≡ true → x.node < nodes
      → Contains (by_nodes nodes) x
  found_in zero x there newer less = absurd (omega (arith, less))
  found_in (suc node) x there newer less =
      ⊎_elim
      (λ (same : x.node ≡ node).
      Contains-append_right (by_nodes node) (filter (is_newer_of node since upto) intervals) x
      ((filter-Contains (is_newer_of node since upto) intervals x).1 (there, and_from _ _ (eq-eqb x.node node same) newer)))
      (λ other.
      Contains-append_left (by_nodes node) (filter (is_newer_of node since upto) intervals) x
      (found_in node x there newer (omega (arith, less, other))))
      (cases_eq x.node node)

  ascending_node : (node : ℕ) → AllPairs (λ a b. a.node ≡ b.node → index_of a < index_of b) intervals
      → AllPairs (λ a b. IsTrue (by_node a b)) (filter (is_newer_of node since upto) intervals)
  ascending_node node ascending i j d less within =
      let part = filter (is_newer_of node since upto) intervals in
      let a = get_or part i d in
      let b = get_or part j d in
      let same : a.node ≡ b.node = of_node node i d (omega (arith, less, within)) ∙ sym (of_node node j d within) in
      let rises = AllPairs-filter (λ a b. a.node ≡ b.node → index_of a < index_of b) (is_newer_of node since upto) intervals ascending i j d less within same in
      tied-by_rank (λ (v : IntervalRecord). v.node) (λ v w. nat_lt (index_of v) (index_of w)) a b same ∙ lt-ltb (index_of a) (index_of b) rises

  ascending_all : (nodes : ℕ) → AllPairs (λ a b. a.node ≡ b.node → index_of a < index_of b) intervals
      → AllPairs (λ a b. IsTrue (by_node a b)) (by_nodes nodes)
  ascending_all zero ascending = λ i j d less within. absurd (omega (arith, within))
  ascending_all (suc node) ascending =
      let part = filter (is_newer_of node since upto) intervals in
      append_pairs (λ a b. IsTrue (by_node a b)) (by_nodes node) part (ascending_all node ascending) (ascending_node node ascending)
      (λ i d i_in j e j_in.
      let a = get_or (by_nodes node) i d in
      let b = get_or part j e in
      less-by_rank (λ (v : IntervalRecord). v.node) (λ v w. nat_lt (index_of v) (index_of w)) a b
      (omega (arith, below node i d i_in, of_node node j e j_in)))

-- the newer intervals of all nodes are what is newer
pub IsNewer-by_nodes : (store : StoreRecord) (by_node : NodesRecord) (by_page : ChainsRecord) (notices : List (ℕ × Key)) (since upto : List ℕ)
    → IsLinkedUp store by_node by_page notices
    → IsNewer store since upto (by_nodes since upto (intervals_of store) (length store.last))
IsNewer-by_nodes store by_node by_page notices since upto linked =
    let all = intervals_of store in
    let in_range : All (λ i. i.node < length store.last) all =
    λ k d within. omega (arith, (linked.intervals k d within).counted, linked.sound.stamps k d within) in
    record {
      exactly = λ x. (
        first_of since upto all (length store.last) x,
        λ both. found_in since upto all (length store.last) x both.0 both.1
            (All-contains (λ i. i.node < length store.last) all x in_range both.0),
      );
      ascending = ascending_all since upto all (length store.last) linked.sound.ascending;
    }

-- what was found, node by node, is what is newer
pub IsNewer-found : (store same : StoreRecord) (by_node : NodesRecord) (by_page : ChainsRecord) (notices : List (ℕ × Key)) (since upto : List ℕ)
    (nodes : ℕ) (found : List IntervalRecord) → IsLinkedUp store by_node by_page notices → store ≡ same → nodes ≡ length store.last
    → found ≡ by_nodes since upto (intervals_of same) nodes → IsNewer same since upto found
IsNewer-found store same by_node by_page notices since upto nodes found linked is count by =
    let last : length store.last ≡ length same.last = ap (λ (s : StoreRecord). length s.last) is in
    let whole : found ≡ by_nodes since upto (intervals_of same) (length same.last) = by ∙ ap (by_nodes since upto (intervals_of same)) (count ∙ last) in
    subst (IsNewer same since upto) (sym whole)
    (IsNewer-by_nodes same by_node by_page notices since upto
    (subst (λ (s : StoreRecord). IsLinkedUp s by_node by_page notices) is linked))
