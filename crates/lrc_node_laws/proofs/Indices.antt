-- The indices of each node's intervals in a list.
use Rattle.std.proofs.Common.{◌≡◌, ℕ, zero, suc, ◌+◌, ◌-◌, ◌<◌, ◌≤◌, List, [], ◌∷◌, ◌++◌, true, length, max, refl, sym, ap, subst, ◌∙◌, inl, inr, arith}
use Rattle.std.specs.Prelude.{All, AllPairs, not, ◌==◌, fold, map, filter, if◌then◌else◌}
use Rattle.std.specs.List.{range_with_len}
use Rattle.std.proofs.lemmas.Bool.{cases_eq, eq-eqb, ne_eqb, le-leb}
use Rattle.std.proofs.lemmas.List.{length-set, map-append}
use Rattle.std.proofs.lemmas.List.Elements.{All-nil, All-cons, All-head, All-tail, All-weaker, filter-append}
use Rattle.std.proofs.lemmas.List.Kept.{AllPairs-cons}
use Rattle.lrc_time.specs.Time.{entry}
use Rattle.lrc_time.proofs.Times.{entry-set_same, entry-set_other}
use Rattle.lrc_store.specs.Interval.{IntervalRecord, index_of}
use Rattle.lrc_store.specs.Store.{is_covered}
use Rattle.lrc_protocol.specs.Times.{indices_by}
use Rattle.lrc_node_laws.proofs.Stores.{last_with}

-- ---- ranges

pub range-join : (a m n : ℕ) → range_with_len a m ++ range_with_len (a + m) n ≡ range_with_len a (m + n)
range-join a zero n =
    let same : a + zero ≡ a = omega arith in
    let none : zero + n ≡ n = omega arith in
    ap (λ k. range_with_len k n) same ∙ ap (range_with_len a) (sym none)
range-join a (suc m) n =
    let shifted : a + suc m ≡ (a + 1) + m = omega arith in
    let longer : suc m + n ≡ suc (m + n) = omega arith in
    ap (λ l. a ∷ l) (ap (λ k. range_with_len (a + 1) m ++ range_with_len k n) shifted ∙ range-join (a + 1) m n)
    ∙ ap (range_with_len a) (sym longer)

pub range-below : (a n bound : ℕ) → a + n ≤ bound + 1 → All (λ k. k ≤ bound) (range_with_len a n)
range-below a zero bound h = All-nil (λ k. k ≤ bound)
range-below a (suc n) bound h = All-cons (λ k. k ≤ bound) a (range_with_len (a + 1) n) (omega arith) (range-below (a + 1) n bound (omega arith))

pub range-above : (a n least : ℕ) → least ≤ a → All (λ k. least ≤ k) (range_with_len a n)
range-above a zero least h = All-nil (λ k. least ≤ k)
range-above a (suc n) least h = All-cons (λ k. least ≤ k) a (range_with_len (a + 1) n) h (range-above (a + 1) n least (omega arith))

-- numbers that ascend
abbrev pub Ascends : List ℕ → Type 0
Ascends [] = Unit {0}
Ascends (x ∷ xs) = All (λ y. x < y) xs × Ascends xs

pub range-ascends : (a n : ℕ) → Ascends (range_with_len a n)
range-ascends a zero = tt
range-ascends a (suc n) = (
  All-weaker (λ k. a + 1 ≤ k) (λ k. a < k) (λ k h. omega arith) (range_with_len (a + 1) n) (range-above (a + 1) n (a + 1) (omega arith)),
  range-ascends
      (a + 1) n,
)

-- ---- the last of some numbers

newest : ℕ → List ℕ → ℕ
newest before [] = before
newest before (x ∷ xs) = newest x xs

newest-range : (b n : ℕ) → newest b (range_with_len (b + 1) n) ≡ b + n
unfolding newest
newest-range b zero = omega arith
newest-range b (suc n) = newest-range (b + 1) n ∙ omega arith

-- ---- by node

pub indices-append : (xs ys : List IntervalRecord) (q : ℕ) → indices_by (xs ++ ys) q ≡ indices_by xs q ++ indices_by ys q
indices-append xs ys q =
    ap (map index_of) (filter-append (λ (i : IntervalRecord). i.node == q) xs ys)
    ∙ map-append index_of (filter (λ (i : IntervalRecord). i.node == q) xs) (filter (λ (i : IntervalRecord). i.node == q) ys)

pub indices-here : (i : IntervalRecord) (xs : List IntervalRecord) (q : ℕ) → i.node ≡ q → indices_by (i ∷ xs) q ≡ index_of i ∷ indices_by xs q
indices-here i xs q e =
    ap (λ b. map index_of (if b then i ∷ filter (λ (i : IntervalRecord). i.node == q) xs else filter (λ (i : IntervalRecord). i.node == q) xs))
    (eq-eqb i.node q e)

pub indices-there : (i : IntervalRecord) (xs : List IntervalRecord) (q : ℕ) → (i.node ≡ q → ⊥) → indices_by (i ∷ xs) q ≡ indices_by xs q
indices-there i xs q ne =
    ap (λ b. map index_of (if b then i ∷ filter (λ (i : IntervalRecord). i.node == q) xs else filter (λ (i : IntervalRecord). i.node == q) xs))
    (ne_eqb i.node q ne)

-- no interval of a node that there isn't
pub indices-none : (n : ℕ) (xs : List IntervalRecord) → All (λ (i : IntervalRecord). i.node < n) xs → (q : ℕ) → n ≤ q → indices_by xs q ≡ []
indices-none n [] h q le = refl
indices-none n (i ∷ xs) h q le =
    let lt : i.node < n = All-head (λ (i : IntervalRecord). i.node < n) i xs h in
    indices-there i xs q (λ e. absurd (omega (arith, lt, le, e))) ∙ indices-none n xs (All-tail (λ (i : IntervalRecord). i.node < n) i xs h) q le

-- the greatest indices once these intervals are added
entry-last_with : (more : List IntervalRecord) (last : List ℕ) (n : ℕ) → length last ≡ n → All (λ (i : IntervalRecord). i.node < n) more
    → (q : ℕ) → entry (fold last_with last more) q ≡ newest (entry last q) (indices_by more q)
unfolding newest
entry-last_with [] last n long h q = refl
entry-last_with (i ∷ more) last n long h q =
    let lt : i.node < n = All-head (λ (i : IntervalRecord). i.node < n) i more h in
    let rest : entry (fold last_with (last_with last i) more) q ≡ newest (entry (last_with last i) q) (indices_by more q) =
    entry-last_with more (last_with last i) n (length-set last i.node (index_of i) ∙ long) (All-tail (λ (i : IntervalRecord). i.node < n) i more h) q in
    elim (cases_eq i.node q) [
      | inl same ↦
          rest
          ∙ ap (λ k. newest k (indices_by more q)) (ap (entry (last_with last i)) (sym same)
          ∙ entry-set_same last i.node (index_of i) (omega (arith, lt, long)))
          ∙ ap (newest (entry last q)) (sym (indices-here i more q same))
      | inr other ↦
          rest
          ∙ ap (λ k. newest k (indices_by more q)) (entry-set_other last i.node (index_of i) q (λ e. other (sym e)))
          ∙ ap (newest (entry last q)) (sym (indices-there i more q other))
    ]

-- where they are the next ones up to another time
pub entry-last_next : (more : List IntervalRecord) (last : List ℕ) (n : ℕ) → length last ≡ n → All (λ (i : IntervalRecord). i.node < n) more
    → (q upto : ℕ) → indices_by more q ≡ range_with_len (entry last q + 1) (upto - entry last q)
    → entry (fold last_with last more) q ≡ max (entry last q) upto
entry-last_next more last n long h q upto e =
    entry-last_with more last n long h q ∙ ap (newest (entry last q)) e ∙ newest-range (entry last q) (upto - entry last q) ∙ omega arith

-- ---- what holds of the indices holds of the intervals

pub by_indices : (P : ℕ → ℕ → Type 0) (xs : List IntervalRecord) → ((q : ℕ) → All (P q) (indices_by xs q))
    → All (λ (i : IntervalRecord). P i.node (index_of i)) xs
by_indices P [] h = All-nil (λ (i : IntervalRecord). P i.node (index_of i))
by_indices P (i ∷ xs) h =
    All-cons (λ (i : IntervalRecord). P i.node (index_of i)) i xs
    (All-head (P i.node) (index_of i) (indices_by xs i.node) (subst (All (P i.node)) (indices-here i xs i.node refl) (h i.node)))
    (by_indices P xs (λ q. elim (cases_eq i.node q) [
      | inl same ↦ All-tail (P q) (index_of i) (indices_by xs q) (subst (All (P q)) (indices-here i xs q same) (h q))
      | inr other ↦ subst (All (P q)) (indices-there i xs q other) (h q)
    ]))

pub of_node : (P : ℕ → Type 0) (q : ℕ) (xs : List IntervalRecord) → All P (indices_by xs q) → All (λ (i : IntervalRecord). q ≡ i.node → P (index_of i)) xs
of_node P q [] h = All-nil (λ (i : IntervalRecord). q ≡ i.node → P (index_of i))
of_node P q (i ∷ xs) h = elim (cases_eq i.node q) [
  | inl same ↦
      All-cons (λ (i : IntervalRecord). q ≡ i.node → P (index_of i)) i xs
      (λ e. All-head P (index_of i) (indices_by xs q) (subst (All P) (indices-here i xs q same) h))
      (of_node P q xs (All-tail P (index_of i) (indices_by xs q) (subst (All P) (indices-here i xs q same) h)))
  | inr other ↦
      All-cons (λ (i : IntervalRecord). q ≡ i.node → P (index_of i)) i xs
      (λ e. absurd (other (sym e)))
      (of_node P q xs (subst (All P) (indices-there i xs q other) h))
]

-- intervals of a node stand in rising order
pub by_node-ascend : (xs : List IntervalRecord) → ((q : ℕ) → Ascends (indices_by xs q))
    → AllPairs (λ (a b : IntervalRecord). a.node ≡ b.node → index_of a < index_of b) xs
by_node-ascend [] h = λ i j d lt within. absurd (omega arith)
by_node-ascend (x ∷ xs) h =
    AllPairs-cons (λ (a b : IntervalRecord). a.node ≡ b.node → index_of a < index_of b) x xs
    (of_node (λ k. index_of x < k) x.node xs (subst Ascends (indices-here x xs x.node refl) (h x.node)).0)
    (by_node-ascend xs (λ q. elim (cases_eq x.node q) [
      | inl same ↦ (subst Ascends (indices-here x xs q same) (h q)).1
      | inr other ↦ subst Ascends (indices-there x xs q other) (h q)
    ]))

-- what a time covers is taken out
pub none_left : (time : List ℕ) (xs : List IntervalRecord) → All (λ (i : IntervalRecord). index_of i ≤ entry time i.node) xs
    → filter (λ i. not (is_covered time i)) xs ≡ []
none_left time [] h = refl
none_left time (i ∷ xs) h =
    let covered : is_covered time i ≡ true = le-leb (index_of i) (entry time i.node)
    (All-head (λ (i : IntervalRecord). index_of i ≤ entry time i.node) i xs h) in
    ap (λ b. if not b then i ∷ filter (λ i. not (is_covered time i)) xs else filter (λ i. not (is_covered time i)) xs) covered
    ∙ none_left time xs (All-tail (λ (i : IntervalRecord). index_of i ≤ entry time i.node) i xs h)
