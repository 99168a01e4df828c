-- A node stores just the intervals that were made above its collected time and up to its time.
use Rattle.std.proofs.Common.{◌≡◌, ◌⊎◌, ℕ, zero, suc, ◌+◌, ◌-◌, ◌<◌, ◌≤◌, List, [], ◌∷◌, length, refl, sym, ap, subst, ◌∙◌, inl, inr, arith}
use Rattle.std.specs.Prelude.{Some, Contains, slice_get, slice_index_or}
use Rattle.std.specs.List.{range_with_len}
use Rattle.std.proofs.lemmas.Bool.{cases_eq, cases_lt}
use Rattle.std.proofs.lemmas.List.{get_or_past}
use Rattle.std.proofs.lemmas.Option.{slice_get_within}
use Rattle.lrc_program.specs.declared.Program.{Program}
use Rattle.lrc_time.specs.Time.{entry}
use Rattle.lrc_store.specs.Interval.{IntervalRecord, index_of}
use Rattle.lrc_store.specs.Store.{intervals_of}
use Rattle.lrc_protocol.specs.declared.event.Event.{Event}
use Rattle.lrc_protocol.specs.Times.{indices_by}
use Rattle.lrc_protocol.specs.Follows.{inputs_of, turns_of}
use Rattle.lrc_protocol.specs.Node.{OptionsRecord}
use Rattle.lrc_protocol.specs.Run.{Logged, World, run_of}
use Rattle.lrc_protocol.proofs.Worlds.{run-whole}
use Rattle.lrc_order_laws.proofs.Pending.{get_within}
use Rattle.lrc_order_laws.proofs.Shape.{shape_at}
use Rattle.lrc_node_laws.specs.Reached.{IsReached}
use Rattle.lrc_node_laws.specs.Stored.{StoresExactly}
use Rattle.lrc_node_laws.proofs.Always.{exact_at}
use Rattle.lrc_node_laws.proofs.Indices.{indices-here, indices-there}
use Rattle.lrc_reading_laws.specs.Made.{AllMade, AreMade, StoresJust}

-- ---- members and their indices

cases_by : {X : Type 0} (y x : X) (ys : List X) (k : ℕ) → k < length (y ∷ ys) → slice_index_or (y ∷ ys) k x ≡ x → (y ≡ x) ⊎ Contains ys x
cases_by y x ys zero lt e = inl e
cases_by y x ys (suc k) lt e = inr (k, omega (arith, lt), e)

contains_cases : {X : Type 0} (y x : X) (ys : List X) → Contains (y ∷ ys) x → (y ≡ x) ⊎ Contains ys x
contains_cases y x ys h = cases_by y x ys h.0 h.1 h.2

contains_none : {X : Type 0} (x : X) → Contains [] x → ⊥
contains_none {X = X} x h = let lt : h.0 < length {A = X} [] = h.1 in absurd (omega (arith, lt))

contains_first : {X : Type 0} (x : X) (ys : List X) → Contains (x ∷ ys) x
contains_first x ys = (zero, omega arith, refl)

contains_later : {X : Type 0} (y x : X) (ys : List X) → Contains ys x → Contains (y ∷ ys) x
contains_later y x ys h = let lt : h.0 < length ys = h.1 in (suc h.0, omega (arith, lt), h.2)

pub made_at : (made xs : List IntervalRecord) (i : IntervalRecord) → AllMade made xs → Contains xs i → Contains made i
made_at made [] i h c = absurd (contains_none i c)
made_at made (x ∷ xs) i h c = elim (contains_cases x i xs c) [
  | inl e ↦ subst (Contains made) e h.0
  | inr later ↦ made_at made xs i h.1 later
]

pub index_in : (q : ℕ) (xs : List IntervalRecord) (i : IntervalRecord) → Contains xs i → i.node ≡ q → Contains (indices_by xs q) (index_of i)
index_in q [] i c e = absurd (contains_none i c)
index_in q (x ∷ xs) i c e = elim (cases_eq x.node q) [
  | inl here ↦
      subst (λ ks. Contains ks (index_of i)) (sym (indices-here x xs q here)) (elim (contains_cases x i xs c) [
        | inl is ↦ subst (λ k. Contains (k ∷ indices_by xs q) (index_of i)) (ap index_of (sym is)) (contains_first (index_of i) (indices_by xs q))
        | inr later ↦ contains_later (index_of x) (index_of i) (indices_by xs q) (index_in q xs i later e)
      ])
  | inr other ↦
      subst (λ ks. Contains ks (index_of i)) (sym (indices-there x xs q other)) (elim (contains_cases x i xs c) [
        | inl is ↦ absurd (other (ap (λ (i : IntervalRecord). i.node) is ∙ e))
        | inr later ↦ index_in q xs i later e
      ])
]

-- a member of the node with this index
pub record Member (q k : ℕ) (xs : List IntervalRecord) : Type 0 where
  pub i : IntervalRecord
  pub in_list : Contains xs i
  pub node_is : i.node ≡ q
  pub index_is : index_of i ≡ k

later_member : (q k : ℕ) (x : IntervalRecord) (xs : List IntervalRecord) → Member q k xs → Member q k (x ∷ xs)
later_member q k x xs m = record { i = m.i; in_list = contains_later x m.i xs m.in_list; node_is = m.node_is; index_is = m.index_is }

pub in_index : (q k : ℕ) (xs : List IntervalRecord) → Contains (indices_by xs q) k → Member q k xs
in_index q k [] c = absurd (contains_none k c)
in_index q k (x ∷ xs) c = elim (cases_eq x.node q) [
  | inl here ↦
      elim (contains_cases (index_of x) k (indices_by xs q) (subst (λ ks. Contains ks k) (indices-here x xs q here) c)) [
        | inl is ↦ record { i = x; in_list = contains_first x xs; node_is = here; index_is = is }
        | inr later ↦ later_member q k x xs (in_index q k xs later)
      ]
  | inr other ↦ later_member q k x xs (in_index q k xs (subst (λ ks. Contains ks k) (indices-there x xs q other) c))
]

-- ---- ranges

pub from_range : (a n k : ℕ) → Contains (range_with_len a n) k → (a ≤ k) × (k < a + n)
from_range a zero k c = absurd (contains_none k c)
from_range a (suc n) k c = elim (contains_cases a k (range_with_len (a + 1) n) c) [
  | inl e ↦ (omega (arith, e), omega (arith, e))
  | inr later ↦
      let rest : (a + 1 ≤ k) × (k < a + 1 + n) = from_range (a + 1) n k later in
      let least : a + 1 ≤ k = rest.0 in
      let most : k < a + 1 + n = rest.1 in
      (omega (arith, least), omega (arith, most))
]

pub in_range : (a n k : ℕ) → a ≤ k → k < a + n → Contains (range_with_len a n) k
in_range a zero k le lt = absurd (omega (arith, le, lt))
in_range a (suc n) k le lt = elim (cases_eq a k) [
  | inl e ↦ subst (Contains (range_with_len a (suc n))) e (contains_first a (range_with_len (a + 1) n))
  | inr ne ↦ contains_later a k (range_with_len (a + 1) n) (in_range (a + 1) n k (above ne) (omega (arith, lt)))
]
  where
    above : (a ≡ k → ⊥) → a + 1 ≤ k
    above ne = elim (cases_lt a k) [ inl less ↦ omega (arith, less) | inr more ↦ absurd (ne (omega (arith, le, more))) ]

-- ---- each index once

first_is : (x a : ℕ) (xs : List ℕ) (n : ℕ) → x ∷ xs ≡ range_with_len a n → (n' : ℕ) × (x ≡ a) × (xs ≡ range_with_len (a + 1) n')
first_is x a xs zero e = cc
first_is x a xs (suc n) e = (n, cc, cc)

pub once : (q : ℕ) (xs : List IntervalRecord) (a n : ℕ) → indices_by xs q ≡ range_with_len a n → (i j : IntervalRecord) → Contains xs i → Contains xs j
    → i.node ≡ q → j.node ≡ q → index_of i ≡ index_of j → i ≡ j
once q [] a n e i j ci cj qi qj same = absurd (contains_none i ci)
once q (x ∷ xs) a n e i j ci cj qi qj same = elim (cases_eq x.node q) [
  | inl here ↦
      let first : (n' : ℕ) × (index_of x ≡ a) × (indices_by xs q ≡ range_with_len (a + 1) n') =
      first_is (index_of x) a (indices_by xs q) n (sym (indices-here x xs q here) ∙ e) in
      elim (contains_cases x i xs ci) [
        | inl xi ↦
            elim (contains_cases x j xs cj) [
              | inl xj ↦ sym xi ∙ xj
              | inr later ↦ absurd (too_late first.0 j later first.2 qj (sym same ∙ ap index_of (sym xi) ∙ first.1))
            ]
        | inr before ↦
            elim (contains_cases x j xs cj) [
              | inl xj ↦ absurd (too_late first.0 i before first.2 qi (same ∙ ap index_of (sym xj) ∙ first.1))
              | inr later ↦ once q xs (a + 1) first.0 first.2 i j before later qi qj same
            ]
      ]
  | inr other ↦
      elim (contains_cases x i xs ci) [
        | inl xi ↦ absurd (other (ap (λ (i : IntervalRecord). i.node) xi ∙ qi))
        | inr before ↦
            elim (contains_cases x j xs cj) [
              | inl xj ↦ absurd (other (ap (λ (i : IntervalRecord). i.node) xj ∙ qj))
              | inr later ↦ once q xs a n (sym (indices-there x xs q other) ∙ e) i j before later qi qj same
            ]
      ]
]
  where
    too_late : (n' : ℕ) (k : IntervalRecord) → Contains xs k → indices_by xs q ≡ range_with_len (a + 1) n' → k.node ≡ q → index_of k ≡ a → ⊥
    too_late n' k c is node index =
        let some : (a + 1 ≤ index_of k) × (index_of k < a + 1 + n') =
        from_range (a + 1) n' (index_of k) (subst (λ ks. Contains ks (index_of k)) is (index_in q xs k c node)) in
        let least : a + 1 ≤ index_of k = some.0 in
        absurd (omega (arith, least, index))

-- ---- every run

module _ (program : Program) (nodes : ℕ) (options : OptionsRecord) (events : List Event) (world : World)
    (runs : run_of program nodes options events ≡ Some world) where
  pub reached : (n : ℕ) (l : Logged) → slice_get world.nodes n ≡ Some l → IsReached l.node
  reached n l at = record {
    program = program;
    nodes = nodes;
    options = options;
    me = n;
    turns = turns_of l.log;
    leads = record {
      among = subst (λ k. n < k) (run-whole program nodes options events world runs).count (slice_get_within world.nodes n l at);
      inputs = inputs_of l.log;
      made = ((run-whole program nodes options events world runs).each n l at).replayed;
    };
  }

  pub stores_just : (made : List IntervalRecord) → AreMade made world → (n : ℕ) (l : Logged) → slice_get world.nodes n ≡ Some l → StoresJust made l.node
  stores_just made are n l at i =
      let q : ℕ = i.node in
      let exact : StoresExactly l.node.locks.time l.node.memory = exact_at l.node (reached n l at) in
      let low : ℕ = entry l.node.memory.collected q in
      let high : ℕ = entry l.node.locks.time q in
      let below : low ≤ high = exact.below q in
      let stored : indices_by (intervals_of l.node.memory.store) q ≡ range_with_len (low + 1) (high - low) = exact.stored q in (
        λ c.
            let between : (low + 1 ≤ index_of i) × (index_of i < low + 1 + (high - low)) =
            from_range (low + 1) (high - low) (index_of i)
            (subst (λ ks. Contains ks (index_of i)) stored (index_in q (intervals_of l.node.memory.store) i c refl)) in
            let least : low + 1 ≤ index_of i = between.0 in
            let most : index_of i < low + 1 + (high - low) = between.1 in
            (made_at made (intervals_of l.node.memory.store) i (are.stored n l at) c, omega (arith, least), omega (arith, most, below)),
        λ h.
            let above : low < index_of i = h.1 in
            let upto : index_of i ≤ high = h.2 in
            let m : Member q (index_of i) (intervals_of l.node.memory.store) =
            in_index q (index_of i) (intervals_of l.node.memory.store)
            (subst (λ ks. Contains ks (index_of i)) (sym stored) (in_range (low + 1) (high - low) (index_of i) (omega (arith, above)) (omega
            (arith, upto, below)))) in
            let within : q < length world.nodes = is_node q above upto in
            let x : (x : Logged) × (slice_get world.nodes q ≡ Some x) = get_within world.nodes q within in
            let same : m.i ≡ i =
            once q made 1 (entry x.0.node.locks.time q) (are.exact q x.0 x.1) m.i i
            (made_at made (intervals_of l.node.memory.store) m.i (are.stored n l at) m.in_list) h.0 m.node_is refl m.index_is in
            subst (Contains (intervals_of l.node.memory.store)) same m.in_list,
      )
    where
      is_node : (q : ℕ) → entry l.node.memory.collected q < index_of i → index_of i ≤ entry l.node.locks.time q → q < length world.nodes
      is_node q above upto = elim (cases_lt q (length world.nodes)) [
        | inl lt ↦ lt
        | inr le ↦
            let long : length l.node.locks.time ≡ nodes = (shape_at program nodes options events world n l runs at).shape.times in
            let count : length world.nodes ≡ nodes = (run-whole program nodes options events world runs).count in
            let none : entry l.node.locks.time q ≡ 0 = get_or_past l.node.locks.time q 0 (omega (arith, long, count, le)) in
            absurd (omega (arith, none, above, upto))
      ]
