-- What a store tells between two times: of each node the indices above the first and up to the second, in order.
use Rattle.std.proofs.Common.{◌≡◌, ℕ, zero, suc, ◌+◌, ◌-◌, ◌<◌, ◌≤◌, List, [], ◌∷◌, Bool, true, false, refl, sym, ap, subst, ◌∙◌, inl, inr, ⊎_elim, arith}
use Rattle.std.specs.Prelude.{All, not, cond, filter, nat_lt, nat_le, ◌==◌, ◌&&◌, if◌then◌else◌}
use Rattle.std.specs.List.{range_with_len}
use Rattle.std.proofs.lemmas.Bool.{cases_eq, cases_lt, and_from, eq-eqb, lt-ltb, le-leb, lt-leb, or_right, false≢true}
use Rattle.std.proofs.lemmas.List.Elements.{All-head, All-filter}
use Rattle.lrc_time.specs.Time.{entry}
use Rattle.lrc_store.specs.Interval.{IntervalRecord, index_of, by_node}
use Rattle.lrc_store.specs.Order.{placed, ascending_part}
use Rattle.lrc_store.specs.Store.{intervals_of, is_newer, newer_of}
use Rattle.lrc_protocol.specs.Times.{indices_by}
use Rattle.lrc_protocol.specs.Pages.{Memory}
use Rattle.lrc_node_laws.specs.Stored.{StoresExactly}
use Rattle.lrc_node_laws.proofs.Indices.{Ascends, range-ascends, indices-here, indices-there}

-- ---- in order

placed-here : (q : ℕ) (x : IntervalRecord) (xs : List IntervalRecord) → x.node ≡ q → All (λ k. index_of x < k) (indices_by xs q)
    → indices_by (placed by_node x xs) q ≡ index_of x ∷ indices_by xs q
placed-here q x [] e h = indices-here x [] q e
placed-here q x (y ∷ xs) e h = by_test (λ h. placed-here q x xs e h) (by_node x y) refl
  where
    by_test : (All (λ k. index_of x < k) (indices_by xs q) → indices_by (placed by_node x xs) q ≡ index_of x ∷ indices_by xs q) → (b : Bool)
        → by_node x y ≡ b → indices_by (if b then x ∷ y ∷ xs else y ∷ placed by_node x xs) q ≡ index_of x ∷ indices_by (y ∷ xs) q
    by_test rest true t = indices-here x (y ∷ xs) q e
    by_test rest false t = elim (cases_eq y.node q) [
      | inl same ↦
          let less : index_of x < index_of y =
          All-head (λ k. index_of x < k) (index_of y) (indices_by xs q) (subst (All (λ k. index_of x < k)) (indices-here y xs q same) h) in
          let before : by_node x y ≡ true =
          or_right (nat_lt x.node y.node) ((x.node == y.node) && nat_lt (index_of x) (index_of y))
          (and_from (x.node == y.node) (nat_lt (index_of x) (index_of y)) (eq-eqb x.node y.node (e ∙ sym same)) (lt-ltb (index_of x) (index_of y) less)) in
          absurd (false≢true (sym t ∙ before))
      | inr other ↦
          indices-there y (placed by_node x xs) q other
          ∙ rest (subst (All (λ k. index_of x < k)) (indices-there y xs q other) h)
          ∙ ap (λ l. index_of x ∷ l) (sym (indices-there y xs q other))
    ]

placed-there : (q : ℕ) (x : IntervalRecord) (xs : List IntervalRecord) → (x.node ≡ q → ⊥) → indices_by (placed by_node x xs) q ≡ indices_by xs q
placed-there q x [] ne = indices-there x [] q ne
placed-there q x (y ∷ xs) ne = by_test (placed-there q x xs ne) (by_node x y)
  where
    by_test : indices_by (placed by_node x xs) q ≡ indices_by xs q → (b : Bool)
        → indices_by (if b then x ∷ y ∷ xs else y ∷ placed by_node x xs) q ≡ indices_by (y ∷ xs) q
    by_test rest true = indices-there x (y ∷ xs) q ne
    by_test rest false = elim (cases_eq y.node q) [
      | inl same ↦
          indices-here y (placed by_node x xs) q same ∙ ap (λ l. index_of y ∷ l) rest ∙ sym (indices-here y xs q same)
      | inr other ↦ indices-there y (placed by_node x xs) q other ∙ rest ∙ sym (indices-there y xs q other)
    ]

-- an index between two numbers
abbrev between : ℕ → ℕ → ℕ → Bool
between since upto k = not (nat_le k since) && nat_le k upto

part-indices : (since upto : List ℕ) (q : ℕ) (xs : List IntervalRecord) → Ascends (indices_by xs q)
    → indices_by (ascending_part by_node (is_newer since upto) xs) q ≡ filter (between (entry since q) (entry upto q)) (indices_by xs q)
part-indices since upto q [] h = refl
part-indices since upto q (x ∷ xs) h = elim (cases_eq x.node q) [
  | inl same ↦
      let split : Ascends (index_of x ∷ indices_by xs q) = subst Ascends (indices-here x xs q same) h in
      here same split (part-indices since upto q xs split.1) (is_newer since upto x) refl
      ∙ ap (filter (between (entry since q) (entry upto q))) (sym (indices-here x xs q same))
  | inr other ↦
      there other (part-indices since upto q xs (subst Ascends (indices-there x xs q other) h)) (is_newer since upto x)
      ∙ ap (filter (between (entry since q) (entry upto q))) (sym (indices-there x xs q other))
]
  where
    here : x.node ≡ q → Ascends (index_of x ∷ indices_by xs q) → indices_by (ascending_part by_node (is_newer since upto) xs) q ≡ filter (between
        (entry since q) (entry upto q)) (indices_by xs q) → (b : Bool) → is_newer since upto x ≡ b
        → indices_by (if b then placed by_node x (ascending_part by_node (is_newer since upto) xs) else (ascending_part by_node
        (is_newer since upto) xs)) q ≡ filter (between (entry since q) (entry upto q)) (index_of x ∷ indices_by xs q)
    here same split rest true t =
        placed-here q x (ascending_part by_node (is_newer since upto) xs) same
        (subst (All (λ k. index_of x < k)) (sym rest) (All-filter (between (entry since q) (entry upto q)) (λ k. index_of x < k) (indices_by xs q) split.0))
        ∙ ap (λ l. index_of x ∷ l) rest
        ∙ ap (λ b. cond b (index_of x ∷ filter (between (entry since q) (entry upto q)) (indices_by xs q)) (filter (between (entry since q)
        (entry upto q)) (indices_by xs q)))
        (sym (ap (λ n. between (entry since n) (entry upto n) (index_of x)) (sym same) ∙ t))
    here same split rest false t =
        rest
        ∙ ap (λ b. cond b (index_of x ∷ filter (between (entry since q) (entry upto q)) (indices_by xs q)) (filter (between (entry since q)
        (entry upto q)) (indices_by xs q)))
        (sym (ap (λ n. between (entry since n) (entry upto n) (index_of x)) (sym same) ∙ t))

    there : (x.node ≡ q → ⊥) → indices_by (ascending_part by_node (is_newer since upto) xs) q ≡ filter (between (entry since q) (entry upto q))
        (indices_by xs q) → (b : Bool)
        → indices_by (if b then placed by_node x (ascending_part by_node (is_newer since upto) xs) else (ascending_part by_node
        (is_newer since upto) xs)) q ≡ filter (between (entry since q) (entry upto q)) (indices_by xs q)
    there other rest true = placed-there q x (ascending_part by_node (is_newer since upto) xs) other ∙ rest
    there other rest false = rest

-- ---- of a range

module _ (since upto : ℕ) where
  dropped : (a n : ℕ) (rest : List ℕ) → between since upto a ≡ false → filter (between since upto) (a ∷ rest) ≡ filter (between since upto) rest
  dropped a n rest e = ap (λ b. cond b (a ∷ filter (between since upto) rest) (filter (between since upto) rest)) e

  kept : (a : ℕ) (rest : List ℕ) → between since upto a ≡ true → filter (between since upto) (a ∷ rest) ≡ a ∷ filter (between since upto) rest
  kept a rest e = ap (λ b. cond b (a ∷ filter (between since upto) rest) (filter (between since upto) rest)) e

  low : (a : ℕ) → a ≤ since → between since upto a ≡ false
  low a le = ap (λ b. not b && nat_le a upto) (le-leb a since le)

  high : (a : ℕ) → since < a → upto < a → between since upto a ≡ false
  high a above more = ap (λ b. not b && nat_le a upto) (lt-leb a since above) ∙ lt-leb a upto more

  inside : (a : ℕ) → since < a → a ≤ upto → between since upto a ≡ true
  inside a above le = ap (λ b. not b && nat_le a upto) (lt-leb a since above) ∙ le-leb a upto le

  above_since : (a n : ℕ) → since < a → upto < a + n → filter (between since upto) (range_with_len a n) ≡ range_with_len a ((upto + 1) - a)
  above_since a zero lt end = let none : 0 ≡ (upto + 1) - a = omega (arith, end) in ap (range_with_len a) none
  above_since a (suc n) lt end =
      let rest : filter (between since upto) (range_with_len (a + 1) n) ≡ range_with_len (a + 1) ((upto + 1) - (a + 1)) =
      above_since (a + 1) n (omega (arith, lt)) (omega (arith, end)) in
      ⊎_elim
      (λ (over : upto < a).
      let none : 0 ≡ (upto + 1) - (a + 1) = omega (arith, over) in
      let none' : 0 ≡ (upto + 1) - a = omega (arith, over) in
      dropped a n (range_with_len (a + 1) n) (high a lt over) ∙ rest ∙ ap (range_with_len (a + 1)) (sym none) ∙ ap (range_with_len a) none')
      (λ (le : a ≤ upto).
      let one : suc ((upto + 1) - (a + 1)) ≡ (upto + 1) - a = omega (arith, le) in
      kept a (range_with_len (a + 1) n) (inside a lt le) ∙ ap (λ l. a ∷ l) rest ∙ ap (range_with_len a) one)
      (cases_lt upto a)

  of_range : (a n : ℕ) → a ≤ since + 1 → upto < a + n → filter (between since upto) (range_with_len a n) ≡ range_with_len (since + 1) (upto - since)
  of_range a zero le end = let none : 0 ≡ upto - since = omega (arith, le, end) in ap (range_with_len (since + 1)) none
  of_range a (suc n) le end =
      ⊎_elim
      (λ (more : since < a).
      let is : a ≡ since + 1 = omega (arith, more, le) in
      let long : (upto + 1) - a ≡ upto - since = omega (arith, is) in
      above_since a (suc n) more end ∙ ap (range_with_len a) long ∙ ap (λ k. range_with_len k (upto - since)) is)
      (λ (few : a ≤ since).
      dropped a n (range_with_len (a + 1) n) (low a few) ∙ of_range (a + 1) n (omega (arith, few)) (omega (arith, end)))
      (cases_lt since a)

-- ---- of a store

-- a node tells of just what is between two times, where it has not collected what is above the first and knows the second
pub newer-indices : (time : List ℕ) (memory : Memory) (since upto : List ℕ) (q : ℕ) → StoresExactly time memory
    → entry memory.collected q ≤ entry since q → entry upto q ≤ entry time q
    → indices_by (newer_of memory.store since upto) q ≡ range_with_len (entry since q + 1) (entry upto q - entry since q)
newer-indices time memory since upto q h low high =
    let below : entry memory.collected q ≤ entry time q = h.below q in
    part-indices since upto q (intervals_of memory.store)
    (subst Ascends (sym (h.stored q)) (range-ascends (entry memory.collected q + 1) (entry time q - entry memory.collected q)))
    ∙ ap (filter (between (entry since q) (entry upto q))) (h.stored q)
    ∙ of_range (entry since q) (entry upto q) (entry memory.collected q + 1) (entry time q - entry memory.collected q) (omega (arith, low))
    (omega (arith, high, below))
