-- Lists in order, and the part of a list that passes a test, put in order.
use Rattle.std.proofs.Common.{◌≡◌, ◌≢◌, ℕ, zero, suc, ◌<◌, ◌⊎◌, ◌∙◌, ◌↔◌, Bool, true, false, cond, IsTrue, List, [], ◌∷◌}
use Rattle.std.proofs.Common.{length, get_or, set, map, refl, ap, sym, subst, inl, inr, ⊎_elim, arith}
use Rattle.std.specs.Cmp.{IsStrictWeakOrder}
use Rattle.std.specs.List.{All, AllPairs, Contains, filter, swap}
use Rattle.std.specs.List.Sorted.{IsPermutation, IsSortedBy}
use Rattle.std.proofs.lemmas.Bool.{true≢false, cases_eq, cases_lt, true_from_ne_false}
use Rattle.std.proofs.lemmas.List.{length-map, get_or-map, map-set}
use Rattle.std.proofs.lemmas.List.Elements.{All-tail, Contains-get_or}
use Rattle.std.proofs.lemmas.List.Edits.{length-swap, swap_is, swapped_from_swap}
use Rattle.std.proofs.lemmas.List.Kept.{AllPairs-cons, AllPairs-filter}
use Rattle.std.proofs.lemmas.List.Sorted.{sorted_far, Contains-permutation, IsPermutation-sym, IsPermutation-keeps}
use Rattle.std.proofs.lemmas.List.Sorted.{IsPermutation-refl, IsPermutation-trans, IsPermutation-swap}
use Rattle.lrc_store.specs.Order.{IsAscendingPart, placed, ascending_part}

-- ---- the elements of a list

module _ {X : Type 0} where
  pub Contains-first : (x : X) (xs : List X) → Contains (x ∷ xs) x
  Contains-first x xs = (zero, omega arith, refl)

  pub Contains-later : (x : X) (xs : List X) (y : X) → Contains xs y → Contains (x ∷ xs) y
  Contains-later x xs y in_rest = (suc in_rest.0, omega (arith, in_rest.1), in_rest.2)

  pub cases_Contains : (x : X) (xs : List X) (y : X) → Contains (x ∷ xs) y → (x ≡ y) ⊎ Contains xs y
  cases_Contains x xs y (zero, within, same) = inl same
  cases_Contains x xs y (suc k, within, same) = inr (k, omega arith, same)

  pub none_Contains : (y : X) → Contains [] y → ⊥
  none_Contains y within = omega (arith, within.1)

-- what passes a test is in the list that a filter leaves
pub filter-Contains : {X : Type 0} (test : X → Bool) (xs : List X) (y : X)
    → Contains (filter test xs) y ↔ (Contains xs y × (test y ≡ true))
filter-Contains {X} test xs y = (from xs, λ both. into xs both.0 both.1)
  where
    from_cons : (x : X) (xs : List X) (b : Bool) → test x ≡ b
        → (Contains (filter test xs) y → Contains xs y × (test y ≡ true))
        → Contains (cond b (x ∷ filter test xs) (filter test xs)) y → Contains (x ∷ xs) y × (test y ≡ true)
    from_cons x xs false fails rest there = let later = rest there in (Contains-later x xs y later.0, later.1)
    from_cons x xs true passes rest there =
        ⊎_elim
        (λ (same : x ≡ y). ((zero, omega arith, same), ap test (sym same) ∙ passes))
        (λ deeper. let later = rest deeper in (Contains-later x xs y later.0, later.1))
        (cases_Contains x (filter test xs) y there)

    from : (xs : List X) → Contains (filter test xs) y → Contains xs y × (test y ≡ true)
    from [] there = absurd (none_Contains y there)
    from (x ∷ xs) there = from_cons x xs (test x) refl (from xs) there

    into_cons : (x : X) (xs : List X) (b : Bool) → test x ≡ b → test y ≡ true
        → (Contains xs y → Contains (filter test xs) y)
        → Contains (x ∷ xs) y → Contains (cond b (x ∷ filter test xs) (filter test xs)) y
    into_cons x xs b is passes rest there =
        ⊎_elim
        (λ (same : x ≡ y).
        let kept : b ≡ true = sym is ∙ ap test same ∙ passes in
        subst (λ (v : Bool). Contains (cond v (x ∷ filter test xs) (filter test xs)) y) (sym kept) (zero, omega arith, same))
        (λ deeper. either b (rest deeper))
        (cases_Contains x xs y there)
      where
        either : (v : Bool) → Contains (filter test xs) y → Contains (cond v (x ∷ filter test xs) (filter test xs)) y
        either true later = Contains-later x (filter test xs) y later
        either false later = later

    into : (xs : List X) → Contains xs y → test y ≡ true → Contains (filter test xs) y
    into [] there passes = absurd (none_Contains y there)
    into (x ∷ xs) there passes = into_cons x xs (test x) refl passes (λ deeper. into xs deeper passes) there

-- ---- lists moved about

pub map-map : {X Y Z : Type 0} (f : X → Y) (g : Y → Z) (xs : List X) → map g (map f xs) ≡ map (λ x. g (f x)) xs
map-map f g [] = refl
map-map f g (x ∷ xs) = ap (λ (l : List _). g (f x) ∷ l) (map-map f g xs)

swap-map : {X Y : Type 0} (f : X → Y) (xs : List X) (i j : ℕ) → i < length xs → j < length xs
    → swap (map f xs) i j ≡ map f (swap xs i j)
swap-map f [] i j i_in j_in = absurd (omega arith)
swap-map f (x ∷ rest) i j i_in j_in =
    let xs = x ∷ rest in
    let ys = map f xs in
    let long : length ys ≡ length xs = length-map xs f in
    let first : get_or ys i (f x) ≡ f (get_or xs i x) = get_or-map f xs i x (f x) i_in in
    let second : get_or ys j (f x) ≡ f (get_or xs j x) = get_or-map f xs j x (f x) j_in in
    sym (swap_is ys i j (f x) (omega arith) (omega arith))
    ∙ ap (λ y. set (set ys i (get_or ys j (f x))) j y) first
    ∙ ap (λ y. set (set ys i y) j (f (get_or xs i x))) second
    ∙ ap (λ (l : List _). set l j (f (get_or xs i x))) (sym (map-set f xs i (get_or xs j x)))
    ∙ sym (map-set f (set xs i (get_or xs j x)) j (get_or xs i x))
    ∙ ap (map f) (swap_is xs i j x i_in j_in)

-- a list of values moved about is the list of values of the elements moved about
pub IsPermutation-from_map : {X Y : Type 0} (f : X → Y) (xs : List X) (ys : List Y) → IsPermutation (map f xs) ys
    → (moved : List X) × IsPermutation xs moved × (ys ≡ map f moved)
IsPermutation-from_map {X} {Y} f xs ys shuffled =
    IsPermutation-keeps (map f xs) (λ (l : List Y). (moved : List X) × IsPermutation xs moved × (l ≡ map f moved))
    (xs, IsPermutation-refl xs, refl)
    (λ l i j i_in j_in h.
    let same_length : length l ≡ length h.0 = ap length h.2 ∙ length-map h.0 f in
    let i_there : i < length h.0 = omega arith in
    let j_there : j < length h.0 = omega arith in (
      swap h.0 i j,
      IsPermutation-trans xs h.0 (swap h.0 i j) h.1 (IsPermutation-swap h.0 (swap h.0 i j) i j i_there j_there refl),
      ap (λ (m : List Y). swap m i j) h.2 ∙ swap-map f h.0 i j i_there j_there,
    ))
    ys shuffled

-- what holds of whatever is in a list holds of each of its elements
All-from_Contains : {X : Type 0} (P : X → Type 0) (xs : List X) → ((z : X) → Contains xs z → P z) → All P xs
All-from_Contains P xs each k d within = each (get_or xs k d) (Contains-get_or xs k d within)

-- ---- orders

-- two elements of which one comes before the other
abbrev pub Comparable : {X : Type 0} → (X → X → Bool) → X → X → Type 0
Comparable before a b = (before a b ≡ true) ⊎ (before b a ≡ true)

-- any two elements at different places can be compared
abbrev AllComparable : {X : Type 0} → (X → X → Bool) → List X → Type 0
AllComparable {X} before xs =
    (i j : ℕ) (d : X) → i < length xs → j < length xs → i ≢ j → Comparable before (get_or xs i d) (get_or xs j d)

other_way : {X : Type 0} (before : X → X → Bool) (a b : X) → Comparable before a b → Comparable before b a
other_way before a b comparable = ⊎_elim inr inl comparable

AllComparable-swap : {X : Type 0} (before : X → X → Bool) (xs : List X) (a b : ℕ) → a < length xs → b < length xs
    → AllComparable before xs → AllComparable before (swap xs a b)
AllComparable-swap {X} before xs a b a_in b_in all i j d i_in j_in differ =
    let ys = swap xs a b in
    let long : length ys ≡ length xs = length-swap xs a b in
    let swapped = swapped_from_swap xs ys a b d a_in b_in refl in
    let at_a : (m : ℕ) → m ≡ a → get_or ys m d ≡ get_or xs b d = λ m same. ap (λ n. get_or ys n d) same ∙ swapped.0 in
    let at_b : (m : ℕ) → m ≡ b → get_or ys m d ≡ get_or xs a d = λ m same. ap (λ n. get_or ys n d) same ∙ swapped.1 in
    let carried : (m n : ℕ) → get_or ys i d ≡ get_or xs m d → get_or ys j d ≡ get_or xs n d → m < length xs → n < length xs → m ≢ n
    → Comparable before (get_or ys i d) (get_or ys j d) =
    λ m n first second m_in n_in apart.
    subst (λ (x : X). Comparable before x (get_or ys j d)) (sym first)
    (subst (λ (y : X). Comparable before (get_or xs m d) y) (sym second) (all m n d m_in n_in apart)) in
    ⊎_elim
    (λ (i_a : i ≡ a). ⊎_elim
    (λ (j_a : j ≡ a). absurd (omega arith))
    (λ (j_not_a : j ≢ a). ⊎_elim
    (λ (j_b : j ≡ b). carried b a (at_a i i_a) (at_b j j_b) b_in a_in (λ same. differ (omega arith)))
    (λ (j_not_b : j ≢ b). carried b j (at_a i i_a) (swapped.2 j j_not_a j_not_b) b_in (omega arith) (λ same. j_not_b (sym same)))
    (cases_eq j b))
    (cases_eq j a))
    (λ (i_not_a : i ≢ a). ⊎_elim
    (λ (i_b : i ≡ b). ⊎_elim
    (λ (j_a : j ≡ a). carried a b (at_b i i_b) (at_a j j_a) a_in b_in (λ same. differ (omega arith)))
    (λ (j_not_a : j ≢ a).
    carried a j (at_b i i_b) (swapped.2 j j_not_a (λ same. differ (omega arith))) a_in (omega arith)
    (λ same. j_not_a (sym same)))
    (cases_eq j a))
    (λ (i_not_b : i ≢ b). ⊎_elim
    (λ (j_a : j ≡ a). carried i b (swapped.2 i i_not_a i_not_b) (at_a j j_a) (omega arith) b_in i_not_b)
    (λ (j_not_a : j ≢ a). ⊎_elim
    (λ (j_b : j ≡ b). carried i a (swapped.2 i i_not_a i_not_b) (at_b j j_b) (omega arith) a_in i_not_a)
    (λ (j_not_b : j ≢ b). carried i j (swapped.2 i i_not_a i_not_b) (swapped.2 j j_not_a j_not_b) (omega arith) (omega arith) differ)
    (cases_eq j b))
    (cases_eq j a))
    (cases_eq i b))
    (cases_eq i a)

-- a list moved about keeps that any two of its elements can be compared
comparable-permutation : {X : Type 0} (before : X → X → Bool) (xs ys : List X)
    → AllPairs (Comparable before) xs → IsPermutation xs ys → AllPairs (Comparable before) ys
comparable-permutation before xs ys comparable moved =
    let all : AllComparable before xs =
    λ i j d i_in j_in differ.
    ⊎_elim
    (λ (less : i < j). comparable i j d less j_in)
    (λ at_most. other_way before _ _ (comparable j i d (omega arith) i_in))
    (cases_lt i j) in
    let kept : AllComparable before ys =
    IsPermutation-keeps xs (AllComparable before) all (λ l a b a_in b_in h. AllComparable-swap before l a b a_in b_in h) ys moved in
    λ i j d less within. kept i j d (omega arith) within (omega arith)

module _ {X : Type 0} (before : X → X → Bool) (order : IsStrictWeakOrder before) where
  pub not_both : (a b : X) → before a b ≡ true → before b a ≡ true → ⊥
  not_both a b forth back = true≢false (sym back ∙ order.one_way a b forth)

  pub goes_on : (a b c : X) → before a b ≡ true → before b c ≡ true → before a c ≡ true
  goes_on a b c first second =
      true_from_ne_false _ (λ fails. true≢false (sym first ∙ order.chain a c b fails (order.one_way b c second)))

  -- what comes before the first of a list in order comes before all of it
  before_all : (x y : X) (ys : List X) → before x y ≡ true → AllPairs (λ a b. IsTrue (before a b)) (y ∷ ys)
      → All (λ z. IsTrue (before x z)) (y ∷ ys)
  before_all x y ys first ascending zero d within = first
  before_all x y ys first ascending (suc k) d within =
      goes_on x y (get_or ys k d) first (ascending zero (suc k) d (omega arith) within)

  -- ---- one list in order

  cons_ascending : (x : X) (xs : List X) → All (λ z. IsTrue (before x z)) xs → AllPairs (λ a b. IsTrue (before a b)) xs
      → AllPairs (λ a b. IsTrue (before a b)) (x ∷ xs)
  cons_ascending x xs head tail = AllPairs-cons (λ a b. IsTrue (before a b)) x xs head tail

  tail_ascending : (R : X → X → Type 0) (x : X) (xs : List X) → AllPairs R (x ∷ xs) → AllPairs R xs
  tail_ascending R x xs ascending i j d less within = ascending (suc i) (suc j) d (omega arith) (omega arith)

  head_ascending : (R : X → X → Type 0) (x : X) (xs : List X) → AllPairs R (x ∷ xs) → (y : X) → Contains xs y → R x y
  head_ascending R x xs ascending y there =
      subst (R x) there.2 (ascending zero (suc there.0) y (omega arith) (omega (arith, there.1)))

  -- two lists in order that have the same elements are the same
  pub one_list : (xs ys : List X) → AllPairs (λ a b. IsTrue (before a b)) xs → AllPairs (λ a b. IsTrue (before a b)) ys
      → ((z : X) → Contains xs z → Contains ys z) → ((z : X) → Contains ys z → Contains xs z) → xs ≡ ys
  one_list [] [] xs_up ys_up forth back = refl
  one_list [] (y ∷ ys) xs_up ys_up forth back = absurd (none_Contains y (back y (Contains-first y ys)))
  one_list (x ∷ xs) [] xs_up ys_up forth back = absurd (none_Contains x (forth x (Contains-first x xs)))
  one_list (x ∷ xs) (y ∷ ys) xs_up ys_up forth back =
      let Up : X → X → Type 0 = λ a b. IsTrue (before a b) in
      let heads : x ≡ y =
      ⊎_elim
      (λ (same : y ≡ x). sym same)
      (λ (x_later : Contains ys x).
      ⊎_elim
      (λ (same : x ≡ y). same)
      (λ (y_later : Contains xs y).
      absurd (not_both x y (head_ascending Up x xs xs_up y y_later) (head_ascending Up y ys ys_up x x_later)))
      (cases_Contains x xs y (back y (Contains-first y ys))))
      (cases_Contains y ys x (forth x (Contains-first x xs))) in
      let tails : xs ≡ ys =
      one_list xs ys (tail_ascending Up x xs xs_up) (tail_ascending Up y ys ys_up)
      (λ z there.
      ⊎_elim
      (λ (same : y ≡ z).
      let after : before x z ≡ true = head_ascending Up x xs xs_up z there in
      let again : before x x ≡ true = subst (λ (v : X). before x v ≡ true) (sym (heads ∙ same)) after in
      absurd (not_both x x again again))
      (λ (later : Contains ys z). later)
      (cases_Contains y ys z (forth z (Contains-later x xs z there))))
      (λ z there.
      ⊎_elim
      (λ (same : x ≡ z).
      let after : before y z ≡ true = head_ascending Up y ys ys_up z there in
      let again : before y y ≡ true = subst (λ (v : X). before y v ≡ true) (sym (sym heads ∙ same)) after in
      absurd (not_both y y again again))
      (λ (later : Contains xs z). later)
      (cases_Contains x xs z (back z (Contains-later y ys z there)))) in
      cc

  -- ---- an element put in its place

  placed-Contains_cases : (x : X) (ys : List X) (z : X) → Contains (placed before x ys) z → (x ≡ z) ⊎ Contains ys z
  placed-Contains_cases x [] z there = cases_Contains x [] z there
  placed-Contains_cases x (y ∷ ys) z there = by_test (placed-Contains_cases x ys z) (before x y) there
    where
      by_test : (Contains (placed before x ys) z → (x ≡ z) ⊎ Contains ys z)
          → (b : Bool) → Contains (cond b (x ∷ y ∷ ys) (y ∷ placed before x ys)) z → (x ≡ z) ⊎ Contains (y ∷ ys) z
      by_test rest true there = cases_Contains x (y ∷ ys) z there
      by_test rest false there =
          ⊎_elim
          (λ (same : y ≡ z). inr (zero, omega arith, same))
          (λ deeper.
          ⊎_elim
          (λ (same : x ≡ z). inl same)
          (λ later. inr (Contains-later y ys z later))
          (rest deeper))
          (cases_Contains y (placed before x ys) z there)

  placed-Contains_itself : (x : X) (ys : List X) → Contains (placed before x ys) x
  placed-Contains_itself x [] = Contains-first x []
  placed-Contains_itself x (y ∷ ys) = by_test (placed-Contains_itself x ys) (before x y)
    where
      by_test : Contains (placed before x ys) x → (b : Bool) → Contains (cond b (x ∷ y ∷ ys) (y ∷ placed before x ys)) x
      by_test rest true = Contains-first x (y ∷ ys)
      by_test rest false = Contains-later y (placed before x ys) x rest

  placed-Contains_other : (x : X) (ys : List X) (z : X) → Contains ys z → Contains (placed before x ys) z
  placed-Contains_other x [] z there = absurd (none_Contains z there)
  placed-Contains_other x (y ∷ ys) z there = by_test (placed-Contains_other x ys z) (before x y)
    where
      by_test : (Contains ys z → Contains (placed before x ys) z)
          → (b : Bool) → Contains (cond b (x ∷ y ∷ ys) (y ∷ placed before x ys)) z
      by_test rest true = Contains-later x (y ∷ ys) z there
      by_test rest false =
          ⊎_elim
          (λ (same : y ≡ z). (zero, omega arith, same))
          (λ later. Contains-later y (placed before x ys) z (rest later))
          (cases_Contains y ys z there)

  placed-ascending : (x : X) (ys : List X) → All (Comparable before x) ys → AllPairs (λ a b. IsTrue (before a b)) ys
      → AllPairs (λ a b. IsTrue (before a b)) (placed before x ys)
  placed-ascending x [] comparable ascending = cons_ascending x [] (λ k d within. absurd (omega arith)) ascending
  placed-ascending x (y ∷ ys) comparable ascending =
      by_test
      (placed-ascending x ys (All-tail (Comparable before x) y ys comparable) (tail_ascending (λ a b. IsTrue (before a b)) y ys ascending))
      (before x y) refl
    where
      by_test : AllPairs (λ a c. IsTrue (before a c)) (placed before x ys) → (b : Bool) → before x y ≡ b
          → AllPairs (λ a c. IsTrue (before a c)) (cond b (x ∷ y ∷ ys) (y ∷ placed before x ys))
      by_test rest true first = cons_ascending x (y ∷ ys) (before_all x y ys first ascending) ascending
      by_test rest false not_first =
          let Up : X → X → Type 0 = λ a c. IsTrue (before a c) in
          let second : before y x ≡ true =
          ⊎_elim
          (λ (first : before x y ≡ true). absurd (true≢false (sym first ∙ not_first)))
          (λ (second : before y x ≡ true). second)
          (comparable zero y (omega arith)) in
          cons_ascending y (placed before x ys)
          (All-from_Contains (λ z. IsTrue (before y z)) (placed before x ys)
          (λ z there.
          ⊎_elim
          (λ (same : x ≡ z). subst (λ (v : X). before y v ≡ true) same second)
          (λ later. head_ascending Up y ys ascending z later)
          (placed-Contains_cases x ys z there)))
          rest

  -- ---- the part of a list that passes a test, in order

  module _ (test : X → Bool) where
    part-Contains : (xs : List X) (z : X) → Contains (ascending_part before test xs) z → Contains xs z × (test z ≡ true)
    part-Contains [] z there = absurd (none_Contains z there)
    part-Contains (x ∷ xs) z there =
        by_test (λ later. let rest = part-Contains xs z later in (Contains-later x xs z rest.0, rest.1)) (test x) refl there
      where
        by_test : (Contains (ascending_part before test xs) z → Contains (x ∷ xs) z × (test z ≡ true))
            → (b : Bool) → test x ≡ b
            → Contains (cond b (placed before x (ascending_part before test xs)) (ascending_part before test xs)) z
            → Contains (x ∷ xs) z × (test z ≡ true)
        by_test deeper true passes there =
            ⊎_elim
            (λ (same : x ≡ z). ((zero, omega arith, same), ap test (sym same) ∙ passes))
            deeper
            (placed-Contains_cases x (ascending_part before test xs) z there)
        by_test deeper false fails there = deeper there

    part-Contains_back : (xs : List X) (z : X) → Contains xs z → test z ≡ true
        → Contains (ascending_part before test xs) z
    part-Contains_back [] z there passes = absurd (none_Contains z there)
    part-Contains_back (x ∷ xs) z there passes = by_test (λ later. part-Contains_back xs z later passes) (test x) refl
      where
        by_test : (Contains xs z → Contains (ascending_part before test xs) z) → (b : Bool) → test x ≡ b
            → Contains (cond b (placed before x (ascending_part before test xs)) (ascending_part before test xs)) z
        by_test rest true kept =
            ⊎_elim
            (λ (same : x ≡ z).
            subst (λ (v : X). Contains (placed before x (ascending_part before test xs)) v) same
            (placed-Contains_itself x (ascending_part before test xs)))
            (λ later. placed-Contains_other x (ascending_part before test xs) z (rest later))
            (cases_Contains x xs z there)
        by_test rest false dropped =
            ⊎_elim
            (λ (same : x ≡ z). absurd (true≢false (sym passes ∙ ap test (sym same) ∙ dropped)))
            rest
            (cases_Contains x xs z there)

    part-ascending : (xs : List X) → AllPairs (Comparable before) xs
        → AllPairs (λ a b. IsTrue (before a b)) (ascending_part before test xs)
    part-ascending [] comparable = λ i j d less within. absurd (omega arith)
    part-ascending (x ∷ xs) comparable =
        by_test (part-ascending xs (tail_ascending (Comparable before) x xs comparable)) (test x)
      where
        by_test : AllPairs (λ a c. IsTrue (before a c)) (ascending_part before test xs) → (b : Bool)
            → AllPairs (λ a c. IsTrue (before a c)) (cond b (placed before x (ascending_part before test xs)) (ascending_part before test xs))
        by_test rest true =
            placed-ascending x (ascending_part before test xs)
            (All-from_Contains (Comparable before x) (ascending_part before test xs)
            (λ z there. head_ascending (Comparable before) x xs comparable z (part-Contains xs z there).0))
            rest
        by_test rest false = rest

    -- the function gives such a part
    pub IsAscendingPart-ascending_part : (xs : List X) → AllPairs (Comparable before) xs
        → IsAscendingPart before test xs (ascending_part before test xs)
    IsAscendingPart-ascending_part xs comparable = record {
      exactly = λ z. (part-Contains xs z, λ both. part-Contains_back xs z both.0 both.1);
      ascending = part-ascending xs comparable;
    }

    -- there is one such part at most
    pub IsAscendingPart-only : (xs first second : List X) → IsAscendingPart before test xs first
        → IsAscendingPart before test xs second → first ≡ second
    IsAscendingPart-only xs first second one other =
        one_list first second one.ascending other.ascending
        (λ z there. (other.exactly z).1 ((one.exactly z).0 there))
        (λ z there. (one.exactly z).1 ((other.exactly z).0 there))

    -- a sort of what passes gives such a part
    pub IsAscendingPart-from_sort : (xs ys : List X) → AllPairs (Comparable before) xs
        → IsPermutation (filter test xs) ys
        → IsSortedBy before ys → IsAscendingPart before test xs ys
    IsAscendingPart-from_sort xs ys comparable moved sorted =
        let kept : AllPairs (Comparable before) ys =
        comparable-permutation before (filter test xs) ys (AllPairs-filter (Comparable before) test xs comparable) moved in
        record {
          exactly = λ z. (
            λ there. (filter-Contains test xs z).0
                (Contains-permutation ys (filter test xs) z (IsPermutation-sym (filter test xs) ys moved) there),
            λ both. Contains-permutation (filter test xs) ys z moved ((filter-Contains test xs z).1 both),
          );
          ascending = λ i j d less within.
              ⊎_elim
              (λ (forth : before (get_or ys i d) (get_or ys j d) ≡ true). forth)
              (λ (back : before (get_or ys j d) (get_or ys i d) ≡ true).
              absurd (true≢false (sym back ∙ sorted_far before order ys sorted i j d (omega arith) within)))
              (kept i j d less within);
        }
