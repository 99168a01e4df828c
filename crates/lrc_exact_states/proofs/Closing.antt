-- A node closes an interval in two runs: one level more.
use Rattle.std.proofs.Common.{◌≡◌, ℕ, zero, suc, ◌+◌, ◌<◌, ◌≤◌, ◌&&◌, Bool, true, false, List, [], ◌∷◌, length, inl, inr, refl, sym, subst, ap, ap₂, ◌∙◌, arith}
use Rattle.std.specs.Prelude.{◌==◌, ◌-◌, ◌⊎◌, Option, Some, None, if◌then◌else◌}
use Rattle.std.proofs.lemmas.Bool.{cases_Bool, cases_eq, cond-true, cond-false, and_parts, eq-eqb, eqb-true, ne_eqb}
use Rattle.std.proofs.lemmas.List.{length-set}
use Rattle.lrc_time.specs.Time.{entry, weight_of}
use Rattle.lrc_time.proofs.Times.{entry-set_other, entry-set_same, weight-first}
use Rattle.lrc_clock.specs.Times.{raised}
use Rattle.lrc_exact.specs.Memory.{Interval, Rank}
use Rattle.lrc_exact.specs.Rule.{Knowledge, State, change_of, closed, open_interval}
use Rattle.lrc_exact_states.specs.Levels.{AreChangesAlike, AreLevels, AreRising, Change, IsCapped, exact, IsWeightAlike, last_change, newest, no_change, one_change, Levels, Table}
use Rattle.lrc_exact_states.specs.Alike.{IsKnowledgeAlike, IsMarkOf, IsOfTable, IsStateAlike}
use Rattle.lrc_exact_states.proofs.Levels.{capped-is, capped-refl, capped-sum, last-agree, last-none, last-one, rising-agree}

-- ---- weights

weights_capped : (cap : ℕ) (f g t u : List ℕ) → length f ≡ length t → length g ≡ length t → length u ≡ length t
    → ((q : ℕ) → q < length t → (entry f q ≤ entry t q) × (entry g q ≤ entry u q) × IsCapped cap (entry t q - entry f q) (entry u q - entry g q))
    → (weight_of f ≤ weight_of t) × (weight_of g ≤ weight_of u) × IsCapped cap (weight_of t - weight_of f) (weight_of u - weight_of g)
weights_capped cap [] [] [] [] a b c each = (omega arith, omega arith, exact refl)
weights_capped cap (f ∷ fs) (g ∷ gs) (t ∷ ts) (u ∷ us) a b c each =
    let (x, y, z) = weights_capped cap fs gs ts us (omega (arith, a)) (omega (arith, b)) (omega (arith, c)) (λ q lt. each (suc q) (omega (arith, lt))) in
    let (p, r, s) = each zero (omega arith) in
    let wf = weight-first f fs in
    let wg = weight-first g gs in
    let wt = weight-first t ts in
    let wu = weight-first u us in (
      omega (arith, x, p, wf, wt),
      omega (arith, y, r, wg, wu),
      capped-is (weight_of (t ∷ ts) - weight_of (f ∷ fs)) (weight_of (u ∷ us) - weight_of (g ∷ gs)) (omega (arith, x, p, wf, wt)) (omega (arith, y, r, wg, wu))
          (capped-sum s z),
    )
weights_capped cap [] (g ∷ gs) t u a b c each = absurd (omega (arith, a, b))
weights_capped cap (f ∷ fs) [] t u a b c each = absurd (omega (arith, a, b))
weights_capped cap [] [] (t ∷ ts) u a b c each = absurd (omega (arith, a))
weights_capped cap [] [] [] (u ∷ us) a b c each = absurd (omega (arith, c))
weights_capped cap (f ∷ fs) (g ∷ gs) [] u a b c each = absurd (omega (arith, a))
weights_capped cap (f ∷ fs) (g ∷ gs) (t ∷ ts) [] a b c each = absurd (omega (arith, c))

-- ---- a table with one interval more

abbrev pub with_made : ℕ → ℕ → Interval → Table → Table
with_made node index interval made q j = if q == node && j == suc index then interval else made q j

module _ (node index : ℕ) (interval : Interval) (made : Table) where
  pub made_old : (q j : ℕ) → (q ≡ node → j ≤ index) → with_made node index interval made q j ≡ made q j
  made_old q j old = cond-false (q == node && j == suc index) interval (made q j) (other (cases_eq q node))
    where
      other : (q ≡ node) ⊎ (q ≡ node → ⊥) → (q == node && j == suc index) ≡ false
      other (inr apart) = ap (λ b. b && j == suc index) (ne_eqb q node apart)
      other (inl same) = let le = old same in second (q == node) (j == suc index) (ne_eqb j (suc index) (λ e. omega (arith, le, e)))
        where
          second : (a b : Bool) → b ≡ false → (a && b) ≡ false
          second true b e = e
          second false b e = refl

  pub made_new : (j : ℕ) → j ≡ suc index → with_made node index interval made node j ≡ interval
  made_new j is = cond-true (node == node && j == suc index) interval (made node j) (ap₂ (λ a b. a && b) (eq-eqb node node refl) (eq-eqb j (suc index) is))

-- ---- one level more

-- levels, and the next of a node
abbrev pub with_level : ℕ → ℕ → ℕ → Levels → Levels
with_level node index index' level q b b' = level q b b' ⊎ ((q ≡ node) × (b ≡ suc index) × (b' ≡ suc index'))

module _ (nodes cap : ℕ) (floor floor' : List ℕ) (wide : length floor ≡ nodes) (wide' : length floor' ≡ nodes) (made made' : Table) (level : Levels)
    (levels : AreLevels cap floor floor' made made' level) where
  abbrev StatesAlike : State → State → Type 0
  StatesAlike s s' = IsStateAlike nodes cap floor floor' made made' level s s'

  weights : (state state' : State) → StatesAlike state state'
      → (weight_of floor ≤ weight_of state.knows.time) × (weight_of floor' ≤ weight_of state'.knows.time)
      × IsCapped cap (weight_of state.knows.time - weight_of floor) (weight_of state'.knows.time - weight_of floor')
  weights state state' s =
      weights_capped cap floor floor' state.knows.time state'.knows.time (wide ∙ sym s.knows.wide) (wide' ∙ sym s.knows.wide) (s.knows.wide' ∙ sym s.knows.wide)
      (λ q lt.
      let size = s.knows.wide in
      let at = s.knows.at q (omega (arith, lt, size)) in
      let (x, y) = levels.above q (entry state.knows.time q) (entry state'.knows.time q) at in
      (x, y, levels.counted q (entry state.knows.time q) (entry state'.knows.time q) at))

  pub open_weights : (state state' : State) → StatesAlike state state'
      → IsWeightAlike cap floor floor' (open_interval state).weight (open_interval state').weight
  open_weights state state' s =
      let (x, y, z) = weights state state' s in
      record {
        above = omega (arith, x);
        above' = omega (arith, y);
        capped = capped-is ((open_interval state).weight - weight_of floor) ((open_interval state').weight - weight_of floor') (omega (arith, x)) (omega (arith, y))
            (capped-sum z (capped-refl cap 1));
      }

  module _ (node : ℕ) (state state' : State) (s : StatesAlike state state') (lt : node < nodes)
      (most : (b b' : ℕ) → level node b b' → (b ≤ entry state.knows.time node) × (b' ≤ entry state'.knows.time node))
      (light : (j : ℕ) → 1 ≤ j → j ≤ entry state.knows.time node → (made node j).weight ≤ weight_of state.knows.time)
      (light' : (j : ℕ) → 1 ≤ j → j ≤ entry state'.knows.time node → (made' node j).weight ≤ weight_of state'.knows.time) where
    abbrev time : List ℕ
    time = state.knows.time

    abbrev time' : List ℕ
    time' = state'.knows.time

    abbrev a : ℕ
    a = entry time node

    abbrev a' : ℕ
    a' = entry time' node

    abbrev pub grown : Table
    grown = with_made node a (open_interval state) made

    abbrev pub grown' : Table
    grown' = with_made node a' (open_interval state') made'

    abbrev pub more : Levels
    more = with_level node a a' level

    at_own : level node a a'
    at_own = s.knows.at node lt

    below : (q b b' : ℕ) → level q b b' → q ≡ node → (b ≤ a) × (b' ≤ a')
    below q b b' x own = most b b' (subst (λ k. level k b b') own x)

    old : (q j b b' : ℕ) → level q b b' → j ≤ b → grown q j ≡ made q j
    old q j b b' x le = made_old node a (open_interval state) made q j (λ own. let (m, m') = below q b b' x own in omega (arith, m, le))

    old' : (q j b b' : ℕ) → level q b b' → j ≤ b' → grown' q j ≡ made' q j
    old' q j b b' x le = made_old node a' (open_interval state') made' q j (λ own. let (m, m') = below q b b' x own in omega (arith, m', le))

    -- the changes of the new interval
    open_changes : (word : ℕ) (o o' : Option Change) → AreChangesAlike cap floor floor' o o'
        → AreChangesAlike cap floor floor' (newest ((open_interval state).changed word) (open_interval state).weight o)
        (newest ((open_interval state').changed word) (open_interval state').weight o')
    open_changes word o o' alike =
        go ((open_interval state).changed word) ((open_interval state').changed word)
        (ap₂ (λ b v. change_of b v) (s.before word) (s.words word).value)
      where
        go : (c c' : Option ℕ) → c' ≡ c
            → AreChangesAlike cap floor floor' (newest c (open_interval state).weight o) (newest c' (open_interval state').weight o')
        go None None e = alike
        go (Some v) (Some v') e = one_change (let same : v' ≡ v = cc in same) (open_weights state state' s)
        go None (Some v') e = let never : ⊥ = cc in absurd never
        go (Some v) None e = let never : ⊥ = cc in absurd never

    -- up to it
    changes_new : (word b b' : ℕ) → level node b b'
        → AreChangesAlike cap floor floor' (last_change (grown node) word b (suc a)) (last_change (grown' node) word b' (suc a'))
    changes_new word b b' x =
        let (le, le') = most b b' x in
        let mine : last_change (grown node) word b (suc a) ≡ newest ((open_interval state).changed word) (open_interval state).weight (last_change (made node) word b a) =
        last-one (grown node) word b a le
        ∙ ap (λ (i : Interval). newest (i.changed word) i.weight (last_change (grown node) word b a)) (made_new node a (open_interval state) made (suc a) refl)
        ∙ ap (newest ((open_interval state).changed word) (open_interval state).weight)
        (last-agree (grown node) word b (made node) a (λ i less. old node (suc i) a a' at_own (omega (arith, less)))) in
        let yours : last_change (grown' node) word b' (suc a') ≡ newest ((open_interval state').changed word) (open_interval state').weight (last_change (made' node) word b' a') =
        last-one (grown' node) word b' a' le'
        ∙ ap (λ (i : Interval). newest (i.changed word) i.weight (last_change (grown' node) word b' a')) (made_new node a' (open_interval state') made' (suc a') refl)
        ∙ ap (newest ((open_interval state').changed word) (open_interval state').weight)
        (last-agree (grown' node) word b' (made' node) a' (λ i less. old' node (suc i) a a' at_own (omega (arith, less)))) in
        subst (λ (o : Option Change). AreChangesAlike cap floor floor' o (last_change (grown' node) word b' (suc a'))) (sym mine)
        (subst (λ (o : Option Change). AreChangesAlike cap floor floor' (newest ((open_interval state).changed word) (open_interval state).weight (last_change (made node) word b a)) o)
        (sym yours)
        (open_changes word (last_change (made node) word b a) (last_change (made' node) word b' a') (levels.changes node word b b' a a' x at_own le)))

    changes_more : (q word b b' c c' : ℕ) → more q b b' → more q c c' → b ≤ c
        → AreChangesAlike cap floor floor' (last_change (grown q) word b c) (last_change (grown' q) word b' c')
    changes_more q word b b' c c' (inl x) (inl y) le =
        subst (λ (o : Option Change). AreChangesAlike cap floor floor' o (last_change (grown' q) word b' c'))
        (sym (last-agree (grown q) word b (made q) c (λ i less. old q (suc i) c c' y (omega (arith, less)))))
        (subst (λ (o : Option Change). AreChangesAlike cap floor floor' (last_change (made q) word b c) o)
        (sym (last-agree (grown' q) word b' (made' q) c' (λ i less. old' q (suc i) c c' y (omega (arith, less)))))
        (levels.changes q word b b' c c' x y le))
    changes_more q word b b' c c' (inl x) (inr (own, is, is')) le =
        subst (λ k. AreChangesAlike cap floor floor' (last_change (grown k) word b c) (last_change (grown' k) word b' c')) (sym own)
        (subst (λ k. AreChangesAlike cap floor floor' (last_change (grown node) word b k) (last_change (grown' node) word b' c')) (sym is)
        (subst (λ k. AreChangesAlike cap floor floor' (last_change (grown node) word b (suc a)) (last_change (grown' node) word b' k)) (sym is')
        (changes_new word b b' (subst (λ k. level k b b') own x))))
    changes_more q word b b' c c' (inr (own, is, is')) (inl y) le =
        let (m, m') = below q c c' y own in absurd (omega (arith, m, is, le))
    changes_more q word b b' c c' (inr (own, is, is')) (inr (own2, same, same')) le =
        subst (λ (o : Option Change). AreChangesAlike cap floor floor' o (last_change (grown' q) word b' c'))
        (sym (last-none (grown q) word b c (omega (arith, is, same))))
        (subst (λ (o : Option Change). AreChangesAlike cap floor floor' None o) (sym (last-none (grown' q) word b' c' (omega (arith, is', same')))) no_change)

    order_more : (q b b' c c' : ℕ) → more q b b' → more q c c' → b ≤ c → b' ≤ c'
    order_more q b b' c c' (inl x) (inl y) le = levels.order q b b' c c' x y le
    order_more q b b' c c' (inl x) (inr (own, is, is')) le = let (m, m') = below q b b' x own in omega (arith, m', is')
    order_more q b b' c c' (inr (own, is, is')) (inl y) le = let (m, m') = below q c c' y own in absurd (omega (arith, m, is, le))
    order_more q b b' c c' (inr (own, is, is')) (inr (own2, same, same')) le = omega (arith, is', same')

    order_more' : (q b b' c c' : ℕ) → more q b b' → more q c c' → b' ≤ c' → b ≤ c
    order_more' q b b' c c' (inl x) (inl y) le = levels.order' q b b' c c' x y le
    order_more' q b b' c c' (inl x) (inr (own, is, is')) le = let (m, m') = below q b b' x own in omega (arith, m, is)
    order_more' q b b' c c' (inr (own, is, is')) (inl y) le = let (m, m') = below q c c' y own in absurd (omega (arith, m', is', le))
    order_more' q b b' c c' (inr (own, is, is')) (inr (own2, same, same')) le = omega (arith, is, same)

    rising_new : (made_ : Table) (index w : ℕ) (interval : Interval) → interval.weight ≡ w + 1 → AreRising (made_ node) index
        → ((j : ℕ) → 1 ≤ j → j ≤ index → (made_ node j).weight ≤ w) → AreRising (with_made node index interval made_ node) (suc index)
    rising_new made_ index w interval heavy rising low i j some less le = elim (cases_eq j (suc index)) [
      | inl last ↦
          let one = ap (λ (k : Interval). k.weight) (made_new node index interval made_ j last) in
          let other = ap (λ (k : Interval). k.weight) (made_old node index interval made_ node i (λ e. omega (arith, less, last))) in
          let l = low i some (omega (arith, less, last)) in
          omega (arith, one, other, l, heavy)
      | inr before ↦
          let one = ap (λ (k : Interval). k.weight) (made_old node index interval made_ node j (λ e. omega (arith, le, before))) in
          let other = ap (λ (k : Interval). k.weight) (made_old node index interval made_ node i (λ e. omega (arith, less, le, before))) in
          let r = rising i j some less (omega (arith, le, before)) in
          omega (arith, one, other, r)
    ]

    rising_more : (q b b' : ℕ) → more q b b' → AreRising (grown q) b × AreRising (grown' q) b'
    rising_more q b b' (inl x) = (
      rising-agree (made q) (grown q) b (λ i some le. sym (old q i b b' x le)) (levels.rising q b b' x).0,
      rising-agree (made' q) (grown' q) b' (λ i some le. sym (old' q i b b' x le)) (levels.rising q b b' x).1,
    )
    rising_more q b b' (inr (own, is, is')) = (
      subst (λ k. AreRising (grown k) b) (sym own)
          (subst (λ k. AreRising (grown node) k) (sym is) (rising_new made a (weight_of time) (open_interval state) refl (levels.rising node a a' at_own).0 light)),
      subst (λ k. AreRising (grown' k) b') (sym own)
          (subst (λ k. AreRising (grown' node) k) (sym is') (rising_new made' a' (weight_of time') (open_interval state') refl (levels.rising node a a' at_own).1 light')),
    )

    above_more : (q b b' : ℕ) → more q b b' → (entry floor q ≤ b) × (entry floor' q ≤ b')
    above_more q b b' (inl x) = levels.above q b b' x
    above_more q b b' (inr (own, is, is')) =
        let (x, y) = levels.above node a a' at_own in
        let f = ap (entry floor) own in
        let f' = ap (entry floor') own in
        (omega (arith, x, is, f), omega (arith, y, is', f'))

    counted_more : (q b b' : ℕ) → more q b b' → IsCapped cap (b - entry floor q) (b' - entry floor' q)
    counted_more q b b' (inl x) = levels.counted q b b' x
    counted_more q b b' (inr (own, is, is')) =
        let (x, y) = levels.above node a a' at_own in
        let f = ap (entry floor) own in
        let f' = ap (entry floor') own in
        capped-is (b - entry floor q) (b' - entry floor' q) (omega (arith, x, is, f)) (omega (arith, y, is', f'))
        (capped-sum (levels.counted node a a' at_own) (capped-refl cap 1))

    pub levels_more : AreLevels cap floor floor' grown grown' more
    levels_more = record {
      above = above_more;
      counted = counted_more;
      order = order_more;
      order' = order_more';
      changes = changes_more;
      rising = rising_more;
    }

    -- what was known stays alike
    pub knows_still : (k k' : Knowledge) → IsKnowledgeAlike nodes made made' level k k' → IsKnowledgeAlike nodes grown grown' more k k'
    knows_still k k' x = record {
      wide = x.wide;
      wide' = x.wide';
      at = λ q less. inl (x.at q less);
      made_here = λ q j less some le. x.made_here q j less some le ∙ sym (old q j (entry k.time q) (entry k'.time q) (x.at q less) le);
      made_here' = λ q j less some le. x.made_here' q j less some le ∙ sym (old' q j (entry k.time q) (entry k'.time q) (x.at q less) le);
    }

    mark_still : (index : ℕ) (interval : Interval) (t : Table) (known : List ℕ) → entry known node ≤ index → (mark : Option Rank) → IsMarkOf t known mark
        → IsMarkOf (with_made node index interval t) known mark
    mark_still index interval t known le None m = tt
    mark_still index interval t known le (Some mark) (i, some, known_i, weighs) = (
      i,
      some,
      known_i,
      weighs ∙ ap (λ (k : Interval). k.weight)
          (sym (made_old node index interval t mark.node i (λ own. let same = ap (entry known) own in omega (arith, known_i, same, le)))),
    )

    pub state_still : (t t' : State) → StatesAlike t t' → IsStateAlike nodes cap floor floor' grown grown' more t t'
    state_still t t' x =
        let (m, m') = most (entry t.knows.time node) (entry t'.knows.time node) (x.knows.at node lt) in
        record {
          words = x.words;
          before = x.before;
          knows = knows_still t.knows t'.knows x.knows;
          marks = λ word. mark_still a (open_interval state) made t.knows.time m (t.words word).mark (x.marks word);
          marks' = λ word. mark_still a' (open_interval state') made' t'.knows.time m' (t'.words word).mark (x.marks' word);
        }

    -- ---- the state of the node

    entry_own : (t : List ℕ) → length t ≡ nodes → entry (raised t node) node ≡ suc (entry t node)
    entry_own t size = let e = entry-set_same t node (entry t node + 1) (omega (arith, size, lt)) in omega (arith, e)

    entry_other : (t : List ℕ) (q : ℕ) → (q ≡ node → ⊥) → entry (raised t node) q ≡ entry t q
    entry_other t q apart = entry-set_other t node (entry t node + 1) q apart

    at_more : (q : ℕ) → q < nodes → more q (entry (raised time node) q) (entry (raised time' node) q)
    at_more q less = elim (cases_eq q node) [
      | inl own ↦ inr (own, ap (entry (raised time node)) own ∙ entry_own time s.knows.wide, ap (entry (raised time' node)) own ∙ entry_own time' s.knows.wide')
      | inr apart ↦
          inl (subst (λ k. level q k (entry (raised time' node) q)) (sym (entry_other time q apart))
          (subst (λ k. level q (entry time q) k) (sym (entry_other time' q apart)) (s.knows.at q less)))
    ]

    table_closed : (t : Table) (x : State) → length x.knows.time ≡ nodes → IsOfTable nodes t x.knows
        → IsOfTable nodes (with_made node (entry x.knows.time node) (open_interval x) t) (closed node x).knows
    table_closed t x size is q j less some le = elim (cases_Bool (q == node && j == entry x.knows.time node + 1)) [
      | inl here ↦
          let (own, last) = and_parts (q == node) (j == entry x.knows.time node + 1) here in
          let own' = eqb-true q node own in
          let last' : j ≡ entry x.knows.time node + 1 = eqb-true j (entry x.knows.time node + 1) last in
          cond-true (q == node && j == entry x.knows.time node + 1) (open_interval x) (x.knows.interval q j) here
          ∙ sym (made_new node (entry x.knows.time node) (open_interval x) t j (omega (arith, last')))
          ∙ ap (λ k. with_made node (entry x.knows.time node) (open_interval x) t k j) (sym own')
      | inr there ↦
          cond-false (q == node && j == entry x.knows.time node + 1) (open_interval x) (x.knows.interval q j) there
          ∙ is q j less some (known there)
          ∙ sym (made_old node (entry x.knows.time node) (open_interval x) t q j
          (λ own. let k = known there in let same = ap (entry x.knows.time) own in omega (arith, k, same)))
    ]
      where
        known : (q == node && j == entry x.knows.time node + 1) ≡ false → j ≤ entry x.knows.time q
        known there = elim (cases_eq q node) [
          | inr apart ↦ let e = entry_other x.knows.time q apart in omega (arith, e, le)
          | inl own ↦
              let e = ap (entry (raised x.knows.time node)) own ∙ entry_own x.knows.time size in
              let same = ap (entry x.knows.time) own in
              elim (cases_eq j (entry x.knows.time node + 1)) [
                | inr before ↦ omega (arith, e, le, before, same)
                | inl last ↦
                    let yes : (q == node && j == entry x.knows.time node + 1) ≡ true =
                    ap₂ (λ p r. p && r) (eq-eqb q node own) (eq-eqb j (entry x.knows.time node + 1) last) in
                    let never : true ≡ false = sym yes ∙ there in
                    let impossible : ⊥ = cc in
                    absurd impossible
              ]
        ]

    mark_more : (t : List ℕ) (table : Table) (mark : Option Rank) → length t ≡ nodes → IsMarkOf table t mark → IsMarkOf table (raised t node) mark
    mark_more t table None size m = tt
    mark_more t table (Some mark) size (i, some, known, weighs) = (i, some, rises (cases_eq mark.node node), weighs)
      where
        rises : (mark.node ≡ node) ⊎ (mark.node ≡ node → ⊥) → i ≤ entry (raised t node) mark.node
        rises (inl own) =
            let e = ap (entry (raised t node)) own ∙ entry_own t size in
            let same = ap (entry t) own in
            omega (arith, e, same, known)
        rises (inr apart) = let e = entry_other t mark.node apart in omega (arith, e, known)

    pub closed_alike : IsStateAlike nodes cap floor floor' grown grown' more (closed node state) (closed node state')
    closed_alike = record {
      words = s.words;
      before = λ word. refl;
      knows = record {
        wide = length-set time node (entry time node + 1) ∙ s.knows.wide;
        wide' = length-set time' node (entry time' node + 1) ∙ s.knows.wide';
        at = at_more;
        made_here = table_closed made state s.knows.wide s.knows.made_here;
        made_here' = table_closed made' state' s.knows.wide' s.knows.made_here';
      };
      marks = λ word.
          mark_more time grown (state.words word).mark s.knows.wide
          (mark_still a (open_interval state) made time (omega arith) (state.words word).mark (s.marks word));
      marks' = λ word.
          mark_more time' grown' (state'.words word).mark s.knows.wide'
          (mark_still a' (open_interval state') made' time' (omega arith) (state'.words word).mark (s.marks' word));
    }
