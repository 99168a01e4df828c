-- The acts of a node that close an interval: those that are known at an act stand first.
use Rattle.std.proofs.Common.{◌≡◌, ◌∙◌, ◌<◌, ◌≤◌, ◌+◌, ◌&&◌, ◌||◌, ◌==◌, ◌∷◌, ◌++◌, [], ℕ, zero, suc, List, Bool, true, false, cond, ap, append-nil, arith, eqb-true, get_or, inl, inr, length, map, refl, subst, sym, take}
use Rattle.std.specs.Prelude.{count_by, nat_lt, slice_get}
use Rattle.std.specs.List.{All, flat_map, range_with_len}
use Rattle.std.specs.List.Sorted.{IsPartitionPoint, IsPartitionedBy}
use Rattle.std.proofs.Math.Bool.{or-true}
use Rattle.std.proofs.Math.ListN.{get_or-append}
use Rattle.std.proofs.Math.Seq.{get_or-append_seam}
use Rattle.std.proofs.lemmas.Bool.{and_parts, cases_eq, cases_lt, le-ltb, ne_eqb}
use Rattle.std.proofs.lemmas.List.{get_or-map, length-append, length-map, take_all}
use Rattle.std.proofs.lemmas.List.Elements.{All-push}
use Rattle.std.proofs.lemmas.List.Sums.{count_by_more_no, count_by_more_yes, sum_by-append}
use Rattle.lrc_trace.specs.declared.act.Act.{Act}
use Rattle.lrc_trace.specs.Interval.{closes}
use Rattle.lrc_trace.specs.Order.{HappensBefore, base, program}
use Rattle.lrc_trace.specs.Run.{Does}
use Rattle.lrc_trace.proofs.HappensBefore.{transitive}
use Rattle.lrc_trace.proofs.Positions.{Does-node, Does-read}
use Rattle.lrc_judge.specs.Order.{IsOrderOf, is_before, is_reached}
use Rattle.lrc_judge.specs.declared.order.Order.{Order}
use Rattle.lrc_text.proofs.Each.{each_more}
use Rattle.lrc_acts_text.specs.Acts.{act_at}
use Rattle.lrc_chart_acts.proofs.Tables.{no_act}
use Rattle.lrc_chart_acts.specs.Times.{all_closings, closing_at, closings, count_closed, is_closed, is_known}

-- ---- those that pass stand first

-- positions of the node's acts below n, of which those that pass stand first
record AreParted (acts : List Act) (node : ℕ) (p : ℕ → Bool) (n : ℕ) (l : List ℕ) : Type 0 where
  of : All (λ k. (k < n) × ((get_or acts k no_act).node ≡ node)) l
  parted : IsPartitionedBy p l

module _ (acts : List Act) (node : ℕ) (p : ℕ → Bool)
    (down : (k m : ℕ) → k < m → m < length acts → (get_or acts k no_act).node ≡ node → (get_or acts m no_act).node ≡ node → p m ≡ true → p k ≡ true) where
  step : (n : ℕ) (l : List ℕ) → n < length acts → AreParted acts node p n l → (b : Bool) → (b ≡ true → (get_or acts n no_act).node ≡ node)
      → AreParted acts node p (n + 1) (l ++ cond b (n ∷ []) [])
  step n l lt before false is =
      subst (AreParted acts node p (n + 1)) (sym (append-nil l)) (record {
        of = λ k d inside. let (low, on) = before.of k d inside in (omega (arith, low), on);
        parted = before.parted;
      })
  step n l lt before true is =
      let all : List ℕ = l ++ n ∷ [] in
      let many : length all ≡ length l + 1 = length-append l (n ∷ []) in
      record {
        of = All-push (λ k. (k < n + 1) × ((get_or acts k no_act).node ≡ node)) l n
            (λ k d inside. let (low, on) = before.of k d inside in (omega (arith, low), on)) (omega arith, is refl);
        parted = λ i j d le inside holds.
            let last : (m : ℕ) → m ≡ length l → get_or all m d ≡ n = λ m at. ap (λ k. get_or all k d) at ∙ get_or-append_seam l n [] d in
            elim (cases_lt j (length l)) [
              | inl low ↦
                  ap p (get_or-append l (n ∷ []) d i (omega (arith, le, low)))
                  ∙ before.parted i j d le low (ap p (sym (get_or-append l (n ∷ []) d j low)) ∙ holds)
              | inr high ↦
                  let at_j : j ≡ length l = omega (arith, many, inside, high) in
                  elim (cases_lt i (length l)) [
                    | inl low ↦
                        let (m_lt, m_on) = before.of i d low in
                        ap p (get_or-append l (n ∷ []) d i low) ∙ down (get_or l i d) n m_lt lt m_on (is refl) (ap p (sym (last j at_j)) ∙ holds)
                    | inr past ↦ let same : i ≡ j = omega (arith, at_j, le, past) in ap (λ k. p (get_or all k d)) same ∙ holds
                  ]
            ];
      }

  below : (n : ℕ) → n ≤ length acts → AreParted acts node p n (closings (take n acts) node)
  below zero le = record { of = λ k d inside. absurd (omega (arith, inside)); parted = λ i j d low inside holds. absurd (omega (arith, inside)) }
  below (suc n) le =
      let lt : n < length acts = omega (arith, le) in
      let next : n + 1 ≡ suc n = omega arith in
      let act = get_or acts n no_act in
      subst (λ m. AreParted acts node p m (closings (take m acts) node)) next
      (subst (AreParted acts node p (n + 1)) (sym (each_more (closing_at node) acts n no_act lt))
      (step n (closings (take n acts) node) lt (below n (omega (arith, le))) ((act.node == node) && closes act.deed)
      (λ is. eqb-true act.node node (and_parts (act.node == node) (closes act.deed) is).0)))

  pub closings_parted : IsPartitionedBy p (closings acts node)
  closings_parted =
      subst (λ l. IsPartitionedBy p (closings l node)) (take_all (length acts) acts (omega arith)) (below (length acts) (omega arith)).parted

-- ---- what is known at an act is known with what its node did before

module _ (acts : List Act) (order : Order) (is_order : IsOrderOf acts order) (position : ℕ) where
  pub known_down : (node k m : ℕ) → k < m → m < length acts → (get_or acts k no_act).node ≡ node → (get_or acts m no_act).node ≡ node
      → is_known order position m ≡ true → is_known order position k ≡ true
  known_down node k m lt inside k_on m_on known =
      let k_in : k < length acts = omega (arith, lt, inside) in
      let first : HappensBefore acts k m =
      base (program lt (Does-node k_on (Does-read acts k no_act k_in)) (Does-node m_on (Does-read acts m no_act inside))) in
      by (m == position) (is_before order m position) refl refl known first
    where
      shown : HappensBefore acts k position → is_known order position k ≡ true
      shown h = ap (λ b. (k == position) || b) ((is_order k position).1 h) ∙ or-true (k == position)

      by : (a b : Bool) → (m == position) ≡ a → is_before order m position ≡ b → (a || b) ≡ true → HappensBefore acts k m → is_known order position k ≡ true
      by true b at b_is whole first = shown (subst (HappensBefore acts k) (eqb-true m position at) first)
      by false true at b_is whole first = shown (transitive first ((is_order m position).0 b_is))
      by false false at b_is whole first = absurd cc

-- ---- counts

one : (a b c : Bool) (p : ℕ → Bool) (n : ℕ) → p n ≡ c → cond (a && (b && c)) 1 0 ≡ count_by p (cond (a && b) (n ∷ []) [])
one true true true p n is = rw is refl
one true true false p n is = rw is refl
one true false c p n is = refl
one false b c p n is = refl

none : (a b c d r : Bool) → c ≡ false → d ≡ false → (a && (b && (c || (d && r)))) ≡ false
none true true c d r c_is d_is = rw (c_is, d_is) refl
none true false c d r c_is d_is = refl
none false b c d r c_is d_is = refl

module _ (acts : List Act) (order : Order) (position node : ℕ) where
  abbrev known : ℕ → Bool
  known = is_known order position

  counted : (n : ℕ) → n ≤ length acts → count_closed order acts position node n ≡ count_by known (closings (take n acts) node)
  counted zero le = refl
  counted (suc n) le =
      let lt : n < length acts = omega (arith, le) in
      let next : n + 1 ≡ suc n = omega arith in
      let act = get_or acts n no_act in
      let before = closings (take n acts) node in
      let here : cond (is_closed order acts position node n) 1 0 ≡ count_by known (closing_at node n act) =
      one (act.node == node) (closes act.deed) (known n) known n refl in
      let more : closings (take (suc n) acts) node ≡ before ++ closing_at node n act =
      ap (λ m. closings (take m acts) node) (sym next) ∙ each_more (closing_at node) acts n no_act lt in
      let sums : count_by known (before ++ closing_at node n act) ≡ count_by known before + count_by known (closing_at node n act) =
      sum_by-append (λ k. cond (known k) 1 0) before (closing_at node n act) in
      let lower : count_closed order acts position node n ≡ count_by known before = counted n (omega (arith, le)) in
      ap (λ m. m + count_closed order acts position node n) here ∙ ap (λ m. count_by known (closing_at node n act) + m) lower
      ∙ swapped (count_by known (closing_at node n act)) (count_by known before) ∙ sym sums ∙ ap (count_by known) (sym more)
    where
      swapped : (a b : ℕ) → a + b ≡ b + a
      swapped a b = omega arith

  alone : (m : ℕ) → 0 + m ≡ m
  alone m = omega arith

  -- no act behind the position is known there
  later : (n : ℕ) → position < n → count_closed order acts position node n ≡ count_closed order acts position node (position + 1)
  later zero lt = absurd (omega (arith, lt))
  later (suc n) lt =
      elim (cases_eq n position) [
        | inl same ↦ let at : suc n ≡ position + 1 = omega (arith, same) in ap (count_closed order acts position node) at
        | inr other ↦
            let more : position < n = omega (arith, lt, other) in
            let off : (n == position) ≡ false = ne_eqb n position other in
            let late : nat_lt n position ≡ false = le-ltb n position (omega (arith, more)) in
            let no : is_closed order acts position node n ≡ false =
            none ((act_at acts n).node == node) (closes (act_at acts n).deed) (n == position) (nat_lt n position)
            (is_reached n (slice_get order.rows.items n) (slice_get order.rows.items position)) off late in
            ap (λ b. cond b 1 0 + count_closed order acts position node n) no ∙ alone (count_closed order acts position node n) ∙ later n more
      ]

  pub closed_known : position < length acts → count_closed order acts position node (position + 1) ≡ count_by known (closings acts node)
  closed_known inside =
      sym (later (length acts) inside) ∙ counted (length acts) (omega arith)
      ∙ ap (λ l. count_by known (closings l node)) (take_all (length acts) acts (omega arith))

  pub closed_few : (n : ℕ) → count_closed order acts position node n ≤ n
  closed_few zero = omega arith
  closed_few (suc n) = let lower = closed_few n in by (is_closed order acts position node n) lower
    where
      by : (b : Bool) → count_closed order acts position node n ≤ n → cond b 1 0 + count_closed order acts position node n ≤ suc n
      by true le = omega (arith, le)
      by false le = omega (arith, le)

-- a list whose first elements pass, and the others do not
module _ (p : ℕ → Bool) (l : List ℕ) (i : ℕ) (inside : i ≤ length l) (point : IsPartitionPoint (λ k. p k ≡ true) (λ k. p k ≡ false) l i) where
  front : (n : ℕ) → n ≤ i → count_by p (take n l) ≡ n
  front zero le = refl
  front (suc n) le =
      let next : n + 1 ≡ suc n = omega arith in
      let lower = front n (omega (arith, le)) in
      ap (λ m. count_by p (take m l)) (sym next) ∙ count_by_more_yes p l n 0 (omega (arith, le, inside)) (point.0 n 0 (omega arith) (omega (arith, le)))
      ∙ omega (arith, lower)

  back : (n : ℕ) → i ≤ n → n ≤ length l → count_by p (take n l) ≡ i
  back zero le end = let same : 0 ≡ i = omega (arith, le) in front zero (omega arith) ∙ same
  back (suc n) le end =
      elim (cases_lt n i) [
        | inl low ↦ let at : suc n ≡ i = omega (arith, le, low) in front (suc n) (omega (arith, at)) ∙ at
        | inr high ↦
            let next : n + 1 ≡ suc n = omega arith in
            ap (λ m. count_by p (take m l)) (sym next) ∙ count_by_more_no p l n 0 (omega (arith, end)) (point.1 n 0 high (omega (arith, end)))
            ∙ back n high (omega (arith, end))
      ]

  pub counted_point : i ≡ count_by p l
  counted_point = sym (back (length l) inside (omega arith)) ∙ ap (count_by p) (take_all (length l) l (omega arith))

-- ---- each node's

module _ (acts : List Act) where
  of_nodes : (many start i : ℕ) → i < many → get_or (flat_map (λ node. closings acts node ∷ []) (range_with_len start many)) i [] ≡ closings acts (start + i)
  of_nodes zero start i lt = absurd (omega (arith, lt))
  of_nodes (suc many) start zero lt = let same : start ≡ start + 0 = omega arith in ap (closings acts) same
  of_nodes (suc many) start (suc i) lt =
      let same : start + 1 + i ≡ start + suc i = omega arith in
      of_nodes many (start + 1) i (omega (arith, lt)) ∙ ap (closings acts) same

  pub of_node : (nodes i : ℕ) → i < nodes → get_or (all_closings acts nodes) i [] ≡ closings acts i
  of_node nodes i lt = let same : 0 + i ≡ i = omega arith in of_nodes nodes 0 i lt ∙ ap (closings acts) same

  many_nodes : (many start : ℕ) → length (flat_map (λ node. closings acts node ∷ []) (range_with_len start many)) ≡ many
  many_nodes zero start = refl
  many_nodes (suc many) start = ap suc (many_nodes many (start + 1))

  -- what is kept of a node
  pub kept_of : {V : Type 0} (all : List V) (v : V) (items : V → List ℕ) (i : ℕ) → v ≡ get_or all i v → i < length all
      → map items all ≡ all_closings acts (length all) → items v ≡ closings acts i
  kept_of all v items i is lt are =
      ap items is ∙ sym (get_or-map items all i v [] lt) ∙ ap (λ (l : List (List ℕ)). get_or l i []) are ∙ of_node (length all) i lt

  pub all_many : (nodes : ℕ) → length (all_closings acts nodes) ≡ nodes
  all_many nodes = many_nodes nodes 0

  pub kept_many : {V : Type 0} (all : List V) (items : V → List ℕ) (nodes : ℕ) → map items all ≡ all_closings acts nodes → length all ≡ nodes
  kept_many all items nodes are = sym (length-map all items) ∙ ap length are ∙ all_many nodes

  pub all_kept : {V : Type 0} (all : List V) (items : V → List ℕ) (nodes : ℕ) → map items all ≡ all_closings acts nodes
      → map items all ≡ all_closings acts (length all)
  all_kept all items nodes are = are ∙ ap (all_closings acts) (sym (kept_many all items nodes are))
