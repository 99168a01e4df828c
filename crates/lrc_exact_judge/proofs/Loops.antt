-- What is kept while nodes are gone through one by one.
use Rattle.std.proofs.Common.{◌≡◌, ℕ, zero, suc, ◌+◌, ◌<◌, ◌≤◌, ◌||◌, Bool, true, false, cond, List, length, get_or, inl, inr, refl, sym, subst, ap, ◌∙◌, arith}
use Rattle.std.specs.Prelude.{◌==◌, Option, Some, None, Vec, nat_le, nat_lt}
use Rattle.std.specs.declared.alloc.Global.{Global}
use Rattle.std.proofs.lemmas.Bool.{cases_eq, cases_lt, cond-true, cond-false, eq-eqb, ne_eqb, lt-ltb, le-ltb}
use Rattle.std.proofs.lemmas.Option.{same_Some}
use Rattle.lrc_time.specs.Time.{entry, joined, weight_of}
use Rattle.lrc_time.proofs.Times.{length-zeros, length-joined_same}
use Rattle.lrc_exact.specs.Rule.{State, Knowledge, asks, some_asks, known_by_all, with_arrived, kept_value, with_learned}
use Rattle.lrc_exact_copies.specs.declared.copy.NodeCopy.{NodeCopy}
use Rattle.lrc_exact_copies.specs.declared.made.Made.{Made}
use Rattle.lrc_exact_copies.specs.Made.{AreAmong}
use Rattle.lrc_exact_copies.proofs.Copying.{same-view}
use Rattle.lrc_exact_judge.specs.Keepers.{AreKeptValues}
use Rattle.lrc_exact_judge.specs.Memory.{Having, IsNodeOf, AreKept, all_of, with_all, with_have}
use Rattle.lrc_exact_judge.specs.Shape.{shape_of}
use Rattle.lrc_exact_judge.specs.declared.layout.Layout.{Layout}
use Rattle.lrc_exact_judge.proofs.Among.{all-among}
use Rattle.lrc_exact_judge.proofs.Kept.{element-at}

-- nodes below i have another state
abbrev pub with_below : Having → (ℕ → State → State) → ℕ → Having
with_below having change i = record having { have = λ q. cond (nat_lt q i) (change q (having.have q)) (having.have q) }

-- the state of the next is as it was
pub below-next_is : (having : Having) (change : ℕ → State → State) (i : ℕ) → (with_below having change i).have i ≡ having.have i
below-next_is having change i = cond-false (nat_lt i i) (change i (having.have i)) (having.have i) (le-ltb i i (omega arith))

pub have-here : (having : Having) (node : ℕ) (s : State) → (with_have having node s).have node ≡ s
have-here having node s = cond-true (node == node) s (having.have node) (eq-eqb node node refl)

module _ {layout : Layout} {a l most : ℕ} {copies : List NodeCopy} {made : List (Vec Made Global)} {released : List (Option (List ℕ))} {dropped : List ℕ} where
  -- states of the nodes count alone
  pub kept-within : (having : Having) (have : ℕ → State) → ((q : ℕ) → q < layout.nodes → having.have q ≡ have q)
      → AreKept layout a l most copies made released dropped having → AreKept layout a l most copies made released dropped (record having { have = have })
  kept-within having have same old = record {
    all_copies = old.all_copies;
    all_made = old.all_made;
    all_locks = old.all_locks;
    wide = old.wide;
    nodes = λ q lt. subst (λ s. IsNodeOf (shape_of layout) a l copies made dropped q s) (same q lt) (old.nodes q lt);
    locks = old.locks;
    short = old.short;
  }

  module _ (having : Having) (change : ℕ → State → State) where
    pub below-begins : AreKept layout a l most copies made released dropped having
        → AreKept layout a l most copies made released dropped (with_below having change 0)
    below-begins =
        kept-within having (λ q. cond (nat_lt q 0) (change q (having.have q)) (having.have q))
        (λ q lt. sym (cond-false (nat_lt q 0) (change q (having.have q)) (having.have q) (le-ltb q 0 (omega arith))))

    pub below-more : (i : ℕ) → AreKept layout a l most copies made released dropped (with_have (with_below having change i) i (change i (having.have i)))
        → AreKept layout a l most copies made released dropped (with_below having change (i + 1))
    below-more i =
        kept-within (with_have (with_below having change i) i (change i (having.have i)))
        (λ q. cond (nat_lt q (i + 1)) (change q (having.have q)) (having.have q)) same
      where
        same : (q : ℕ) → q < layout.nodes
            → cond (q == i) (change i (having.have i)) (cond (nat_lt q i) (change q (having.have q)) (having.have q))
            ≡ cond (nat_lt q (i + 1)) (change q (having.have q)) (having.have q)
        same q lt =
            elim (cases_eq q i) [
              | inl here ↦
                  cond-true (q == i) (change i (having.have i)) (cond (nat_lt q i) (change q (having.have q)) (having.have q)) (eq-eqb q i here)
                  ∙ sym (cond-true (nat_lt q (i + 1)) (change q (having.have q)) (having.have q) (lt-ltb q (i + 1) (omega arith))
                  ∙ ap (λ k. change k (having.have k)) here)
              | inr other ↦
                  cond-false (q == i) (change i (having.have i)) (cond (nat_lt q i) (change q (having.have q)) (having.have q)) (ne_eqb q i other)
                  ∙ elim (cases_lt q i) [
                    | inl less ↦
                        cond-true (nat_lt q i) (change q (having.have q)) (having.have q) (lt-ltb q i less)
                        ∙ sym (cond-true (nat_lt q (i + 1)) (change q (having.have q)) (having.have q) (lt-ltb q (i + 1) (omega arith)))
                    | inr le ↦
                        cond-false (nat_lt q i) (change q (having.have q)) (having.have q) (le-ltb q i le)
                        ∙ sym (cond-false (nat_lt q (i + 1)) (change q (having.have q)) (having.have q) (le-ltb q (i + 1) (omega arith)))
                  ]
            ]

    pub below-ends : (i : ℕ) → layout.nodes ≤ i → AreKept layout a l most copies made released dropped (with_below having change i)
        → AreKept layout a l most copies made released dropped (with_all having change)
    below-ends i le =
        kept-within (with_below having change i) (λ q. change q (having.have q))
        (λ q lt. cond-true (nat_lt q i) (change q (having.have q)) (having.have q) (lt-ltb q i (omega arith)))

  -- a node has the same state in other words
  pub kept-have : (having : Having) (node : ℕ) (s t : State) → s ≡ t → AreKept layout a l most copies made released dropped (with_have having node s)
      → AreKept layout a l most copies made released dropped (with_have having node t)
  kept-have having node s t same = subst (λ x. AreKept layout a l most copies made released dropped (with_have having node x)) same

  -- its own state is put in its place
  pub kept-itself : (having : Having) (node : ℕ) → AreKept layout a l most copies made released dropped having
      → AreKept layout a l most copies made released dropped (with_have having node (having.have node))
  kept-itself having node = kept-within having (λ q. cond (q == node) (having.have node) (having.have q)) same
    where
      same : (q : ℕ) → q < layout.nodes → having.have q ≡ cond (q == node) (having.have node) (having.have q)
      same q lt =
          elim (cases_eq q node) [
            | inl here ↦
                ap having.have here ∙ sym (cond-true (q == node) (having.have node) (having.have q) (eq-eqb q node here))
            | inr other ↦ sym (cond-false (q == node) (having.have node) (having.have q) (ne_eqb q node other))
          ]

  -- the later of two states of a node stays
  pub kept-twice : (having : Having) (node : ℕ) (s t : State) → AreKept layout a l most copies made released dropped (with_have (with_have having node s) node t)
      → AreKept layout a l most copies made released dropped (with_have having node t)
  kept-twice having node s t =
      kept-within (with_have (with_have having node s) node t) (λ q. cond (q == node) t (having.have q)) same
    where
      same : (q : ℕ) → q < layout.nodes → cond (q == node) t (cond (q == node) s (having.have q)) ≡ cond (q == node) t (having.have q)
      same q lt = twice (q == node)
        where
          twice : (b : Bool) → cond b t (cond b s (having.have q)) ≡ cond b t (having.have q)
          twice true = refl
          twice false = refl

-- ---- what all know

module _ (n : ℕ) (have : ℕ → State) where
  all-there : (q : ℕ) → q < n → all_of n have q ≡ Some (have q)
  all-there q lt = cond-true (nat_lt q n) (Some (have q)) None (lt-ltb q n lt)

  all-past : (q : ℕ) → n ≤ q → all_of n have q ≡ None
  all-past q le = cond-false (nat_lt q n) (Some (have q)) None (le-ltb q n le)

  pub known-more : (width i : ℕ) → i < n → (known_by_all (suc i) width (all_of n have)).time
      ≡ joined (known_by_all i width (all_of n have)).time (have i).knows.time
  known-more width i lt = ap (λ o. (with_arrived o (known_by_all i width (all_of n have))).time) (all-there i lt)

  pub known-long : (width i : ℕ) → i ≤ n → ((q : ℕ) → q < n → length (have q).knows.time ≡ width)
      → length (known_by_all i width (all_of n have)).time ≡ width
  known-long width zero le each = length-zeros width
  known-long width (suc i) le each =
      let before = known-long width i (omega arith) each in
      let own = each i (omega arith) in
      ap length (known-more width i (omega arith))
      ∙ length-joined_same (known_by_all i width (all_of n have)).time (have i).knows.time (before ∙ sym own) ∙ before

  pub known-among : (made : List (Vec Made Global)) (width : ℕ) → ((q : ℕ) → q < n → AreAmong made (have q).knows)
      → AreAmong made (known_by_all n width (all_of n have))
  known-among made width each = all-among made n width (all_of n have) one
    where
      one : (q : ℕ) (s : State) → all_of n have q ≡ Some s → AreAmong made s.knows
      one q s is =
          elim (cases_lt q n) [
            | inl lt ↦ subst (λ t. AreAmong made t.knows) (same_Some (have q) s (sym (all-there q lt) ∙ is)) (each q lt)
            | inr le ↦ let e : None ≡ Some s = sym (all-past q le) ∙ is in let impossible : ⊥ = cc in absurd impossible
          ]

  pub asks-more : (collect i : ℕ) → i < n → some_asks (suc i) collect (all_of n have)
      ≡ (nat_le (collect + weight_of (have i).dropped) (weight_of (have i).knows.time) || some_asks i collect (all_of n have))
  asks-more collect i lt = ap (λ o. asks collect o || some_asks i collect (all_of n have)) (all-there i lt)

  pub kept-values : (knows : Knowledge) → AreKeptValues n knows (all_of n have) (λ q. with_learned n knows (have q))
  kept-values knows = record {
    values = λ q lt w. ap (λ o. kept_value n knows o w) (all-there q lt);
    none = all-past n (omega arith);
  }

-- ---- what is kept of a node

module _ {layout : Layout} {a l most : ℕ} {copies : List NodeCopy} {made : List (Vec Made Global)} {released : List (Option (List ℕ))} {dropped : List ℕ}
    {having : Having} (old : AreKept layout a l most copies made released dropped having) (node : ℕ) (within : node < layout.nodes) where
  -- the copy at its place has its time
  pub time-at : (had : NodeCopy) → had ≡ get_or copies node had → (having.have node).knows.time ≡ had.time
  time-at had had_is =
      let n = old.nodes node within in
      let long = old.all_copies in
      let same = element-at copies node had n.copy (omega arith) had_is n.stands in
      n.is.time_is ∙ ap (λ (c : NodeCopy). c.time) (sym same)

  pub long-at : (had : NodeCopy) → had ≡ get_or copies node had → length had.time ≡ layout.nodes
  long-at had had_is = ap length (sym (time-at had had_is)) ∙ (old.nodes node within).wide

  pub few-at : (had : NodeCopy) → had ≡ get_or copies node had → most < 4294967295 → entry had.time node < 4294967295
  few-at had had_is few =
      let e = ap (λ t. entry t node) (time-at had had_is) in
      let own = (old.nodes node within).own in
      let s = old.short node in
      omega arith

-- all nodes know that so much was dropped
pub kept-dropped : {layout : Layout} {a l most : ℕ} {copies : List NodeCopy} {made : List (Vec Made Global)} {released : List (Option (List ℕ))}
    {dropped : List ℕ} (having : Having) (now : List ℕ) → length now ≡ layout.nodes → AreKept layout a l most copies made released dropped having
    → AreKept layout a l most copies made released now (with_all having (λ node have. record have { dropped = now }))
kept-dropped {layout} having now wide old = record {
  all_copies = old.all_copies;
  all_made = old.all_made;
  all_locks = old.all_locks;
  wide = wide;
  nodes = λ q lt.
      let n = old.nodes q lt in
      record {
        copy = n.copy;
        stands = n.stands;
        is =
            same-view n.is (record (having.have q) { dropped = now }) (λ w. refl) (λ w. refl) (λ p. refl) (λ p. refl) refl;
        among = n.among;
        own = n.own;
        wide = n.wide;
        dropped_is = refl;
      };
  locks = old.locks;
  short = old.short;
}
