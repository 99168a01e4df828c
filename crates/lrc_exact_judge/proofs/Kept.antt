-- What is kept of all nodes and locks, when a node does something.
use Rattle.std.proofs.Common.{◌≡◌, ◌≢◌, ℕ, ◌+◌, ◌<◌, ◌≤◌, List, [], ◌∷◌, ◌++◌, length, set, get_or, length-set, get_or-set_same, get_or-set_other, inl, inr, sym, subst, ap, ◌∙◌, arith}
use Rattle.std.specs.Prelude.{◌==◌, Option, Some, None, Vec, slice_get, slice_index_or}
use Rattle.std.specs.declared.alloc.Global.{Global}
use Rattle.std.proofs.lemmas.Bool.{cases_eq, cases_lt, cond-true, cond-false, eq-eqb, ne_eqb}
use Rattle.std.proofs.lemmas.List.{length_push}
use Rattle.std.proofs.lemmas.Option.{same_Some, slice_get-get_or, slice_get_past}
use Rattle.lrc_time.specs.Time.{entry}
use Rattle.lrc_time.proofs.Times.{entry-joined, entry-set_same, length-joined_same}
use Rattle.lrc_exact.specs.Rule.{State, Knowledge, closed, open_interval, with_learned}
use Rattle.lrc_exact_copies.specs.declared.copy.NodeCopy.{NodeCopy}
use Rattle.lrc_exact_copies.specs.declared.made.Made.{Made}
use Rattle.lrc_exact_copies.specs.Copies.{CopyOf}
use Rattle.lrc_exact_copies.specs.Made.{AreAmong, interval_of, row_of, row_or}
use Rattle.lrc_exact_copies.proofs.Copying.{weaker}
use Rattle.lrc_exact_judge.specs.Memory.{Having, IsNodeOf, IsReleased, AreKept, with_have, with_release}
use Rattle.lrc_exact_judge.specs.Memory.{never, once}
use Rattle.lrc_exact_judge.specs.Shape.{shape_of}
use Rattle.lrc_exact_judge.specs.declared.layout.Layout.{Layout}
use Rattle.lrc_exact_judge.proofs.Among.{AreRowsWith, closed-among, still-among, together-among}

-- ---- one place of a list

pub get-set_same : {A : Type 0} (xs : List A) (i : ℕ) (x : A) → i < length xs → slice_get (set xs i x) i ≡ Some x
get-set_same xs i x lt =
    let long = length-set xs i x in
    slice_get-get_or (set xs i x) i x (omega arith) ∙ ap Some (get_or-set_same xs i x x lt)

pub get-set_other : {A : Type 0} (xs : List A) (i j : ℕ) (x : A) → j ≢ i → slice_get (set xs i x) j ≡ slice_get xs j
get-set_other xs i j x other =
    let long = length-set xs i x in
    elim (cases_lt j (length xs)) [
      | inl lt ↦
          slice_get-get_or (set xs i x) j x (omega arith) ∙ ap Some (get_or-set_other xs i j x x other) ∙ sym (slice_get-get_or xs j x lt)
      | inr le ↦ slice_get_past (set xs i x) j (omega arith) ∙ sym (slice_get_past xs j le)
    ]

-- what the element at a place is
pub element-at : {A : Type 0} (xs : List A) (i : ℕ) (x y : A) → i < length xs → x ≡ get_or xs i x → slice_get xs i ≡ Some y → x ≡ y
element-at xs i x y lt is stands = same_Some x y (ap Some is ∙ sym (slice_get-get_or xs i x lt) ∙ stands)

module _ {layout : Layout} {a l most : ℕ} {copies : List NodeCopy} {made : List (Vec Made Global)} {released : List (Option (List ℕ))} {dropped : List ℕ}
    {having : Having} (old : AreKept layout a l most copies made released dropped having) where
  -- later is as good
  pub kept-later : (a' l' most' : ℕ) → a ≤ a' → l ≤ l' → most ≤ most' → AreKept layout a' l' most' copies made released dropped having
  kept-later a' l' most' le le' more = record {
    all_copies = old.all_copies;
    all_made = old.all_made;
    all_locks = old.all_locks;
    wide = old.wide;
    nodes = λ q lt.
        let n = old.nodes q lt in
        record {
          copy = n.copy;
          stands = n.stands;
          is = weaker n.is a' l' le le';
          among = n.among;
          own = n.own;
          wide = n.wide;
          dropped_is = n.dropped_is;
        };
    locks = old.locks;
    short = λ q. let s = old.short q in omega arith;
  }

  -- a node has another copy, of another state, and all intervals that were known are known
  pub kept-one : (a' l' : ℕ) (node : ℕ) (had copy : NodeCopy) (state : State) → a ≤ a' → l ≤ l' → node < layout.nodes
      → had ≡ get_or copies node had
      → (CopyOf (shape_of layout) node a l had (having.have node) → CopyOf (shape_of layout) node a' l' copy state)
      → AreAmong made state.knows → entry state.knows.time node ≡ length (row_of made node) → length state.knows.time ≡ layout.nodes
      → state.dropped ≡ dropped → AreKept layout a' l' most (set copies node copy) made released dropped (with_have having node state)
  kept-one a' l' node had copy state le le' within had_is step among own wide dropped_is = record {
    all_copies = length-set copies node copy ∙ old.all_copies;
    all_made = old.all_made;
    all_locks = old.all_locks;
    wide = old.wide;
    nodes = λ q lt.
        elim (cases_eq q node) [
          | inl same ↦
              let n = old.nodes node within in
              let long = old.all_copies in
              let here : had ≡ n.copy = element-at copies node had n.copy (omega arith) had_is n.stands in
              subst (λ s. IsNodeOf (shape_of layout) a' l' (set copies node copy) made dropped q s)
              (sym (cond-true (q == node) state (having.have q) (eq-eqb q node same)))
              (subst (λ p. IsNodeOf (shape_of layout) a' l' (set copies node copy) made dropped p state) (sym same)
              (record {
                copy = copy;
                stands = get-set_same copies node copy (omega arith);
                is = step (subst (λ k. CopyOf (shape_of layout) node a l k (having.have node)) (sym here) n.is);
                among = among;
                own = own;
                wide = wide;
                dropped_is = dropped_is;
              }))
          | inr other ↦
              let n = old.nodes q lt in
              subst (λ s. IsNodeOf (shape_of layout) a' l' (set copies node copy) made dropped q s)
              (sym (cond-false (q == node) state (having.have q) (ne_eqb q node other)))
              (record {
                copy = n.copy;
                stands = get-set_other copies node q copy other ∙ n.stands;
                is = weaker n.is a' l' le le';
                among = n.among;
                own = n.own;
                wide = n.wide;
                dropped_is = n.dropped_is;
              })
        ];
    locks = old.locks;
    short = old.short;
  }

  -- the same, where the node learned and closed nothing
  pub kept-still : (a' l' : ℕ) (node : ℕ) (had copy : NodeCopy) (state : State) → a ≤ a' → l ≤ l' → node < layout.nodes
      → had ≡ get_or copies node had → state.knows ≡ (having.have node).knows → state.dropped ≡ (having.have node).dropped
      → (CopyOf (shape_of layout) node a l had (having.have node) → CopyOf (shape_of layout) node a' l' copy state)
      → AreKept layout a' l' most (set copies node copy) made released dropped (with_have having node state)
  kept-still a' l' node had copy state le le' within had_is knows_same dropped_same step =
      let n = old.nodes node within in
      kept-one a' l' node had copy state le le' within had_is step
      (subst (λ k. AreAmong made k) (sym knows_same) n.among)
      (ap (λ (k : Knowledge). entry k.time node) knows_same ∙ n.own)
      (ap (λ (k : Knowledge). length k.time) knows_same ∙ n.wide)
      (dropped_same ∙ n.dropped_is)

  -- the same, where the node learned
  pub kept-learned : (l' : ℕ) (node : ℕ) (had copy : NodeCopy) (news : Knowledge) → l ≤ l' → node < layout.nodes
      → had ≡ get_or copies node had → AreAmong made news → length news.time ≡ layout.nodes
      → (CopyOf (shape_of layout) node a l had (having.have node)
      → CopyOf (shape_of layout) node a l' copy (with_learned layout.nodes news (having.have node)))
      → AreKept layout a l' most (set copies node copy) made released dropped
      (with_have having node (with_learned layout.nodes news (having.have node)))
  kept-learned l' node had copy news le within had_is among wide step =
      let n = old.nodes node within in
      let both = entry-joined (having.have node).knows.time news.time node in
      let there = among.there node in
      let own = n.own in
      let nw = n.wide in
      kept-one a l' node had copy (with_learned layout.nodes news (having.have node)) (omega arith) le within had_is step
      (together-among made (having.have node).knows news n.among among)
      (omega arith)
      (length-joined_same (having.have node).knows.time news.time (omega arith) ∙ nw)
      n.dropped_is

  -- a lock is released
  pub kept-released : (node lock : ℕ) (time : List ℕ) → node < layout.nodes → time ≡ (having.have node).knows.time
      → AreKept layout a l most copies made (set released lock (Some time)) dropped (with_release having lock (having.have node))
  kept-released node lock time within is = record {
    all_copies = old.all_copies;
    all_made = old.all_made;
    all_locks = length-set released lock (Some time) ∙ old.all_locks;
    wide = old.wide;
    nodes = old.nodes;
    locks = λ m lt.
        elim (cases_eq m lock) [
          | inl same ↦
              let n = old.nodes node within in
              let long = old.all_locks in
              subst (λ o. IsReleased layout.nodes made (slice_index_or (set released lock (Some time)) m None) o)
              (sym (cond-true (m == lock) (Some (having.have node)) (having.released m) (eq-eqb m lock same)))
              (subst (λ o. IsReleased layout.nodes made o (Some (having.have node)))
              (sym (ap (λ k. get_or (set released lock (Some time)) k None) same
              ∙ get_or-set_same released lock (Some time) None (omega arith)))
              (once (sym is) (ap length is ∙ n.wide) n.among))
          | inr other ↦
              subst (λ o. IsReleased layout.nodes made (slice_index_or (set released lock (Some time)) m None) o)
              (sym (cond-false (m == lock) (Some (having.have node)) (having.released m) (ne_eqb m lock other)))
              (subst (λ o. IsReleased layout.nodes made o (having.released m))
              (sym (get_or-set_other released lock m (Some time) None other)) (old.locks m lt))
        ];
    short = old.short;
  }

  -- a node closes an interval
  module _ (node : ℕ) (within : node < layout.nodes) (had copy : NodeCopy) (had_is : had ≡ get_or copies node had)
      (made' : List (Vec Made Global)) (more : Made) (long' : length made' ≡ layout.nodes) (grown : AreRowsWith made made' node more)
      (is_interval : CopyOf (shape_of layout) node a l had (having.have node) → interval_of more ≡ open_interval (having.have node))
      (step : CopyOf (shape_of layout) node a l had (having.have node) → CopyOf (shape_of layout) node a l copy (closed node (having.have node))) where
    still_released : {t : Option (List ℕ)} {s : Option State} → IsReleased layout.nodes made t s → IsReleased layout.nodes made' t s
    still_released never = never
    still_released (once {time} {state} is wide among) = once is wide (still-among made made' node more grown state.knows among)

    pub kept-closed : AreKept layout a l (most + 1) (set copies node copy) made' released dropped (with_have having node (closed node (having.have node)))
    kept-closed = record {
      all_copies = length-set copies node copy ∙ old.all_copies;
      all_made = long';
      all_locks = old.all_locks;
      wide = old.wide;
      nodes = λ q lt.
          elim (cases_eq q node) [
            | inl same ↦
                let n = old.nodes node within in
                let long = old.all_copies in
                let here : had ≡ n.copy = element-at copies node had n.copy (omega arith) had_is n.stands in
                let before : CopyOf (shape_of layout) node a l had (having.have node) =
                subst (λ k. CopyOf (shape_of layout) node a l k (having.have node)) (sym here) n.is in
                let nw = n.wide in
                let own = n.own in
                let set_is = entry-set_same (having.have node).knows.time node (entry (having.have node).knows.time node + 1) (omega arith) in
                let row = ap length grown.own ∙ length_push (row_of made node) more in
                subst (λ s. IsNodeOf (shape_of layout) a l (set copies node copy) made' dropped q s)
                (sym (cond-true (q == node) (closed node (having.have node)) (having.have q) (eq-eqb q node same)))
                (subst (λ p. IsNodeOf (shape_of layout) a l (set copies node copy) made' dropped p (closed node (having.have node))) (sym same)
                (record {
                  copy = copy;
                  stands = get-set_same copies node copy (omega arith);
                  is = step before;
                  among = closed-among made made' node more grown (having.have node).knows (open_interval (having.have node)) n.among (omega arith) own
                      (is_interval before);
                  own = omega arith;
                  wide = length-set (having.have node).knows.time node (entry (having.have node).knows.time node + 1) ∙ nw;
                  dropped_is = n.dropped_is;
                }))
            | inr other ↦
                let n = old.nodes q lt in
                subst (λ s. IsNodeOf (shape_of layout) a l (set copies node copy) made' dropped q s)
                (sym (cond-false (q == node) (closed node (having.have node)) (having.have q) (ne_eqb q node other)))
                (record {
                  copy = n.copy;
                  stands = get-set_other copies node q copy other ∙ n.stands;
                  is = n.is;
                  among = still-among made made' node more grown (having.have q).knows n.among;
                  own = n.own ∙ ap length (sym (grown.others q other));
                  wide = n.wide;
                  dropped_is = n.dropped_is;
                })
          ];
      locks = λ m lt. still_released (old.locks m lt);
      short = λ q.
          elim (cases_eq q node) [
            | inl same ↦
                let s = old.short q in
                let e = ap (λ p. length (row_of made' p)) same ∙ ap length grown.own ∙ length_push (row_of made node) more in
                let f = ap (λ p. length (row_of made p)) same in
                omega arith
            | inr other ↦ let s = old.short q in let e = ap length (grown.others q other) in omega arith
          ];
    }

-- the rows once one interval more is pushed
pub rows-pushed : (made : List (Vec Made Global)) (node : ℕ) (had row : Vec Made Global) (more : Made) → node < length made
    → had ≡ get_or made node had → row.items ≡ had.items ++ more ∷ [] → AreRowsWith made (set made node row) node more
rows-pushed made node had row more lt had_is pushed = record {
  own =
      ap row_or (get-set_same made node row lt) ∙ pushed
      ∙ ap (λ xs. xs ++ more ∷ []) (sym (ap row_or (slice_get-get_or made node had lt) ∙ ap (λ v. v.items) (sym had_is)));
  others = λ q other. ap row_or (get-set_other made node q row other);
}
