-- Every run of these nodes has one list of states by a local rule, a prefix has its beginning, and one more act adds one.
use Rattle.std.proofs.Common.{◌≡◌, ℕ, zero, suc, ◌+◌, ◌<◌, ◌≤◌, ◌&&◌, ◌⊎◌, Bool, true, cond, List, [], ◌∷◌, ◌++◌, length, get_or, take}
use Rattle.std.proofs.Common.{take_all, inl, inr, refl, sym, subst, ap, ◌∙◌, arith, add-one}
use Rattle.std.specs.Prelude.{◌==◌, Option, Some, None, slice_get, unwrap_or}
use Rattle.std.proofs.lemmas.Bool.{cases_Bool, cases_eq, both_ways, cond-true, cond-false}
use Rattle.std.proofs.lemmas.List.{take_more, length_push}
use Rattle.std.proofs.lemmas.Option.{same_Some}
use Rattle.lrc_trace.specs.declared.act.Act.{Act}
use Rattle.lrc_trace.specs.declared.act.Deed.{Deed}
use Rattle.lrc_trace.specs.declared.act.Deed.TheVariants.{Acquire, Depart}
use Rattle.lrc_trace.specs.Run.{Does, is_arrive, arrives_before, departs_before}
use Rattle.lrc_trace.proofs.Positions.{slice_get-front, slice_get-seam, Does-read, Does-within, Does-longer, Does-last, Does-cases}
use Rattle.lrc_trace.proofs.Positions.{arrives_before-prefix, departs_before-prefix}
use Rattle.lrc_trace.proofs.Intervals.{act_at}
use Rattle.lrc_clock.specs.Times.{is_act, is_release, acts_at, releases_at, arrives_at}
use Rattle.lrc_exact.specs.LocalRule.{LocalRule, KeepsStates, last_state, state_before, released_state, arrived_state, arrives_there, state_after}

-- functions that have the same values are the same
pub same_function : {A B : Type 0} {f g : A → B} → ((x : A) → f x ≡ g x) → f ≡ g
same_function h = λ i x. h x i

-- the last of the states depends on what passes before j, and on the states there
pub last-same : {S : Type 0} (passes passes' : ℕ → Bool) (states states' : List S) (j : ℕ) → ((k : ℕ) → k < j → passes k ≡ passes' k)
    → ((k : ℕ) → k < j → slice_get states k ≡ slice_get states' k) → last_state passes states j ≡ last_state passes' states' j
last-same passes passes' states states' zero tests same = refl
last-same passes passes' states states' (suc j) tests same =
    let before : last_state passes states j ≡ last_state passes' states' j = last-same passes passes' states states' j (λ k lt. tests k (omega arith))
    (λ k lt. same k (omega arith)) in
    ap (λ b. cond b (slice_get states j) (last_state passes states j)) (tests j (omega arith))
    ∙ ap (λ t. cond (passes' j) t (last_state passes states j)) (same j (omega arith))
    ∙ ap (λ t. cond (passes' j) (slice_get states' j) t) before

-- the last of the states is none, or that at the last position that passes
pub last-cases : {S : Type 0} (passes : ℕ → Bool) (states : List S) (j : ℕ)
    → ((last_state passes states j ≡ None) × ((k : ℕ) → k < j → passes k ≡ true → ⊥))
    ⊎ ((q : ℕ) × (q < j) × (passes q ≡ true) × ((k : ℕ) → q < k → k < j → passes k ≡ true → ⊥) × (last_state passes states j ≡ slice_get states q))
last-cases passes states zero = inl (refl, λ k lt holds. absurd (omega arith))
last-cases passes states (suc j) = elim (cases_Bool (passes j)) [
  | inl holds ↦
      inr (
        j,
        omega arith,
        holds,
        λ k after before here. absurd (omega arith),
        cond-true (passes j) (slice_get states j) (last_state passes states j) holds,
      )
  | inr fails ↦
      let same = cond-false (passes j) (slice_get states j) (last_state passes states j) fails in
      elim (last-cases passes states j) [
        | inl (none, never) ↦
            inl (
              same ∙ none,
              λ k lt holds.
                  elim (cases_eq k j) [
                    | inl here ↦ both_ways (passes j) fails (subst (λ n. passes n ≡ true) here holds)
                    | inr other ↦ never k (omega arith) holds
                  ],
            )
        | inr (q, lt, holds, last, is) ↦
            inr (
              q,
              omega arith,
              holds,
              λ k after before there.
                  elim (cases_eq k j) [
                    | inl here ↦ both_ways (passes j) fails (subst (λ n. passes n ≡ true) here there)
                    | inr other ↦ last k after (omega arith) there
                  ],
              same ∙ is,
            )
      ]
]

-- Two runs that have the same acts and states before position j:
pub record AreAlike {S : Type 0} (run run' : List Act) (states states' : List S) (j : ℕ) : Type 0 where
  pub acts : (k : ℕ) → k < j → slice_get run k ≡ slice_get run' k
  pub arrives : (node k : ℕ) → k < j → arrives_before run node k ≡ arrives_before run' node k
  pub departs : (node : ℕ) → departs_before run node j ≡ departs_before run' node j
  pub states_same : (k : ℕ) → k < j → slice_get states k ≡ slice_get states' k

module _ {S : Type 0} (rule : LocalRule S) (run run' : List Act) (states states' : List S) (j : ℕ) (alike : AreAlike run run' states states' j) where
  act-same : (passes : Act → Bool) (k : ℕ) → k < j → is_act passes (slice_get run k) ≡ is_act passes (slice_get run' k)
  act-same passes k lt = ap (is_act passes) (alike.acts k lt)

  arrives_at-same : (number k : ℕ) → k < j → arrives_at run number k ≡ arrives_at run' number k
  arrives_at-same number k lt =
      act-same (λ a. is_arrive a.deed && arrives_before run a.node k == number) k lt ∙ go (slice_get run' k)
    where
      go : (o : Option Act)
          → is_act (λ a. is_arrive a.deed && arrives_before run a.node k == number) o
          ≡ is_act (λ a. is_arrive a.deed && arrives_before run' a.node k == number) o
      go (Some a) = ap (λ n. is_arrive a.deed && n == number) (alike.arrives a.node k lt)
      go None = refl

  pub before-same : (node : ℕ) → state_before rule run states node j ≡ state_before rule run' states' node j
  before-same node =
      ap (λ o. unwrap_or o (rule.start node))
      (last-same (acts_at run node) (acts_at run' node) states states' j (λ k lt. act-same (λ a. a.node == node) k lt) alike.states_same)

  released-same : (l : ℕ) → released_state run states l j ≡ released_state run' states' l j
  released-same l =
      last-same (releases_at run l) (releases_at run' l) states states' j (λ k lt. act-same (λ a. is_release l a.deed) k lt) alike.states_same

  arrived-same : (number : ℕ) → arrived_state run states number j ≡ arrived_state run' states' number j
  arrived-same number = same_function (λ node. at_node node)
    where
      at_node : (node : ℕ) → arrived_state run states number j node ≡ arrived_state run' states' number j node
      at_node node =
          last-same (arrives_there run number node) (arrives_there run' number node) states states' j
          (λ k lt. ap (λ b. b && acts_at run node k) (arrives_at-same number k lt)
          ∙ ap (λ b. arrives_at run' number k && b) (act-same (λ a. a.node == node) k lt)) alike.states_same

  pub after-same : (node : ℕ) (deed : Deed) → state_after rule run states j node deed ≡ state_after rule run' states' j node deed
  after-same node (Acquire l) =
      ap (λ s. rule.acquire node s (released_state run states l j)) (before-same node)
      ∙ ap (λ o. rule.acquire node (state_before rule run' states' node j) o) (released-same l)
  after-same node Depart =
      ap (λ s. rule.depart node s (arrived_state run states (departs_before run node j) j)) (before-same node)
      ∙ ap (λ n. rule.depart node (state_before rule run' states' node j) (arrived_state run states n j)) (alike.departs node)
      ∙ ap (λ f. rule.depart node (state_before rule run' states' node j) f) (arrived-same (departs_before run' node j))
  after-same node deed = ap (λ s. rule.alone node deed s) (before-same node)

-- a run and its prefix are alike
module _ {S : Type 0} (run more : List Act) (states later : List S) (stated : length states ≡ length run) where
  pub prefix-alike : (j : ℕ) → j ≤ length run → AreAlike (run ++ more) run (states ++ later) states j
  prefix-alike j le = record {
    acts = λ k lt. slice_get-front run more k (omega arith);
    arrives = λ node k lt. arrives_before-prefix run more node k (omega arith);
    departs = λ node. departs_before-prefix run more node j le;
    states_same = λ k lt. slice_get-front states later k (omega arith);
  }

  pub keeps-prefix : (rule : LocalRule S) (nodes : ℕ) → KeepsStates rule nodes (run ++ more) (states ++ later) → KeepsStates rule nodes run states
  keeps-prefix rule nodes keeps = record {
    stated = stated;
    in_range = λ j node d h. keeps.in_range j node d (Does-longer more h);
    follows = λ j node d h. let lt = Does-within h in
        sym (slice_get-front states later j (omega arith)) ∙ keeps.follows j node d (Does-longer more h)
        ∙ ap (λ s. Some s) (after-same rule (run ++ more) run (states ++ later) states j (prefix-alike j (omega arith)) node d);
  }

-- one act more
module _ {S : Type 0} (rule : LocalRule S) (nodes : ℕ) (run : List Act) (states : List S) (act : Act) (state : S)
    (keeps : KeepsStates rule nodes run states) where
  abbrev next : S
  next = state_after rule run states (length run) act.node act.deed

  last-stands : slice_get (states ++ state ∷ []) (length run) ≡ Some state
  last-stands = ap (λ k. slice_get (states ++ state ∷ []) k) (sym keeps.stated) ∙ slice_get-seam states state []

  last-after : (node : ℕ) (d : Deed)
      → state_after rule (run ++ act ∷ []) (states ++ state ∷ []) (length run) node d ≡ state_after rule run states (length run) node d
  last-after node d =
      after-same rule (run ++ act ∷ []) run (states ++ state ∷ []) states (length run)
      (prefix-alike run (act ∷ []) states (state ∷ []) keeps.stated (length run) (omega arith)) node d

  pub keeps-more : act.node < nodes → state ≡ next → KeepsStates rule nodes (run ++ act ∷ []) (states ++ state ∷ [])
  keeps-more in_range is = record {
    stated = let a = length_push run act in let b = length_push states state in let c = keeps.stated in omega arith;
    in_range = λ j node d h.
        elim (Does-cases h) [
          | inl (lt, h') ↦ keeps.in_range j node d h'
          | inr (here, own, same) ↦ subst (λ p. p < nodes) own in_range
        ];
    follows = λ j node d h.
        elim (Does-cases h) [
          | inl (lt, h') ↦
              slice_get-front states (state ∷ []) j (let c = keeps.stated in omega arith) ∙ keeps.follows j node d h'
              ∙ ap (λ s. Some s) (sym (after-same rule (run ++ act ∷ []) run (states ++ state ∷ []) states j
              (prefix-alike run (act ∷ []) states (state ∷ []) keeps.stated j (omega arith)) node d))
          | inr (here, own, same) ↦
              ap (λ k. slice_get (states ++ state ∷ []) k) here ∙ last-stands
              ∙ ap (λ s. Some s) (is ∙ ap (λ p. state_after rule run states (length run) p act.deed) own
              ∙ ap (λ (x : Deed). state_after rule run states (length run) node x) same ∙ sym (last-after node d))
              ∙ ap (λ k. Some (state_after rule (run ++ act ∷ []) (states ++ state ∷ []) k node d)) (sym here)
        ];
  }

  pub keeps-last : KeepsStates rule nodes (run ++ act ∷ []) (states ++ state ∷ []) → (act.node < nodes) × (state ≡ next)
  keeps-last all =
      let last = Does-last run act in (
        all.in_range (length run) act.node act.deed last,
        same_Some state next (sym last-stands ∙ all.follows (length run) act.node act.deed last ∙ ap (λ s. Some s) (last-after act.node act.deed)),
      )

-- no act has no state
pub keeps-none : {S : Type 0} (rule : LocalRule S) (nodes : ℕ) → KeepsStates rule nodes [] []
keeps-none rule nodes = record {
  stated = refl;
  in_range = λ j node d h. let lt = Does-within h in absurd (omega arith);
  follows = λ j node d h. let lt = Does-within h in absurd (omega arith);
}

-- every run of these nodes has states
module _ {S : Type 0} (rule : LocalRule S) (nodes : ℕ) (run : List Act) (in_range : (j node : ℕ) (deed : Deed) → Does run j node deed → node < nodes) where
  exist_to : (n : ℕ) → n ≤ length run → (states : List S) × KeepsStates rule nodes (take n run) states
  exist_to zero le = ([], keeps-none rule nodes)
  exist_to (suc n) le =
      let (states, keeps) = exist_to n (omega arith) in
      let (act, does) = act_at run n (omega arith) in
      let here = get_or run n act in
      let state = state_after rule (take n run) states (length (take n run)) here.node here.deed in
      let lt : here.node < nodes = in_range n here.node here.deed (Does-read run n act (omega arith)) in
      let more = keeps-more rule nodes (take n run) states here state keeps lt refl in
      let grown : take (suc n) run ≡ take n run ++ here ∷ [] = ap (λ k. take k run) (sym (add-one n)) ∙ take_more run n act (omega arith) in
      (states ++ state ∷ [], subst (λ xs. KeepsStates rule nodes xs (states ++ state ∷ [])) (sym grown) more)

  pub states_exist : (states : List S) × KeepsStates rule nodes run states
  states_exist =
      let (states, keeps) = exist_to (length run) (omega arith) in
      (states, subst (λ xs. KeepsStates rule nodes xs states) (take_all (length run) run (omega arith)) keeps)

-- two lists of states of one run are one
module _ {S : Type 0} (rule : LocalRule S) (nodes : ℕ) (run : List Act) (ss ts : List S)
    (a : KeepsStates rule nodes run ss) (b : KeepsStates rule nodes run ts) where
  same_here : (j : ℕ) → j < length run → ((k : ℕ) → k < j → slice_get ss k ≡ slice_get ts k) → slice_get ss j ≡ slice_get ts j
  same_here j within earlier =
      let (act, does) = act_at run j within in
      let alike : AreAlike run run ss ts j = record {
        acts = λ k lt. refl;
        arrives = λ node k lt. refl;
        departs = λ node. refl;
        states_same = earlier;
      } in
      a.follows j act.node act.deed does
      ∙ ap (λ s. Some s) (after-same rule run run ss ts j alike act.node act.deed)
      ∙ sym (b.follows j act.node act.deed does)

  same_below : (n j : ℕ) → j < n → j < length run → slice_get ss j ≡ slice_get ts j
  same_below zero j lt within = absurd (omega arith)
  same_below (suc n) j lt within = same_here j within (λ k less. same_below n k (omega arith) (omega arith))

  pub one_list : ss ≡ ts
  one_list =
      let long = a.stated in
      let long' = b.stated in
      go ss ts (long ∙ sym long') (λ j lt. same_below (j + 1) j (omega arith) (omega arith))
    where
      go : (xs ys : List S) → length xs ≡ length ys → ((j : ℕ) → j < length xs → slice_get xs j ≡ slice_get ys j) → xs ≡ ys
      go [] [] e same = refl
      go [] (y ∷ ys) e same = absurd (omega arith)
      go (x ∷ xs) [] e same = absurd (omega arith)
      go (x ∷ xs) (y ∷ ys) e same =
          let first : x ≡ y = same_Some x y (same 0 (omega arith)) in
          let rest : xs ≡ ys = go xs ys (omega arith) (λ j lt. same (suc j) (omega arith)) in
          ap (λ z. z ∷ xs) first ∙ ap (λ zs. y ∷ zs) rest
