-- Two neighbouring acts of a run change places: the states that a local rule makes of the run change places with them.
use Rattle.std.proofs.Common.{◌≡◌, ℕ, ◌+◌, ◌≤◌, Bool, true, ◌&&◌, List, ◌∷◌, ◌++◌, length, refl, sym, subst, ap, ◌∙◌, arith}
use Rattle.std.specs.Prelude.{◌==◌, Option, Some, None, slice_get, unwrap_or}
use Rattle.std.proofs.lemmas.Bool.{and_parts}
use Rattle.std.proofs.lemmas.List.{length-append}
use Rattle.lrc_trace.specs.declared.act.Act.{Act}
use Rattle.lrc_trace.specs.declared.act.Deed.{Deed}
use Rattle.lrc_trace.specs.declared.act.Deed.TheVariants.{Acquire, Release, Arrive, Depart}
use Rattle.lrc_trace.specs.Run.{Does, is_arrive, is_depart, arrives_before, departs_before}
use Rattle.lrc_trace.specs.Synchronization.{Holds, IsWellSynchronized}
use Rattle.lrc_trace.proofs.Holding.{one_holder}
use Rattle.lrc_trace.proofs.Intervals.{count_of-rises}
use Rattle.lrc_trace.proofs.Positions.{Does-one_node, Does-one_deed, arrives_before-prefix, departs_before-prefix}
use Rattle.lrc_trace.proofs.Prefixes.{Holds-longer}
use Rattle.lrc_clock.specs.Times.{is_act, acts_at, releases_at, arrives_at, is_release}
use Rattle.lrc_clock.proofs.Passing.{acts_at-act, releases_at-act, arrives_at-act}
use Rattle.lrc_exact.specs.LocalRule.{LocalRule, KeepsStates, state_before, released_state, arrived_state, arrives_there, state_after}
use Rattle.lrc_exact.specs.Rule.{Shape, State, exact_rule, ReadsExactly}
use Rattle.lrc_exact.proofs.LocalRules.{same_function}
use Rattle.lrc_lazy.specs.Swapped.{pair, Moved, MayComeFirst}
use Rattle.lrc_lazy.proofs.Moving.{moved, moved_back, first_stands, second_stands, does_moved, count_past}
use Rattle.lrc_lazy.proofs.Order.{count_moved}
use Rattle.lrc_exact_outcomes.proofs.Last.{Parted, parted, get_moved, last_moved}

module _ {S : Type 0} (rule : LocalRule S) (nodes : ℕ) (front : List Act) (first second : Act) (rest : List Act)
    (ws : IsWellSynchronized nodes (pair front first second rest)) (m : MayComeFirst nodes front first second) (fs : List S) (s t : S)
    (more : List S) (long : length fs ≡ length front) (keeps : KeepsStates rule nodes (pair front first second rest) (fs ++ s ∷ t ∷ more)) where
  abbrev run : List Act
  run = pair front first second rest

  abbrev other : List Act
  other = pair front second first rest

  abbrev states : List S
  states = fs ++ s ∷ t ∷ more

  abbrev later : List S
  later = fs ++ t ∷ s ∷ more

  abbrev k : ℕ
  k = length front

  gets : (j i : ℕ) → Moved k j i → slice_get states j ≡ slice_get later i
  gets j i at = get_moved fs more s t j i (subst (λ n. Moved n j i) (sym long) at)

  acts_same : (j i : ℕ) → Moved k j i → slice_get run j ≡ slice_get other i
  acts_same j i at = get_moved front rest first second j i at

  tests_same : (passes : Act → Bool) (j i : ℕ) → Moved k j i → is_act passes (slice_get run j) ≡ is_act passes (slice_get other i)
  tests_same passes j i at = ap (is_act passes) (acts_same j i at)

  arrives_same : (number j i : ℕ) → Moved k j i → arrives_at run number j ≡ arrives_at other number i
  arrives_same number j i at = go (slice_get run j) refl
    where
      passes : List Act → ℕ → Act → Bool
      passes acts x a = is_arrive a.deed && arrives_before acts a.node x == number

      go : (o : Option Act) → slice_get run j ≡ o → arrives_at run number j ≡ arrives_at other number i
      go None is =
          ap (is_act (passes run j)) is ∙ sym (ap (is_act (passes other i)) (sym (acts_same j i at) ∙ is))
      go (Some a) is =
          let does : Does run j a.node a.deed = record { stands = is } in
          ap (is_act (passes run j)) is
          ∙ ap (λ n. is_arrive a.deed && n == number) (count_moved front first second rest m.apart is_arrive at does)
          ∙ sym (ap (is_act (passes other i)) (sym (acts_same j i at) ∙ is))

  at_first : {j n : ℕ} {d : Deed} → j ≡ k → Does run j n d → (first.node ≡ n) × (first.deed ≡ d)
  at_first {j} {n} {d} at does =
      let here : Does run k n d = subst (λ x. Does run x n d) at does in
      let stands = first_stands front first second rest in
      (Does-one_node stands here, Does-one_deed stands here)

  at_second : {j n : ℕ} {d : Deed} → j ≡ k + 1 → Does run j n d → (second.node ≡ n) × (second.deed ≡ d)
  at_second {j} {n} {d} at does =
      let here : Does run (k + 1) n d = subst (λ x. Does run x n d) at does in
      let stands = second_stands front first second rest in
      (Does-one_node stands here, Does-one_deed stands here)

  -- no node acts at both
  not_both : (node : ℕ) → acts_at run node k ≡ true → acts_at run node (k + 1) ≡ true → ⊥
  not_both node a b =
      let one = acts_at-act run k node a in
      let two = acts_at-act run (k + 1) node b in
      m.apart ((at_first refl one.1).0 ∙ sym (at_second refl two.1).0)

  pub before_same : {j i node : ℕ} {d : Deed} → Moved k j i → Does run j node d
      → state_before rule run states node j ≡ state_before rule other later node i
  before_same {j} {i} {node} {d} at does =
      ap (λ o. unwrap_or o (rule.start node))
      (last_moved (acts_at run node) (acts_at other node) states later k (λ x y mv. tests_same (λ a. a.node == node) x y mv) gets j i at
      (λ is passes. let two = acts_at-act run (k + 1) node passes in m.apart ((at_first is does).0 ∙ sym (at_second refl two.1).0))
      (λ is passes. let one = acts_at-act run k node passes in m.apart ((at_first refl one.1).0 ∙ sym (at_second is does).0))
      (not_both node))

  released_same : {j i node l : ℕ} → Moved k j i → Does run j node (Acquire l) → released_state run states l j ≡ released_state other later l i
  released_same {j} {i} {node} {l} at does =
      last_moved (releases_at run l) (releases_at other l) states later k (λ x y mv. tests_same (λ a. is_release l a.deed) x y mv) gets j i at
      (λ is passes.
      let two = releases_at-act run (k + 1) l passes in
      ws.acquires k node l (subst (λ x. Does run x node (Acquire l)) is does) second.node (holds (at_second refl two.1).1))
      (λ is passes. m.no_acquire l (at_second is does).1)
      (λ a b.
      let one = releases_at-act run k l a in
      let two = releases_at-act run (k + 1) l b in
      m.apart ((at_first refl one.1).0 ∙ one_holder ws k one.0 second.node l (ws.releases k one.0 l one.1) (holds (at_second refl two.1).1)))
    where
      holds : second.deed ≡ Release l → Holds run k second.node l
      holds is = Holds-longer front (first ∷ second ∷ rest) (let le : k ≤ length front = omega arith in le) (m.may.releases l is)

  arrived_same : {j i node : ℕ} → Moved k j i → Does run j node Depart → (p : ℕ)
      → arrived_state run states (departs_before run node j) j p ≡ arrived_state other later (departs_before run node j) i p
  arrived_same {j} {i} {node} at does p =
      let number = departs_before run node j in
      last_moved (arrives_there run number p) (arrives_there other number p) states later k
      (λ x y mv.
      ap (λ b. b && acts_at run p x) (arrives_same number x y mv)
      ∙ ap (λ b. arrives_at other number y && b) (tests_same (λ a. a.node == p) x y mv)) gets j i at
      (λ is passes.
      let both = and_parts (arrives_at run number (k + 1)) (acts_at run p (k + 1)) passes in
      let (n, arrives, count) = arrives_at-act run (k + 1) number both.0 in
      let less = ws.departs j node does n (keeps.in_range (k + 1) n Arrive arrives) in
      let same = ap (λ x. arrives_before run n x) is in
      let rises = count_of-rises is_arrive run n k (k + 1) (omega arith) in
      omega (arith, less, count, same, rises))
      (λ is passes.
      let both = and_parts (arrives_at run number k) (acts_at run p k) passes in
      let (n, arrives, count) = arrives_at-act run k number both.0 in
      let own = at_second is does in
      let less = m.may.departs own.1 first.node m.first_among in
      let arrived = arrives_before-prefix front (first ∷ second ∷ rest) first.node k (omega arith) in
      let departed = departs_before-prefix front (first ∷ second ∷ rest) second.node k (omega arith) in
      let past = count_past is_depart front first second rest second.node m.apart in
      let count_first = ap (λ x. arrives_before run x k) (at_first refl arrives).0 in
      let number_is = ap (λ x. departs_before run x j) own.0 in
      let number_at = ap (λ x. departs_before run second.node x) is in
      omega (arith, less, arrived, departed, past, count, count_first, number_is, number_at))
      (λ a b.
      not_both p (and_parts (arrives_at run number k) (acts_at run p k) a).1 (and_parts (arrives_at run number (k + 1)) (acts_at run p (k + 1)) b).1)

  after_same : {j i node : ℕ} (d : Deed) → Moved k j i → Does run j node d → state_after rule run states j node d ≡ state_after rule other later i node d
  after_same {j} {i} {node} (Acquire l) at does =
      ap (λ x. rule.acquire node x (released_state run states l j)) (before_same at does)
      ∙ ap (λ o. rule.acquire node (state_before rule other later node i) o) (released_same at does)
  after_same {j} {i} {node} Depart at does =
      ap (λ x. rule.depart node x (arrived_state run states (departs_before run node j) j)) (before_same at does)
      ∙ ap (λ f. rule.depart node (state_before rule other later node i) f) (same_function (λ p. arrived_same at does p))
      ∙ ap (λ n. rule.depart node (state_before rule other later node i) (arrived_state other later n i))
      (count_moved front first second rest m.apart is_depart at does)
  after_same {j} {i} {node} d at does = ap (λ x. rule.alone node d x) (before_same at does)

  -- where an act of the other run stood
  pub record Stood (i node : ℕ) (d : Deed) : Type 0 where
    pub from : ℕ
    pub at : Moved k from i
    pub does : Does run from node d

  pub stood : {i node : ℕ} {d : Deed} → Does other i node d → Stood i node d
  stood {i} {node} {d} does =
      let x = moved k i in
      record { from = x.0; at = moved_back x.1; does = does_moved front second first rest x.1 does }

  pub keeps_then : KeepsStates rule nodes other later
  keeps_then = record {
    stated =
        let a = keeps.stated in
        let b = length-append fs (s ∷ t ∷ more) in
        let b' = length-append fs (t ∷ s ∷ more) in
        let c = length-append front (first ∷ second ∷ rest) in
        let c' = length-append front (second ∷ first ∷ rest) in
        omega (arith, a, b, b', c, c');
    in_range = λ i node d does. let x = stood does in keeps.in_range x.from node d x.does;
    follows = λ i node d does.
        let x = stood does in
        sym (gets x.from i x.at) ∙ keeps.follows x.from node d x.does ∙ ap (λ y. Some y) (after_same d x.at x.does);
  }

-- reads that give what the exact memory has still give it
pub reads_then : (shape : Shape) (front : List Act) (first second : Act) (rest : List Act)
    → IsWellSynchronized shape.nodes (pair front first second rest) → MayComeFirst shape.nodes front first second
    → ReadsExactly shape (pair front first second rest) → ReadsExactly shape (pair front second first rest)
reads_then shape front first second rest ws m exact =
    let size = exact.keeps.stated in
    let c = length-append front (first ∷ second ∷ rest) in
    go (parted exact.states (length front) (omega (arith, size, c)))
  where
    rule : LocalRule State
    rule = exact_rule shape

    before : List Act
    before = pair front first second rest

    go : Parted exact.states (length front) → ReadsExactly shape (pair front second first rest)
    go p =
        let keeps = subst (λ ss. KeepsStates rule shape.nodes before ss) p.is exact.keeps in
        record {
          states = p.front ++ p.second ∷ p.first ∷ p.rest;
          keeps = keeps_then rule shape.nodes front first second rest ws m p.front p.first p.second p.rest p.long keeps;
          reads = λ i node word value does.
              let x = stood rule shape.nodes front first second rest ws m p.front p.first p.second p.rest p.long keeps does in
              exact.reads x.from node word value x.does
              ∙ ap (λ ss. ((state_before rule before ss node x.from).words word).value) p.is
              ∙ ap (λ (y : State). (y.words word).value)
              (before_same rule shape.nodes front first second rest ws m p.front p.first p.second p.rest p.long keeps x.at x.does);
        }
