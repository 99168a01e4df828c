-- The state with which a node arrived that waits to depart: the one that it has.
use Rattle.std.proofs.Common.{◌≡◌, ℕ, ◌+◌, ◌<◌, List, length, inl, inr, refl, sym, subst, ap, ◌∙◌, arith, ◌-◌}
use Rattle.std.specs.Prelude.{Some, slice_get}
use Rattle.std.proofs.lemmas.Bool.{cases_Bool, and_parts, and_from}
use Rattle.lrc_trace.specs.declared.act.Act.{Act}
use Rattle.lrc_trace.specs.declared.act.Deed.{Deed}
use Rattle.lrc_trace.specs.declared.act.Deed.TheVariants.{Arrive}
use Rattle.lrc_trace.specs.Run.{Does, is_arrive, is_depart, arrives_before, departs_before}
use Rattle.lrc_trace.specs.Synchronization.{WaitsAtBarriers}
use Rattle.lrc_trace.proofs.Positions.{Does-node, Does-one_node, Does-within}
use Rattle.lrc_trace.proofs.Intervals.{count_of-more, count_of-rises, numbered_arrive}
use Rattle.lrc_clock.specs.Times.{acts_at, arrives_at}
use Rattle.lrc_clock.proofs.Passing.{acts_at-true, acts_at-act, arrives_at-true, arrives_at-act}
use Rattle.lrc_exact.specs.LocalRule.{state_before, arrived_state, arrives_there}
use Rattle.lrc_exact.specs.Rule.{Shape, State, exact_rule, KeepsExact}
use Rattle.lrc_exact.proofs.LocalRules.{last-cases}
use Rattle.lrc_exact_reading.proofs.Departing.{next-own, idle}

module _ (shape : Shape) (run : List Act) (states : List State) (keeps : KeepsExact shape run states) (waits : WaitsAtBarriers run)
    (node number : ℕ) (arrived : arrives_before run node (length run) ≡ number + 1) (departed : departs_before run node (length run) ≡ number) where
  -- it has made no act since
  nothing_after : (i k : ℕ) (d : Deed) → i < k → Does run i node Arrive → arrives_before run node i ≡ number → Does run k node d → ⊥
  nothing_after i k d after arrives count there =
      let within = Does-within there in
      let first = waits.departed i node Arrive arrives refl in
      let rise = count_of-rises is_depart run node i k (omega arith) in
      let rise' = count_of-rises is_depart run node (k + 1) (length run) (omega arith) in
      let rise'' = count_of-rises is_depart run node k (length run) (omega arith) in
      elim (cases_Bool (is_depart d)) [
        | inl departs ↦ let more = count_of-more is_depart run node k d there departs in omega arith
        | inr other ↦
            let second = waits.departed k node d there other in
            let more = count_of-more is_arrive run node i Arrive arrives refl in
            let rises = count_of-rises is_arrive run node (i + 1) k (omega arith) in
            omega arith
      ]

  still_there : (q : ℕ) → Does run q node Arrive → arrives_before run node q ≡ number
      → slice_get states q ≡ Some (state_before (exact_rule shape) run states node (length run))
  still_there q does count =
      let within = Does-within does in
      let long : q + 1 + (length run - (q + 1)) ≡ length run = omega arith in
      let still : state_before (exact_rule shape) run states node (q + 1 + (length run - (q + 1))) ≡ state_before (exact_rule shape) run states node (q + 1) =
      idle shape run states keeps node (q + 1) (length run - (q + 1)) (omega arith)
      (λ k d least most there. nothing_after q k d (omega arith) does count there) in
      keeps.follows q node Arrive does
      ∙ ap (λ (s : State). Some s) (sym (next-own shape run states keeps q node Arrive does) ∙ sym still
      ∙ ap (λ k. state_before (exact_rule shape) run states node k) long)

  abbrev now : State
  now = state_before (exact_rule shape) run states node (length run)

  -- where it arrived with this number, with the state that it has
  pub record IsThere : Type 0 where
    pub at : ℕ
    pub does : Does run at node Arrive
    pub count : arrives_before run node at ≡ number
    pub stands : slice_get states at ≡ Some now
    pub found : arrived_state run states number (length run) node ≡ Some now

  pub is_there : IsThere
  is_there = elim (last-cases (arrives_there run number node) states (length run)) [
    | inl (none, never) ↦
        let (i, lt, does, count) = numbered_arrive run node (length run) number (omega arith) (omega arith) in
        absurd (never i lt (and_from (arrives_at run number i) (acts_at run node i) (arrives_at-true run i node number does count)
        (acts_at-true run i node Arrive does)))
    | inr (q, less, holds, last, stands) ↦
        let both = and_parts (arrives_at run number q) (acts_at run node q) holds in
        let (m, does', count') = arrives_at-act run q number both.0 in
        let (d, acts) = acts_at-act run q node both.1 in
        let own = Does-one_node does' acts in
        let does : Does run q node Arrive = Does-node own does' in
        let count : arrives_before run node q ≡ number = subst (λ n. arrives_before run n q ≡ number) own count' in
        let here : slice_get states q ≡ Some now = still_there q does count in
        record { at = q; does = does; count = count; stands = here; found = stands ∙ here }
  ]
