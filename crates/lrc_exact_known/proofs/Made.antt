-- What a state knows of an interval is what the interval did when it was closed.
use Rattle.std.proofs.Common.{◌≡◌, ℕ, zero, suc, ◌+◌, ◌<◌, ◌≤◌, ◌&&◌, Bool, true, false, List, inl, inr, refl, sym, subst, ap, ◌∙◌, arith}
use Rattle.std.specs.Prelude.{◌==◌, Option, Some, None, slice_get, nat_le, if◌then◌else◌}
use Rattle.std.proofs.lemmas.Bool.{cases_eq, cases_lt, eqb-true, eq-eqb, leb-true, le-leb, and_parts, and_from, both_ways}
use Rattle.lrc_trace.specs.declared.act.Act.{Act}
use Rattle.lrc_trace.specs.declared.act.Deed.{Deed}
use Rattle.lrc_trace.specs.declared.act.Deed.TheVariants.{Acquire, Release, Arrive, Depart}
use Rattle.lrc_trace.specs.Run.{Does, departs_before}
use Rattle.lrc_trace.specs.Interval.{closes, interval_at}
use Rattle.lrc_trace.proofs.Positions.{Does-within}
use Rattle.lrc_trace.proofs.Intervals.{count_of-more, count_of-rises}
use Rattle.lrc_time.specs.Time.{entry}
use Rattle.lrc_time.proofs.Times.{entry-zeros, entry-set_same, entry-set_other, entry-joined}
use Rattle.lrc_clock.specs.Times.{raised}
use Rattle.lrc_clock.specs.Cover.{ClosesAt}
use Rattle.lrc_clock.proofs.Counting.{own_entry_before}
use Rattle.lrc_exact.specs.LocalRule.{state_before, released_state, arrived_state, state_after}
use Rattle.lrc_exact.specs.Memory.{Interval}
use Rattle.lrc_exact.specs.Rule.{Shape, Knowledge, State, exact_rule, KeepsExact, open_interval, closed, known_together, acquired}
use Rattle.lrc_exact.specs.Rule.{with_learned, with_arrived, known_by_all, collects, collected, departed}
use Rattle.lrc_exact_known.proofs.States.{AreMadeOf, of_each}
use Rattle.lrc_exact_known.proofs.KeepingTime.{before-time, made_long, times-kept}

module _ (shape : Shape) (run : List Act) (states : List State) (keeps : KeepsExact shape run states) where
  -- the state of a node before position j
  abbrev state_at : ℕ → ℕ → State
  state_at j node = state_before (exact_rule shape) run states node j

  -- an interval was closed, and did this
  pub record IsMade (node index : ℕ) (interval : Interval) : Type 0 where
    pub at : ℕ
    pub closing : ClosesAt run node index at
    pub did : interval ≡ open_interval (state_at at node)

  -- what is known was closed, and did so
  abbrev AreMade : Knowledge → Type 0
  AreMade knows = (node index : ℕ) → 1 ≤ index → index ≤ entry knows.time node → IsMade node index (knows.interval node index)

  abbrev Holds : State → Type 0
  Holds s = AreMade s.knows

  made-nothing : (p : ℕ) → Holds ((exact_rule shape).start p)
  made-nothing p node index some most = let none = entry-zeros shape.nodes node in absurd (omega arith)

  -- one more interval, by an act that closes it
  made-closed : (j node : ℕ) (deed : Deed) → Does run j node deed → closes deed ≡ true → Holds (state_at j node) → Holds (closed node (state_at j node))
  made-closed j node deed does closing before other index some most = go (other == node && index == entry here.knows.time node + 1) refl
    where
      here : State
      here = state_at j node

      go : (b : Bool) → (other == node && index == entry here.knows.time node + 1) ≡ b
          → IsMade other index (if b then open_interval here else here.knows.interval other index)
      go true e =
          let both = and_parts (other == node) (index == entry here.knows.time node + 1) e in
          let same : other ≡ node = eqb-true other node both.0 in
          let number : index ≡ entry here.knows.time node + 1 = eqb-true index (entry here.knows.time node + 1) both.1 in
          let within = Does-within does in
          let own = own_entry_before (times-kept shape run states keeps) j node (omega arith) in
          let time = ap (λ t. entry t node) (before-time shape run states keeps node j (omega arith)) in
          let interval : interval_at run node j ≡ index = omega arith in
          subst (λ p. IsMade p index (open_interval here)) (sym same)
          record { at = j; closing = record { deed = deed; does = does; closing = closing; interval = interval }; did = refl }
      go false e =
          elim (cases_eq other node) [
            | inr apart ↦
                let kept = entry-set_other here.knows.time node (entry here.knows.time node + 1) other apart in
                before other index some (omega arith)
            | inl same ↦
                let in_range : node < shape.nodes = keeps.in_range j node deed does in
                let long = (made_long shape run states keeps j node).before in
                let new = entry-set_same here.knows.time node (entry here.knows.time node + 1) (omega arith) in
                let there = ap (λ p. entry (raised here.knows.time node) p) same in
                let there' = ap (λ p. entry here.knows.time p) same in
                elim (cases_eq index (entry here.knows.time node + 1)) [
                  | inl number ↦
                      absurd (both_ways (other == node && index == entry here.knows.time node + 1) e
                      (and_from (other == node) (index == entry here.knows.time node + 1) (eq-eqb other node same)
                      (eq-eqb index (entry here.knows.time node + 1) number)))
                  | inr apart ↦ before other index some (omega arith)
                ]
          ]

  -- what two know together
  made-together : (mine yours : Knowledge) → AreMade mine → AreMade yours → AreMade (known_together mine yours)
  made-together mine yours a b node index some most = go (nat_le index (entry mine.time node)) refl
    where
      go : (t : Bool) → nat_le index (entry mine.time node) ≡ t → IsMade node index (if t then mine.interval node index else yours.interval node index)
      go true e = a node index some (leb-true index (entry mine.time node) e)
      go false e =
          let both = entry-joined mine.time yours.time node in
          elim (cases_lt (entry mine.time node) index) [
            | inl less ↦ b node index some (omega arith)
            | inr within ↦ absurd (both_ways (nat_le index (entry mine.time node)) e (le-leb index (entry mine.time node) within))
          ]

  made-with : (o : Option State) (knows : Knowledge) → AreMade knows → ((s : State) → o ≡ Some s → Holds s) → AreMade (with_arrived o knows)
  made-with None knows rest one = rest
  made-with (Some s) knows rest one = made-together knows s.knows rest (one s refl)

  made-by_all : (n : ℕ) (arrived : ℕ → Option State) → ((p : ℕ) (s : State) → arrived p ≡ Some s → Holds s) → AreMade (known_by_all n shape.nodes arrived)
  made-by_all zero arrived each = λ node index some most. let none = entry-zeros shape.nodes node in absurd (omega arith)
  made-by_all (suc n) arrived each = made-with (arrived n) (known_by_all n shape.nodes arrived) (made-by_all n arrived each) (each n)

  made-departed : (s : State) (arrived : ℕ → Option State) → Holds s → AreMade (known_by_all shape.nodes shape.nodes arrived) → Holds (departed shape s arrived)
  made-departed s arrived own all = go (collects shape arrived)
    where
      go : (b : Bool)
          → Holds (if b
          then collected shape (known_by_all shape.nodes shape.nodes arrived) arrived (with_learned shape.nodes (known_by_all shape.nodes shape.nodes arrived)
          s) else with_learned shape.nodes (known_by_all shape.nodes shape.nodes arrived) s)
      go true = made-together s.knows (known_by_all shape.nodes shape.nodes arrived) own all
      go false = made-together s.knows (known_by_all shape.nodes shape.nodes arrived) own all

  made-step : (j node : ℕ) (deed : Deed) → Does run j node deed → AreMadeOf (exact_rule shape) Holds run states j node
      → Holds (state_after (exact_rule shape) run states j node deed)
  made-step j node (Acquire l) does made = go (released_state run states l j) refl
    where
      go : (o : Option State) → released_state run states l j ≡ o → Holds (acquired shape.nodes node (state_at j node) o)
      go None e = made-closed j node (Acquire l) does refl made.before
      go (Some r) e =
          made-together (closed node (state_at j node)).knows r.knows (made-closed j node (Acquire l) does refl made.before) (made.released l r e)
  made-step j node (Release l) does made = made-closed j node (Release l) does refl made.before
  made-step j node Arrive does made = made-closed j node Arrive does refl made.before
  made-step j node Depart does made =
      let number = departs_before run node j in
      made-departed (state_at j node) (arrived_state run states number j) made.before
      (made-by_all shape.nodes (arrived_state run states number j) (λ p s e. made.arrived number p s e))
  made-step j node deed does made = made.before

  pub known_is_made : (j : ℕ) (s : State) → slice_get states j ≡ Some s → AreMade s.knows
  known_is_made j s e = of_each (exact_rule shape) shape.nodes run states keeps Holds made-nothing made-step j s e

  -- an interval is closed at one position
  one_close : (node index i k : ℕ) → ClosesAt run node index i → ClosesAt run node index k → i ≡ k
  one_close node index i k a b =
      let first = a.interval in
      let second = b.interval in
      elim (cases_lt i k) [
        | inl before ↦
            let more = count_of-more closes run node i a.deed a.does a.closing in
            let rises = count_of-rises closes run node (i + 1) k (omega arith) in
            absurd (omega arith)
        | inr least ↦
            elim (cases_lt k i) [
              | inl before ↦
                  let more = count_of-more closes run node k b.deed b.does b.closing in
                  let rises = count_of-rises closes run node (k + 1) i (omega arith) in
                  absurd (omega arith)
              | inr most ↦ omega arith
            ]
      ]

  pub did_there : (j : ℕ) (s : State) (node index i : ℕ) → slice_get states j ≡ Some s → 1 ≤ index → index ≤ entry s.knows.time node
      → ClosesAt run node index i → s.knows.interval node index ≡ open_interval (state_at i node)
  did_there j s node index i e some most closing =
      let made = known_is_made j s e node index some most in
      made.did ∙ ap (λ k. open_interval (state_at k node)) (one_close node index made.at i made.closing closing)
