-- What holds of the state in which nodes begin, and stays by each act, holds of every state.
use Rattle.std.proofs.Common.{◌≡◌, ℕ, zero, suc, ◌+◌, ◌<◌, Bool, List, inl, inr, refl, sym, subst, ◌∙◌, arith}
use Rattle.std.specs.Prelude.{Option, Some, None, slice_get, unwrap_or}
use Rattle.std.proofs.lemmas.Option.{same_Some, slice_get_within}
use Rattle.lrc_trace.specs.declared.act.Act.{Act}
use Rattle.lrc_trace.specs.declared.act.Deed.{Deed}
use Rattle.lrc_trace.specs.Run.{Does}
use Rattle.lrc_trace.proofs.Intervals.{act_at}
use Rattle.lrc_clock.specs.Times.{acts_at, releases_at}
use Rattle.lrc_exact.specs.LocalRule.{LocalRule, KeepsStates, last_state, state_before, released_state, arrived_state, arrives_there, state_after}
use Rattle.lrc_exact.proofs.LocalRules.{last-cases}

-- What is known of the states from which a state is made:
pub record AreMadeOf {S : Type 0} (rule : LocalRule S) (Holds : S → Type 0) (run : List Act) (states : List S) (j node : ℕ) : Type 0 where
  pub before : Holds (state_before rule run states node j)
  pub released : (l : ℕ) (s : S) → released_state run states l j ≡ Some s → Holds s
  pub arrived : (number p : ℕ) (s : S) → arrived_state run states number j p ≡ Some s → Holds s

module _ {S : Type 0} (rule : LocalRule S) (nodes : ℕ) (run : List Act) (states : List S) (keeps : KeepsStates rule nodes run states) (Holds : S → Type 0)
    (start : (node : ℕ) → Holds (rule.start node))
    (step : (j node : ℕ) (deed : Deed) → Does run j node deed → AreMadeOf rule Holds run states j node → Holds (state_after rule run states j node deed)) where
  module _ (j : ℕ) (earlier : (k : ℕ) (s : S) → k < j → slice_get states k ≡ Some s → Holds s) where
    of_last : (passes : ℕ → Bool) (s : S) → last_state passes states j ≡ Some s → Holds s
    of_last passes s e =
        elim (last-cases passes states j) [
          | inl (none, never) ↦ let impossible : ⊥ = cc in absurd impossible
          | inr (q, lt, holds, last, is) ↦ earlier q s lt (sym is ∙ e)
        ]

    of_before : (node : ℕ) → Holds (state_before rule run states node j)
    of_before node = go (last_state (acts_at run node) states j) refl
      where
        go : (o : Option S) → last_state (acts_at run node) states j ≡ o → Holds (unwrap_or o (rule.start node))
        go None e = start node
        go (Some s) e = of_last (acts_at run node) s e

    made_of : (node : ℕ) → AreMadeOf rule Holds run states j node
    made_of node = record {
      before = of_before node;
      released = λ l s e. of_last (releases_at run l) s e;
      arrived = λ number p s e. of_last (arrives_there run number p) s e;
    }

    of_here : (s : S) → slice_get states j ≡ Some s → Holds s
    of_here s e =
        let within = slice_get_within states j s e in
        let stated = keeps.stated in
        let (act, does) = act_at run j (omega arith) in
        let is : state_after rule run states j act.node act.deed ≡ s =
        same_Some (state_after rule run states j act.node act.deed) s (sym (keeps.follows j act.node act.deed does) ∙ e) in
        subst Holds is (step j act.node act.deed does (made_of act.node))

  of_all_below : (n j : ℕ) (s : S) → j < n → slice_get states j ≡ Some s → Holds s
  of_all_below zero j s lt e = absurd (omega arith)
  of_all_below (suc n) j s lt e = of_here j (λ k t less e'. of_all_below n k t (omega arith) e') s e

  pub of_each : (j : ℕ) (s : S) → slice_get states j ≡ Some s → Holds s
  of_each j s e = of_all_below (j + 1) j s (omega arith) e

  pub of_each_before : (j node : ℕ) → Holds (state_before rule run states node j)
  of_each_before j node = of_before j (λ k s lt e. of_each k s e) node

  pub of_each_made : (j node : ℕ) → AreMadeOf rule Holds run states j node
  of_each_made j node = made_of j (λ k s lt e. of_each k s e) node
