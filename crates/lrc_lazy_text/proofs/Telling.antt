-- What is told of the outcomes of lazy runs.
use Rattle.std.proofs.Common.{◌≡◌, ℕ, List, sym, subst, ◌∙◌, ap}
use Rattle.std.specs.Prelude.{◌↔◌, Some, None, slice_get}
use Rattle.std.specs.List.{IsDistinct}
use Rattle.std.proofs.lemmas.Option.{same_Some}
use Rattle.lrc_program.specs.declared.Program.{Program}
use Rattle.lrc_trace.specs.declared.act.Act.{Act}
use Rattle.lrc_orders.specs.declared.outcomes.Outcome.{Outcome}
use Rattle.lrc_orders.specs.contracts.outcomes.OutcomePartialEq.TheImpl.{eq-value}
use Rattle.lrc_orders.specs.Outcome.{HasOutcome}
use Rattle.lrc_explore_text.specs.OutcomeRun.{IsNumberedAt}
use Rattle.lrc_lazy.specs.Lazy.{IsLazyOutcome}
use Rattle.lrc_lazy_run.specs.Ended.{IsEndedLazyRun, IsLazyRunFor}
use Rattle.lrc_lazy_text.specs.Listed.{AreLazyOutcomes}
use Rattle.lrc_lazy_text.specs.One.{IsLazyRunAt, IsNumberedLazyRun}

-- the search finds exactly the outcomes, each once
pub outcomes_found : (program : Program) (nodes : ℕ) (found outcomes : List Outcome) → outcomes ≡ found
    → ((notes : List Act) → IsLazyOutcome program nodes notes ↔ HasOutcome found notes) → IsDistinct eq-value.it found → AreLazyOutcomes program nodes outcomes
outcomes_found program nodes found outcomes is exact once =
    subst (λ l. AreLazyOutcomes program nodes l) (sym is) (record { exact = λ notes. ((exact notes).1, (exact notes).0); once = once })

module _ (program : Program) (nodes : ℕ) (outcomes : List Outcome) (are : AreLazyOutcomes program nodes outcomes) where
  module _ (place : ℕ) (own : Outcome) (there : slice_get outcomes place ≡ Some own) (notes : List Act) (is : notes ≡ own.notes.items) where
    -- what is at a place is an outcome, so some lazy run has it
    pub never_none : IsLazyRunFor program nodes notes None → ⊥
    never_none none = none ((are.exact notes).0 (record { place = place; outcome = own; there = there; same = sym is }))

    pub run_found : (acts : List Act) → IsLazyRunFor program nodes notes (Some acts) → IsLazyRunAt program nodes outcomes place acts
    run_found acts run outcome at =
        let same : own ≡ outcome = same_Some own outcome (sym there ∙ at) in
        subst (λ n. IsEndedLazyRun program nodes n acts) (is ∙ ap (λ (o : Outcome). o.notes.items) same) run

  -- the run of the outcome at the place of a number
  pub numbered : (number place : ℕ) (acts : List Act) → IsNumberedAt nodes outcomes number place → IsLazyRunAt program nodes outcomes place acts
      → IsNumberedLazyRun program nodes number acts
  numbered number place acts at run = record {
    outcomes = outcomes;
    are = are;
    lines = at.lines;
    list = at.list;
    notes = at.at.outcome.notes.items;
    there = at.there ∙ ap Some (sym at.at.is);
    run = run at.at.outcome at.at.there;
  }
