-- What is known of the orders of a program without a race is known of its exact runs.
use Rattle.std.proofs.Common.{◌≡◌, ℕ, List, ap, subst}
use Rattle.std.specs.Prelude.{◌↔◌, IfSome, Option, Some, None, option_map}
use Rattle.std.proofs.lemmas.Option.{same_Some}
use Rattle.lrc_program.specs.declared.Program.{Program}
use Rattle.lrc_trace.specs.declared.act.Act.{Act}
use Rattle.lrc_exec.specs.Plain.{Plain}
use Rattle.lrc_exec.specs.Follows.{nodes_of_acts}
use Rattle.lrc_consistency_laws.specs.Racing.{HasNoRace}
use Rattle.lrc_orders.specs.declared.outcomes.Outcome.{Outcome}
use Rattle.lrc_orders.specs.Outcome.{HasOutcome, IsOutcome}
use Rattle.lrc_lazy.proofs.Resting.{rest_to_over}
use Rattle.lrc_explore_text.specs.OutcomeRun.{HasFewerOutcomes, IsNumberedRun}
use Rattle.lrc_explore_text.specs.Outcomes.{AreOutcomesOf}
use Rattle.lrc_exact.specs.Rule.{Shape}
use Rattle.lrc_exact_plain.proofs.Calm.{exact_from_outcome, exact_from_plain, exact_to_outcome}
use Rattle.lrc_exact_outcomes.specs.Outcome.{IsExactOutcome}
use Rattle.lrc_exact_text.specs.Listed.{AreExactOutcomes}
use Rattle.lrc_exact_text.specs.One.{HasFewerExactOutcomes, IsNumberedExactRun}

-- what is known of something that may be there
pub calm_some : {S : Type 0} (found : Option S) (P : S → Type 0) (there : S) → found ≡ Some there → IfSome found P → P there
calm_some (Some own) P there is known = subst P (same_Some own there is) known
calm_some None P there is known = let never : ⊥ = cc in absurd never

module _ (program : Program) (shape : Shape) (none : HasNoRace program shape.nodes) where
  pub calm_exact : (outcomes : List Outcome) → ((notes : List Act) → HasOutcome outcomes notes ↔ IsOutcome program shape.nodes notes)
      → (notes : List Act) → IsExactOutcome program shape notes ↔ HasOutcome outcomes notes
  calm_exact outcomes exact notes = (
    λ o. (exact notes).1 (exact_to_outcome program shape none notes o),
    λ has. exact_from_outcome program shape none notes ((exact notes).0 has),
  )

  pub calm_outcomes_are : (outcomes : List Outcome) → AreOutcomesOf program shape.nodes outcomes → AreExactOutcomes program shape outcomes
  calm_outcomes_are outcomes are = record {
    exact = λ notes. (
      λ has. exact_from_outcome program shape none notes ((are.exact notes).0 has),
      λ o. (are.exact notes).1 (exact_to_outcome program shape none notes o),
    );
    once = are.once;
  }

  pub calm_run_is : (number : ℕ) (acts : List Act) → IsNumberedRun program shape.nodes number acts → IsNumberedExactRun program shape number acts
  calm_run_is number acts run = record {
    outcomes = run.outcomes;
    are = calm_outcomes_are run.outcomes run.are;
    lines = run.lines;
    list = run.list;
    notes = run.notes;
    there = run.there;
    run = record {
      run = exact_from_plain program shape none (nodes_of_acts acts) acts (ap (option_map (λ (r : List Act × Plain). r.0)) run.run.led);
      over = rest_to_over program shape.nodes (nodes_of_acts acts) acts run.run.machine run.run.led run.run.still;
      are = run.run.are;
    };
  }

  pub calm_fewer : (number : ℕ) → HasFewerOutcomes program shape.nodes number → HasFewerExactOutcomes program shape number
  calm_fewer number fewer = record {
    outcomes = fewer.outcomes;
    are = calm_outcomes_are fewer.outcomes fewer.are;
    few = fewer.few;
  }
