-- What does not fit in the events that are asked for does not fit in `explore`.
use Rattle.std.proofs.Common.{rules, ◌≡◌, ◌∙◌, Bool, List, Option, ap, codes, inl, inr, subst, sym, true, IsSome}
use Rattle.clap.specs.Words.{Row, Text, found_of, rows_of}
use Rattle.lrc_cli_args.specs.CommandLine.{AreSought, HasExploreMisfit, StandsPlainly}
use Rattle.lrc_cli_args.specs.Options.{HasEventsMisfit, IsFlag, IsMemory, asks_outcomes, outcome_in, takes_tries, tries_in}
use Rattle.lrc_cli_args.specs.declared.choice.Memory.{Memory}
use Rattle.lrc_cli_args.specs.declared.misfit.Misfit.{Misfit}
use Rattle.lrc_cli_args.proofs.FoundLemmas.{misfit_up}
use Rattle.lrc_cli_args.proofs.explore.explore_choice.Goals as goal
use Rattle.lrc_cli_args.proofs.explore.explore_choice.Goals.{else-is_some-via-then-is_some+else-not-takes_tries, else-is_some-via-else-is_some}

of_events : (rows : List Row) (misfit : Misfit) (memory : Memory) (outcomes ends : Bool) → AreSought rows memory outcomes
    → (IsSome (tries_in rows) → takes_tries memory outcomes (outcome_in rows) ≡ true) → StandsPlainly (codes "ignore-races") outcomes rows
    → StandsPlainly (codes "ends") outcomes rows → IsFlag (codes "ends") ends rows → HasEventsMisfit memory outcomes (outcome_in rows) ends rows misfit
    → HasExploreMisfit rows misfit
of_events rows misfit memory outcomes ends sought fit ignoring ending flag has =
    record { why = inr (inr (inr (inr (inl (memory, outcomes, sought, fit, ignoring, ending, (ends, flag, has)))))) }

pub returns-in_err-events-clause-err : goal.returns-in_err-events-clause-err
returns-in_err-events-clause-err c =
    let rows = rows_of (found_of c.args.options.now) in
    let memory = c.in_ok-memory.memory in
    let outcomes = c.is_named-outcomes.result in
    let misfit = c.in_err-events.field-0.0 in
    let memory_is = c.in_ok-memory.ensures.ok in
    let fit : (IsSome (tries_in rows) → takes_tries memory outcomes (outcome_in rows) ≡ true) = elim c.else-is_some.branch [
      | else-is_some-via-then-is_some+else-not-takes_tries w ↦ search rules
      | else-is_some-via-else-is_some w ↦ search rules
    ] in
    let beside = c.asks_outcomes-beside.ensures ∙ ap (λ o. asks_outcomes outcomes o rows) c.some_number_of-outcome.ensures in
    let ignoring = c.in_ok-ignores_races.ensures.ok in
    let ending = c.in_ok-ends.ensures.ok in
    let has = subst (λ o. HasEventsMisfit memory outcomes o c.in_ok-ends.ends rows misfit) c.some_number_of-outcome.ensures c.in_err-events.ensures.err in
    misfit_up c.from_residual-in_err-events.result misfit (HasExploreMisfit rows) c.from_residual-in_err-events.ensures.1
    (of_events rows misfit memory outcomes c.in_ok-ends.ends (memory_is, c.is_named-outcomes.ensures) fit
    (c.in_ok-ignores_races.ignores_races, ignoring.0, λ e. sym beside ∙ ignoring.1 e) (c.in_ok-ends.ends, ending.0, λ e. sym beside ∙ ending.1 e) ending.0 has)
