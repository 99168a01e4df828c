use Rattle.std.proofs.Common.{◌∙◌, List, subst, sym}
use Rattle.lrc_orders.specs.declared.outcomes.Outcome.{Outcome}
use Rattle.lrc_explore_text.specs.OutcomeRun.{IsPlaceOfNumber}
use Rattle.lrc_exact_judge.specs.Shape.{shape_of}
use Rattle.lrc_exact_search.specs.Searching.{AreRunsOf}
use Rattle.lrc_exact_text.specs.Listed.{by_runs}
use Rattle.lrc_exact_text.proofs.Telling.{numbered_at, outcomes_found}
use Rattle.lrc_exact_text.proofs.one.searched_run.Goals as goal

pub returns-clause-run : goal.returns-clause-run
returns-clause-run c =
    let outcomes = c.as_slice-outcomes.result.now in
    record {
      outcomes = outcomes;
      are = outcomes_found c.args.program.now (shape_of c.args.layout) c.in_ok-found.found.outcomes.keys outcomes c.as_slice-outcomes.ensures.keys
          c.in_ok-found.ensures.exact c.as_slice-outcomes.ensures.unique;
      few = subst (IsPlaceOfNumber c.args.layout.nodes outcomes c.args.number) c.in-None.is c.in_ok-place.ensures;
    }

pub returns-in-Some-clause-fits : goal.returns-in-Some-clause-fits
returns-in-Some-clause-fits c = by_runs c.in_ok-found.ensures.fits

pub returns-clause-fits : goal.returns-clause-fits
returns-clause-fits c = by_runs c.in_ok-found.ensures.fits

pub returns-in-Some-clause-run : goal.returns-in-Some-clause-run
returns-in-Some-clause-run c =
    let program = c.args.program.now in
    let shape = shape_of c.args.layout in
    let found = c.in_ok-found.found in
    let outcomes = c.as_slice-outcomes.result.now in
    let are = outcomes_found program shape found.outcomes.keys outcomes c.as_slice-outcomes.ensures.keys c.in_ok-found.ensures.exact
    c.as_slice-outcomes.ensures.unique in
    let sound = subst (λ (l : List Outcome). AreRunsOf program shape l found.runs.items) (sym c.as_slice-outcomes.ensures.keys) c.in_ok-found.ensures.runs in
    let at = subst (IsPlaceOfNumber c.args.layout.nodes outcomes c.args.number) c.in-Some.is c.in_ok-place.ensures in
    numbered_at program shape outcomes found.runs.items are sound c.args.number c.in-Some.place at c.index.result.now _ c.index.ensures
    c.in_ok-acts-in-Some.acts.items (c.in_ok-acts-in-Some.ensures ∙ c.deref.ensures.value)
