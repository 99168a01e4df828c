use Rattle.std.proofs.Common.{◌∙◌, ℕ, List, ap₂, subst}
use Rattle.lrc_trace.specs.declared.act.Act.{Act}
use Rattle.lrc_explore_text.specs.Orders.{order_text}
use Rattle.lrc_explore_text.specs.OutcomeRun.{IsNumberedAt, IsPlaceOfNumber}
use Rattle.lrc_lazy_text.proofs.Telling.{numbered, outcomes_found}
use Rattle.lrc_lazy_text.proofs.one.lazy_run_told.Goals as goal

pub returns-in-Some-clause-told : goal.returns-in-Some-clause-told
returns-in-Some-clause-told c =
    let program = c.args.program.now in
    let nodes = c.args.nodes.count in
    let number = c.args.number in
    let outcomes = c.as_slice-outcomes.result.now in
    let acts = c.in_ok-acts-in-Some.acts.items in
    let are = outcomes_found program nodes c.in_ok-found.found.keys outcomes c.as_slice-outcomes.ensures.keys c.in_ok-found.ensures.exact
    c.as_slice-outcomes.ensures.unique in
    let at = subst (λ (n : ℕ). IsNumberedAt n outcomes number c.in-Some.place) c.number-count.ensures
    (subst (IsPlaceOfNumber c.number-count.result outcomes number) c.in-Some.is c.in_ok-place.ensures) in
    record {
      acts = acts;
      is = numbered program nodes outcomes are number c.in-Some.place acts at c.in_ok-acts-in-Some.ensures.run;
      whole = c.in_ok-text-in-Some.ensures
          ∙ ap₂ (λ (n : ℕ) (a : List Act). order_text program n c.args.lines.now a) c.number-count.ensures c.deref.ensures.value;
    }

pub returns-clause-told : goal.returns-clause-told
returns-clause-told c =
    let outcomes = c.as_slice-outcomes.result.now in
    record {
      outcomes = outcomes;
      are = outcomes_found c.args.program.now c.args.nodes.count c.in_ok-found.found.keys outcomes c.as_slice-outcomes.ensures.keys
          c.in_ok-found.ensures.exact c.as_slice-outcomes.ensures.unique;
      few = subst (IsPlaceOfNumber c.number-count.result outcomes c.args.number) c.in-None.is c.in_ok-place.ensures;
    }

pub returns-in-Some-clause-fits : goal.returns-in-Some-clause-fits
returns-in-Some-clause-fits c = (c.in_ok-found.found.keys, c.in_ok-found.ensures.fits)

pub returns-clause-fits : goal.returns-clause-fits
returns-clause-fits c = (c.in_ok-found.found.keys, c.in_ok-found.ensures.fits)
