use Rattle.std.proofs.Common.{List, false, subst}
use Rattle.std.proofs.lemmas.Option.{slice_get_within}
use Rattle.lrc_orders.specs.declared.outcomes.Outcome.{Outcome}
use Rattle.lrc_orders.specs.declared.search.ExploreFault.TheVariants.{NoMemory}
use Rattle.lrc_orders.proofs.Faults.{fault_up}
use Rattle.lrc_explore.specs.Answers.{IsSearchFault}
use Rattle.lrc_explore_text.specs.OutcomeRun.{IsPlaceOfNumber}
use Rattle.lrc_explore_text.proofs.Numbered.{fewer, no_memory, numbered}
use Rattle.lrc_explore_text.proofs.outcome_run.run_among.Goals as goal

pub returns-in_err-place-clause-faults : goal.returns-in_err-place-clause-faults
returns-in_err-place-clause-faults c =
    fault_up c.from_residual.result NoMemory (IsSearchFault c.args.task.now false) c.from_residual.ensures.1 (no_memory c.args.task.now)

pub run_at-requires-clause-within : goal.run_at-requires-clause-within
run_at-requires-clause-within c =
    let keys = c.args.ended.now.outcomes.keys in
    let nodes = c.args.task.now.flat.nodes in
    let is = subst (IsPlaceOfNumber nodes keys c.args.number) c.in-Some.is
    (subst (λ (l : List Outcome). IsPlaceOfNumber nodes l c.args.number c.in_ok-place.place) c.as_slice.ensures.keys c.in_ok-place.ensures) in
    slice_get_within keys c.in-Some.place is.at.outcome is.at.there

pub returns-in_err-acts-in-Some-clause-faults : goal.returns-in_err-acts-in-Some-clause-faults
returns-in_err-acts-in-Some-clause-faults c =
    fault_up c.from_residual-in_err-acts-in-Some.result c.in_err-acts-in-Some.field-0.0 (IsSearchFault c.args.task.now false) c.from_residual-in_err-acts-in-Some.ensures.1
    c.in_err-acts-in-Some.ensures.faults

pub returns-in_ok-acts-in-Some-clause-run : goal.returns-in_ok-acts-in-Some-clause-run
returns-in_ok-acts-in-Some-clause-run c =
    let keys = c.args.ended.now.outcomes.keys in
    let nodes = c.args.task.now.flat.nodes in
    let is = subst (IsPlaceOfNumber nodes keys c.args.number) c.in-Some.is
    (subst (λ (l : List Outcome). IsPlaceOfNumber nodes l c.args.number c.in_ok-place.place) c.as_slice.ensures.keys c.in_ok-place.ensures) in
    numbered c.args.task.now c.args.ended.now c.requires.ended c.as_slice.ensures.unique
    c.args.number c.in-Some.place c.in_ok-acts-in-Some.acts.items is c.in_ok-acts-in-Some.ensures.run

pub returns-in-None-clause-run : goal.returns-in-None-clause-run
returns-in-None-clause-run c =
    let keys = c.args.ended.now.outcomes.keys in
    let nodes = c.args.task.now.flat.nodes in
    let few = subst (IsPlaceOfNumber nodes keys c.args.number) c.in-None.is
    (subst (λ (l : List Outcome). IsPlaceOfNumber nodes l c.args.number c.in_ok-place.place) c.as_slice.ensures.keys c.in_ok-place.ensures) in
    fewer c.args.task.now c.args.ended.now c.requires.ended c.as_slice.ensures.unique
    c.args.number few
