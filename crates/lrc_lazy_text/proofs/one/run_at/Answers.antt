use Rattle.std.proofs.Common.{◌≡◌, ◌∙◌, ℕ, List, sym, ap, subst}
use Rattle.std.specs.Prelude.{Option, Some, Vec, option_map, slice_get}
use Rattle.std.specs.declared.alloc.Global.{Global}
use Rattle.std.proofs.lemmas.Option.{slice_get-get_or}
use Rattle.lrc_trace.specs.declared.act.Act.{Act}
use Rattle.lrc_orders.specs.declared.outcomes.Outcome.{Outcome}
use Rattle.lrc_lazy_run.specs.Ended.{IsLazyRunFor}
use Rattle.lrc_lazy_text.proofs.Telling.{never_none, run_found}
use Rattle.lrc_lazy_text.proofs.one.run_at.Goals as goal

pub unreachable-requires : goal.unreachable-requires
unreachable-requires c =
    let program = c.args.program.now in
    let nodes = c.args.nodes.count in
    let outcomes = c.args.outcomes.now in
    let own = c.index-outcomes-place.result in
    let notes = c.deref.result.now in
    let there : slice_get outcomes c.args.place ≡ Some own =
    slice_get-get_or outcomes c.args.place _ c.requires.within ∙ ap Some (sym c.index-outcomes-place.is) in
    let is : notes ≡ own.notes.items = c.deref.ensures.value ∙ ap (λ (o : Outcome). o.notes.items) (sym c.index-outcomes-place.is) in
    let items : Option (Vec Act Global) → Option (List Act) = λ o. option_map (λ (a : Vec Act Global). a.items) o in
    let run : IsLazyRunFor program nodes notes (items c.in_ok-acts.field-0) =
    subst (λ (n : ℕ). IsLazyRunFor program n notes (items c.in_ok-acts.field-0)) c.number.ensures c.in_ok-acts.ensures.run in
    never_none program nodes outcomes c.requires.are c.args.place own there notes is
    (subst (λ o. IsLazyRunFor program nodes notes (items o)) c.in-None.is run)

pub returns-clause-run : goal.returns-clause-run
returns-clause-run c =
    let program = c.args.program.now in
    let nodes = c.args.nodes.count in
    let outcomes = c.args.outcomes.now in
    let own = c.index-outcomes-place.result in
    let notes = c.deref.result.now in
    let there : slice_get outcomes c.args.place ≡ Some own =
    slice_get-get_or outcomes c.args.place _ c.requires.within ∙ ap Some (sym c.index-outcomes-place.is) in
    let is : notes ≡ own.notes.items = c.deref.ensures.value ∙ ap (λ (o : Outcome). o.notes.items) (sym c.index-outcomes-place.is) in
    let items : Option (Vec Act Global) → Option (List Act) = λ o. option_map (λ (a : Vec Act Global). a.items) o in
    let run : IsLazyRunFor program nodes notes (items c.in_ok-acts.field-0) =
    subst (λ (n : ℕ). IsLazyRunFor program n notes (items c.in_ok-acts.field-0)) c.number.ensures c.in_ok-acts.ensures.run in
    run_found program nodes outcomes c.requires.are c.args.place own there notes is c.in-Some.acts.items
    (subst (λ o. IsLazyRunFor program nodes notes (items o)) c.in-Some.is run)
