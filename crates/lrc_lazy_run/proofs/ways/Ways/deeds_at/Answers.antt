use Rattle.std.proofs.Common.{◌∙◌, subst, sym}
use Rattle.std.proofs.lemmas.Option.{same_Some}
use Rattle.std.proofs.lemmas.Result.{IfOk-weaker}
use Rattle.lrc_orders.proofs.Keeping.{item_in}
use Rattle.lrc_exec.specs.States.{plain_at}
use Rattle.lrc_lazy.specs.Standing.{CanMake}
use Rattle.lrc_lazy_search.specs.declared.state.LazyState.{LazyState}
use Rattle.lrc_lazy_search.proofs.Searched.{reached_fit}
use Rattle.lrc_lazy_run.proofs.ways.Ways.deeds_at.Goals as goal

pub deeds-requires-clause-fit : goal.deeds-requires-clause-fit
deeds-requires-clause-fit c =
    let sought = c.args.sought.now in
    let keys = c.args.self.now.states.keys in
    let key = c.index-as_slice-place.result in
    let there = item_in keys c.as_slice.result.now c.args.place key c.as_slice.ensures.keys c.requires.within c.index-as_slice-place.is in
    reached_fit sought.program.now sought.flat key c.args.place c.requires.ways.task.words (c.requires.ways.kept.reached c.args.place key there)

pub returns-clause-sound : goal.returns-clause-sound
returns-clause-sound c =
    let flat = c.args.sought.now.flat in
    let keys = c.args.self.now.states.keys in
    let key = c.index-as_slice-place.result in
    let there = item_in keys c.as_slice.result.now c.args.place key c.as_slice.ensures.keys c.requires.within c.index-as_slice-place.is in
    IfOk-weaker c.deeds.result _ _
    (λ deeds sound k deed at wanted stands.
    subst (λ (x : LazyState). CanMake flat.words (plain_at flat x.state) x.knowledge c.args.node deed) (same_Some key wanted (sym there ∙ stands)) (sound k deed at))
    c.deeds.ensures.sound

pub returns-clause-all : goal.returns-clause-all
returns-clause-all c =
    let keys = c.args.self.now.states.keys in
    let key = c.index-as_slice-place.result in
    let there = item_in keys c.as_slice.result.now c.args.place key c.as_slice.ensures.keys c.requires.within c.index-as_slice-place.is in
    IfOk-weaker c.deeds.result _ _ (λ deeds all deed can. all deed (can key there)) c.deeds.ensures.all
