use Rattle.std.proofs.lemmas.Result.{IfOk-weaker}
use Rattle.lrc_orders.proofs.Keeping.{item_in}
use Rattle.lrc_lazy_search.proofs.Searched.{reached_fit}
use Rattle.lrc_lazy_run.proofs.Striding.{can_of_free}
use Rattle.lrc_lazy_run.proofs.ways.Ways.free_act.Goals as goal

pub free_act-requires-clause-fit : goal.free_act-requires-clause-fit
free_act-requires-clause-fit c =
    let sought = c.args.sought.now in
    let keys = c.args.self.now.states.keys in
    let key = c.index-as_slice-place.result in
    let there = item_in keys c.as_slice.result.now c.args.place key c.as_slice.ensures.keys c.requires.within c.index-as_slice-place.is in
    reached_fit sought.program.now sought.flat key c.args.place c.requires.ways.task.words (c.requires.ways.kept.reached c.args.place key there)

pub returns : goal.returns
returns c =
    let flat = c.args.sought.now.flat in
    let keys = c.args.self.now.states.keys in
    let key = c.index-as_slice-place.result in
    let there = item_in keys c.as_slice.result.now c.args.place key c.as_slice.ensures.keys c.requires.within c.index-as_slice-place.is in
    IfOk-weaker c.free_act.result _ _ (λ found free. can_of_free flat keys c.args.place key found there free) c.free_act.ensures
