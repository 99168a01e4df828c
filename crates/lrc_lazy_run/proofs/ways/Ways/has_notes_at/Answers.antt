use Rattle.std.proofs.Common.{◌≡◌, ◌∙◌, ap, rules, sym}
use Rattle.std.specs.Cmp.Lexicographic.{pointwise}
use Rattle.std.proofs.lemmas.Option.{same_Some}
use Rattle.lrc_trace.specs.contracts.act.ActPartialEq.TheImpl.{eq-value as act_eq}
use Rattle.lrc_orders.proofs.Alike.{acts_same}
use Rattle.lrc_orders.proofs.Keeping.{item_in}
use Rattle.lrc_orders.proofs.KeptAlike.{equal_items}
use Rattle.lrc_lazy_search.specs.declared.state.LazyState.{LazyState}
use Rattle.lrc_explore.proofs.Ending.{act_itself}
use Rattle.lrc_lazy_run.proofs.ways.Ways.has_notes_at.Goals as goal

pub returns : goal.returns
returns c =
    let keys = c.args.self.now.states.keys in
    let key = c.index-as_slice-place.result in
    let there = item_in keys c.as_slice.result.now c.args.place key c.as_slice.ensures.keys c.requires c.index-as_slice-place.is in
    let kept = key.notes.items in
    let notes = c.args.notes.now in
    let is : c.eq.result ≡ pointwise act_eq.it kept notes = search rules in (
      λ holds wanted at. sym (ap (λ (k : LazyState). k.notes.items) (same_Some key wanted (sym there ∙ at))) ∙ acts_same kept notes (sym is ∙ holds),
      λ equal. is ∙ equal_items act_eq.it act_itself kept notes (equal key there),
    )
