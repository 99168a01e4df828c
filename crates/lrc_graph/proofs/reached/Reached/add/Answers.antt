use Rattle.std.proofs.Common.{◌∙◌, sym, refl, true, false}
use Rattle.std.specs.Vec.{with_item}
use Rattle.std.proofs.lemmas.List.{get_or_read}
use Rattle.lrc_graph.specs.declared.reached.Reached.{Reached}
use Rattle.lrc_graph.proofs.Adding.{added_listed}
use Rattle.lrc_graph.proofs.reached.Reached.add.Goals as goal

pub returns-in_ok-push-clause-listed : goal.returns-in_ok-push-clause-listed
returns-in_ok-push-clause-listed c =
    let old = c.args.self.now in
    let new : Reached = record { is = with_item old.is c.args.place true; places = c.push.new.self } in
    added_listed old new c.args.place c.requires.listed c.requires.within
    (sym (get_or_read old.is.items c.args.place c.index.result.now c.requires.within c.index.ensures false) ∙ c.if-not-index.true) refl
    c.in_ok-push.ensures.items
