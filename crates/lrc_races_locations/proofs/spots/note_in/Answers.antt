-- All that are not of the same spot stay, and the access comes last.
use Rattle.std.proofs.Common.{◌+◌, ◌++◌, ◌∷◌, [], ◌∙◌, ap, not, rules, sym, subst}
use Rattle.std.proofs.lemmas.Fn.{filter_same}
use Rattle.lrc_races_trace.specs.declared.event.Placed.{Placed}
use Rattle.lrc_races_locations.specs.Spots.{at_one_spot, IsRow}
use Rattle.lrc_races_locations.proofs.Spotting.{Row-noted}
use Rattle.lrc_races_locations.proofs.spots.note_in.Goals as goal

pub returns : goal.returns
returns c = λ events v at accesses old.
    let placed = c.args.placed in
    let kept = filter_same _ (λ (spot : Placed). not (at_one_spot spot.event placed.event)) _ (λ x b f' h. (search rules, search rules))
    c.args.row.now.items c.retain.new.self.items c.retain.ensures.filtered in
    subst (λ row. IsRow events (placed.position + 1) v row) (sym (c.in_ok-push.ensures.items ∙ ap (λ row. row ++ placed ∷ []) kept))
    (Row-noted events v placed at accesses c.args.row.now.items old)
