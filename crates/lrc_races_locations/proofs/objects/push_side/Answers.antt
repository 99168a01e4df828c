-- The parts are added, one after another.
use Rattle.lrc_races_locations.proofs.Parts.{start, one, two, two_as}
use Rattle.lrc_races_locations.proofs.objects.push_side.Goals as goal

pub returns : goal.returns
returns c =
    let a = two (start c.args.text.now.items) _ _ c.in_ok-push_two.ensures in
    let b = one a _ c.in_ok-push_place.ensures in
    let d = two_as b _ _ _ c.kind_word.ensures c.in_ok-push_two-2.ensures in
    (two d _ _ c.in_ok-push_two-3.ensures).is
