-- The parts are added, one after another.
use Rattle.std.proofs.Common.{ap}
use Rattle.lrc_json.specs.Spelling.{quoted}
use Rattle.lrc_races_text.proofs.TextLemmas.{start, one, one_as, two, two_as}
use Rattle.lrc_races_text.proofs.objects.push_access.Goals as goal

pub returns : goal.returns
returns c =
    let a = two (start c.args.text.now.items) _ _ c.in_ok-push_number.ensures.ok in
    let b = two a _ _ c.in_ok-push_two.ensures in
    let d = one_as b _ _ (ap quoted c.name.ensures) c.in_ok-push_quoted.ensures in
    let e = two_as d _ _ _ c.kind_word.ensures c.in_ok-push_two-2.ensures in
    let f = two e _ _ c.in_ok-push_two-3.ensures in
    let g = one f _ c.in_ok-push_place.ensures in
    (two g _ _ c.in_ok-push_two-4.ensures).is
