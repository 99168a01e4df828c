-- The parts are added, one after another.
use Rattle.std.proofs.Common.{◌∙◌, ap}
use Rattle.lrc_json.specs.Spelling.{quoted}
use Rattle.lrc_races_text.specs.Spelled.{name_at}
use Rattle.lrc_races_text.specs.Tables.{naming_of}
use Rattle.lrc_races_locations.specs.Layouts.{location_object}
use Rattle.lrc_races_locations.proofs.Parts.{start, one, one_as, two}
use Rattle.lrc_races_locations.proofs.objects.push_pair.Goals as goal

pub returns : goal.returns
unfolding location_object
returns c =
    let a = two (start c.args.text.now.items) _ _ c.in_ok-push_two.ensures in
    let b = one a _ c.in_ok-push_side.ensures in
    let d = two b _ _ c.in_ok-push_two-2.ensures in
    let e = one d _ c.in_ok-push_side-2.ensures in
    let g = two e _ _ c.in_ok-push_two-3.ensures in
    let variable_is = ap quoted (c.name.ensures ∙ ap (name_at (naming_of c.args.names.now).variables) c.variable_of-variable.ensures) in
    let h = one_as g _ _ variable_is c.in_ok-push_quoted.ensures in
    let i = two h _ _ c.in_ok-push_number.ensures.ok in
    let j = two i _ _ c.in_ok-push_number-2.ensures.ok in
    (two j _ _ c.in_ok-push_two-4.ensures).is
