use Rattle.std.proofs.Common.{◌∙◌, refl}
use Rattle.lrc_svg.proofs.Rows.{on_ok}
use Rattle.lrc_svg.specs.declared.name.Tag.TheVariants as tags
use Rattle.lrc_chart_svg.specs.Marks.{all_marks}
use Rattle.lrc_chart_svg.proofs.Said.{label_shows, own_by, said_in_one, shows_alone}
use Rattle.lrc_chart_svg.proofs.paint.push_label.Goals as goal

pub push_element-requires : goal.push_element-requires
push_element-requires c =
    own_by tags.Label c.push_hand.new.attributes.items _
    (said_in_one c.new-attributes.result.items _ _ c.new-attributes.ensures.items c.in_ok-push_hand.ensures) refl

pub returns : goal.returns
returns c =
    let said_is =
    said_in_one c.new-attributes.result.items c.push_hand.new.attributes.items _ c.new-attributes.ensures.items c.in_ok-push_hand.ensures in
    on_ok c.push_element.result
    (λ marks_are. marks_are
    ∙ shows_alone (all_marks c.args.contents.now.items) _ _ _
    (label_shows _ _ _ _ _ _ _ said_is c.in_ok-inside.ensures.told) c.in_ok-inside.ensures.alone)
    c.push_element.ensures
