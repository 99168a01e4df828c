use Rattle.std.proofs.Common.{◌∙◌, ap, refl}
use Rattle.lrc_svg.proofs.Rows.{on_ok}
use Rattle.lrc_svg.specs.declared.name.Tag.TheVariants as tags
use Rattle.lrc_chart_svg.specs.Marks.{all_marks}
use Rattle.lrc_chart_svg.proofs.Said.{line_shows, own_by, said_in_two, shows_alone}
use Rattle.lrc_chart_svg.proofs.paint.push_line.Goals as goal

pub push_element-requires : goal.push_element-requires
push_element-requires c =
    own_by tags.Line c.push_line_style.new.attributes.items _
    (said_in_two c.new-attributes.result.items c.push_ends.new.attributes.items _ _ _ c.new-attributes.ensures.items
    c.in_ok-push_ends.ensures c.in_ok-push_line_style.ensures)
    refl

pub returns : goal.returns
returns c =
    let said_is =
    said_in_two c.new-attributes.result.items c.push_ends.new.attributes.items c.push_line_style.new.attributes.items _ _
    c.new-attributes.ensures.items c.in_ok-push_ends.ensures c.in_ok-push_line_style.ensures in
    on_ok c.push_element.result
    (λ marks_are. marks_are ∙ shows_alone (all_marks c.args.contents.now.items) _ _ _ (line_shows _ _ _ _ _ _ _ _ said_is) (ap all_marks c.new.ensures.items))
    c.push_element.ensures
