use Rattle.std.proofs.Common.{◌∙◌, ap, arith, refl}
use Rattle.lrc_svg.proofs.Rows.{on_ok}
use Rattle.lrc_svg.specs.declared.name.Tag.TheVariants as tags
use Rattle.lrc_chart_svg.specs.Marks.{all_marks}
use Rattle.lrc_chart_svg.proofs.Said.{own_by, path_shows, said_in_two, shows_alone}
use Rattle.lrc_chart_svg.proofs.paint.push_path.Goals as goal

pub push_element-requires : goal.push_element-requires
push_element-requires c =
    own_by tags.Path c.push_style.new.attributes.items _
    (said_in_two c.new-attributes.result.items c.push_points.new.attributes.items _ _ _ c.new-attributes.ensures.items
    c.in_ok-push_points.ensures c.in_ok-push_style.ensures)
    refl

pub returns : goal.returns
returns c =
    let said_is =
    said_in_two c.new-attributes.result.items c.push_points.new.attributes.items c.push_style.new.attributes.items _ _
    c.new-attributes.ensures.items c.in_ok-push_points.ensures c.in_ok-push_style.ensures in
    on_ok c.push_element.result
    (λ marks_are. marks_are
    ∙ shows_alone (all_marks c.args.contents.now.items) _ _ _
    (path_shows _ c.args.start.x c.args.start.y _ _ _ _ _ (omega arith) (omega arith) c.requires said_is) (ap all_marks c.new.ensures.items))
    c.push_element.ensures
