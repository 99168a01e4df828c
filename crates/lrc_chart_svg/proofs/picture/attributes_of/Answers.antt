use Rattle.std.proofs.Common.{◌∙◌, ap, refl}
use Rattle.lrc_chart_svg.specs.Marks.{is_space}
use Rattle.lrc_chart_svg.proofs.Said.{once_by, said_in_one, value_is, value_said}
use Rattle.lrc_chart_svg.proofs.picture.attributes_of.Goals as goal

pub returns-clause-once : goal.returns-clause-once
returns-clause-once c =
    once_by c.push_attributes.new.attributes.items _
    (said_in_one c.new-attributes.result.items _ _ c.new-attributes.ensures.items c.in_ok-push_attributes.ensures) refl

pub returns-clause-space : goal.returns-clause-space
returns-clause-space c =
    value_is is_space c.push_attributes.new.attributes.items
    ∙ ap (value_said is_space) (said_in_one c.new-attributes.result.items _ _ c.new-attributes.ensures.items c.in_ok-push_attributes.ensures)

pub returns-clause-said : goal.returns-clause-said
returns-clause-said c =
    said_in_one c.new-attributes.result.items _ _ c.new-attributes.ensures.items c.in_ok-push_attributes.ensures
