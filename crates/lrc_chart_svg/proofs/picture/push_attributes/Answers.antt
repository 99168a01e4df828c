use Rattle.lrc_svg.proofs.Rows.{on_ok}
use Rattle.lrc_chart_svg.specs.Attributes.{said}
use Rattle.lrc_chart_svg.proofs.Painted.{joined}
use Rattle.lrc_chart_svg.proofs.picture.push_attributes.Goals as goal

pub returns : goal.returns
returns c =
    let start = said c.args.attributes.now.items in
    let size = joined start _ _ _ _ c.in_ok-push_value.ensures c.in_ok-push_size.ensures in
    let family = joined start _ _ _ _ size c.in_ok-push_value-2.ensures in
    on_ok c.push_value-3.result (joined start _ _ _ _ family) c.push_value-3.ensures
