use Rattle.std.proofs.Common.{◌∙◌, ap}
use Rattle.lrc_chart_svg.specs.Marks.{begins_with_digit}
use Rattle.lrc_chart_svg.proofs.Signs.{coming_starts, leaving_starts}
use Rattle.lrc_chart_svg.proofs.arrows.push_arrow.Goals as goal

pub push_path-requires : goal.push_path-requires
push_path-requires c = ap begins_with_digit c.between-way.ensures.leaves ∙ leaving_starts c.args.arrow.now.sender c.args.arrow.now.receiver

pub push_path-requires-2 : goal.push_path-requires-2
push_path-requires-2 c = ap begins_with_digit c.between-way.ensures.comes ∙ coming_starts c.args.arrow.now.sender c.args.arrow.now.receiver
