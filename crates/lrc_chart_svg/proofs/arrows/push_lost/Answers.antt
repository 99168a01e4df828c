use Rattle.std.proofs.Common.{◌∙◌, ap}
use Rattle.lrc_chart_svg.specs.Marks.{begins_with_digit}
use Rattle.lrc_chart_svg.proofs.Signs.{leaving_starts}
use Rattle.lrc_chart_svg.proofs.arrows.push_lost.Goals as goal

pub push_path-requires : goal.push_path-requires
push_path-requires c = ap begins_with_digit c.between-way.ensures.leaves ∙ leaving_starts c.args.lost.now.sender c.args.lost.now.receiver
