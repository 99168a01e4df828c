use Rattle.lrc_chart_text.proofs.Longest.{no_line_is_longer}
use Rattle.lrc_chart_text.proofs.laws.no_line_is_longer_than_the_terminal.Goals as goal

pub returns : goal.returns
returns c = no_line_is_longer
