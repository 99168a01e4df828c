use Rattle.std.proofs.Common.{refl}
use Rattle.lrc_lint_lines.specs.Kind.{comparison_kinds}
use Rattle.lrc_lint_lines.proofs.expected.comparison_kinds.Goals as goal

pub returns : goal.returns
unfolding comparison_kinds
returns c = refl
