use Rattle.std.proofs.Common.{refl}
use Rattle.lrc_lint_lines.specs.Kind.{operator_kinds}
use Rattle.lrc_lint_lines.proofs.expected.operator_kinds.Goals as goal

pub returns : goal.returns
unfolding operator_kinds
returns c = refl
