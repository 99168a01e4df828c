use Rattle.std.proofs.Common.{refl}
use Rattle.lrc_lint_lines.specs.Kind.{operand_kinds}
use Rattle.lrc_lint_lines.proofs.expected.operand_kinds.Goals as goal

pub returns : goal.returns
unfolding operand_kinds
returns c = refl
