use Rattle.std.proofs.Common.{refl}
use Rattle.lrc_lint_lines.specs.Kind.{statement_kinds}
use Rattle.lrc_lint_lines.proofs.expected.statement_kinds.Goals as goal

pub returns : goal.returns
unfolding statement_kinds
returns c = refl
