use Rattle.std.proofs.Common.{refl}
use Rattle.lrc_named_expected.specs.Kind.{operand_kinds}
use Rattle.lrc_named_expected.proofs.expected.operand_kinds.Goals as goal

pub returns : goal.returns
unfolding operand_kinds
returns c = refl
