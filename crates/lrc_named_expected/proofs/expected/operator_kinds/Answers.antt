use Rattle.std.proofs.Common.{refl}
use Rattle.lrc_named_expected.specs.Kind.{operator_kinds}
use Rattle.lrc_named_expected.proofs.expected.operator_kinds.Goals as goal

pub returns : goal.returns
unfolding operator_kinds
returns c = refl
