use Rattle.std.proofs.Common.{refl}
use Rattle.lrc_named_expected.specs.Kind.{comparison_kinds}
use Rattle.lrc_named_expected.proofs.expected.comparison_kinds.Goals as goal

pub returns : goal.returns
unfolding comparison_kinds
returns c = refl
