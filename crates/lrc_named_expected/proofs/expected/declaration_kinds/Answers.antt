use Rattle.std.proofs.Common.{refl}
use Rattle.lrc_named_expected.specs.Kind.{declaration_kinds}
use Rattle.lrc_named_expected.proofs.expected.declaration_kinds.Goals as goal

pub returns : goal.returns
unfolding declaration_kinds
returns c = refl
