use Rattle.std.proofs.Common.{refl}
use Rattle.lrc_named_expected.specs.Kind.{statement_kinds}
use Rattle.lrc_named_expected.proofs.expected.statement_kinds.Goals as goal

pub returns : goal.returns
unfolding statement_kinds
returns c = refl
