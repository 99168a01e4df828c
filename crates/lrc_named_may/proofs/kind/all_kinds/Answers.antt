use Rattle.std.proofs.Common.{refl}
use Rattle.lrc_named_may.specs.Kind.{all_kinds}
use Rattle.lrc_named_may.proofs.kind.all_kinds.Goals as goal

pub returns : goal.returns
unfolding all_kinds
returns c = refl
