use Rattle.std.proofs.Common.{refl}
use Rattle.lrc_lang.specs.Kind.{all_kinds}
use Rattle.lrc_lang.proofs.kind.all_kinds.Goals as goal

pub returns : goal.returns
unfolding all_kinds
returns c = refl
