use Rattle.std.proofs.Common.{rules, refl}
use Rattle.lrc_turns_text.proofs.Noting.{tells_none}
use Rattle.lrc_turns_text.proofs.told.Told.new.Goals as goal

pub returns-clause-tells : goal.returns-clause-tells
returns-clause-tells c = tells_none _ refl refl (search rules)
