use Rattle.std.proofs.Common.{rules, refl}
use Rattle.lrc_bytes_turns.proofs.Telling.{sees_none}
use Rattle.lrc_bytes_turns.proofs.seen.Seen.new.Goals as goal

pub returns-clause-sees : goal.returns-clause-sees
returns-clause-sees c = sees_none _ refl (search rules)
