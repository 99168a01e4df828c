use Rattle.lrc_exact_collected.proofs.Theorem.{was_collected}
use Rattle.lrc_exact_collected.proofs.laws.barriers_collect_exactly.Goals as goal

pub returns : goal.returns
returns c = was_collected
