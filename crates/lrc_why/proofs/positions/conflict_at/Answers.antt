use Rattle.lrc_why.proofs.Conflicts.{decided}
use Rattle.lrc_why.proofs.positions.conflict_at.Goals as goal

pub returns : goal.returns
returns c = decided c.args.acts.now c.args.first c.args.second _ _ c.conflict.result c.requires.first c.requires.second c.conflict.ensures
