use Rattle.std.proofs.Common.{refl}
use Rattle.lrc_why.proofs.Telling.{beside-decided}
use Rattle.lrc_why.proofs.positions.is_beside.Goals as goal

pub returns : goal.returns
returns c = beside-decided c.args.acts.now c.args.intervals.now c.args.position c.args.k _ _ c.requires.intervals c.requires.position c.requires.within
    c.if-not-is_act_of.ensures refl
