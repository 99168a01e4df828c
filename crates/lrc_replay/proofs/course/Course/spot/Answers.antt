use Rattle.std.proofs.Common.{◌∙◌}
use Rattle.lrc_replay.proofs.Coursing.{spot_is}
use Rattle.lrc_replay.proofs.course.Course.spot.Goals as goal

pub returns : goal.returns
returns c plan acts is =
    spot_is plan acts c.args.self.now c.args.node c.line.result c.interval_after.result is c.line.ensures
    (c.interval_after.ensures acts (c.deref.ensures.value ∙ is.closed))
