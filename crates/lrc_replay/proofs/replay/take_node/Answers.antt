use Rattle.lrc_replay.proofs.Replayed.{is_refused}
use Rattle.lrc_replay.proofs.replay.take_node.Goals as goal

pub returns-in_ok-refused-in-Err : goal.returns-in_ok-refused-in-Err
returns-in_ok-refused-in-Err c was is = is_refused (c.in-Err.ensures.refused was is) c.in_ok-refused-in-Err.ensures
