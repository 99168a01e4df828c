use Rattle.lrc_protocol.proofs.Skips.{repeat-delivered, repeat-run}
use Rattle.lrc_protocol.proofs.laws.repeats_change_nothing_but_the_log.Goals as goal

pub returns-clause-run : goal.returns-clause-run
returns-clause-run c = λ world after place flying l at there a r e. repeat-run world after place flying l at there a r e

pub returns-clause-delivered : goal.returns-clause-delivered
returns-clause-delivered c = λ world after place flying l at there a r e. repeat-delivered world after place flying l at there a r e
