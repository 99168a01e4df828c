use Rattle.std.proofs.Common.{arith}
use Rattle.lrc_wire.proofs.writing.runs.put_runs.Goals as goal

pub overflow_cast-count_runs : goal.overflow_cast-count_runs
overflow_cast-count_runs c = omega (arith, c.count_runs.ensures.few, c.count_runs.ensures.small)
