use Rattle.std.proofs.Common.{inr}
use Rattle.lrc_cli.proofs.performance.print_pairs.Goals as goal

pub returns-in-Err-NoMemory : goal.returns-in-Err-NoMemory
returns-in-Err-NoMemory g c = inr (c.in-Err-NoMemory.ensures.err, c.put_line.ensures)
