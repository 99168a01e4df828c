use Rattle.std.proofs.Common.{length}
use Rattle.lrc_orders_memory.proofs.parts.Parts.+number.Given as goal

abbrev pub decreases-number : goal.decreases-number
decreases-number l = length l.words.now
