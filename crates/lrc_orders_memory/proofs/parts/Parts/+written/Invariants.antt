use Rattle.lrc_orders_memory.proofs.parts.Parts.+written.Given as goal

abbrev pub decreases-written : goal.decreases-written
decreases-written l = l.count
