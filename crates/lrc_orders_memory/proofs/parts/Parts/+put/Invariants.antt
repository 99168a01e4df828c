use Rattle.lrc_orders_memory.proofs.parts.Parts.+put.Given as goal

abbrev pub decreases-put : goal.decreases-put
decreases-put l = l.count
