use Rattle.lrc_orders_memory.proofs.parts.Parts.+word.Given as goal

abbrev pub decreases-word : goal.decreases-word
decreases-word l = l.count
