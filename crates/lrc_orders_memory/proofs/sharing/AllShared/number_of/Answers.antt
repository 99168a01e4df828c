use Rattle.lrc_orders_memory.proofs.sharing.AllShared.number_of.Goals as goal

pub returns-clause-there : goal.returns-clause-there
returns-clause-there c = c.in_ok-number.ensures.there c.args.words.now c.in_ok-memory.ensures.is
