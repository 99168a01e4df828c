-- Before any event.
use Rattle.lrc_races_sure_pass.proofs.trace.sure_told_of.Goals as goal

pub take_all-requires-clause-fresh : goal.take_all-requires-clause-fresh
take_all-requires-clause-fresh c = c.new-detector.ensures c.args.events.now
