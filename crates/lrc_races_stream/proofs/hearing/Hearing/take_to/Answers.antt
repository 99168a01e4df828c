-- So many lines are known, and all is told of them, or nothing is.
use Rattle.lrc_races_stream.proofs.HearingLemmas.{taken_to}
use Rattle.lrc_races_stream.proofs.hearing.Hearing.take_to.Goals as goal

pub returns-then-knows-clause-heard : goal.returns-then-knows-clause-heard
returns-then-knows-clause-heard g c =
    taken_to c.args.self.now c.knows.new.self (g.E.Write.contents c.args.err.now) (g.E.Write.contents c.tell_to.new.err) c.tell_to.result c.args.block.now c.args.count
    c.knows.ensures.told c.if-knows.ensures.count c.tell_to.ensures.heard

pub returns-then-knows-clause-untold : goal.returns-then-knows-clause-untold
returns-then-knows-clause-untold g c = c.tell_to.ensures.untold
