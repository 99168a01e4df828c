-- So many lines are known, and all is told of them, or nothing is.
use Rattle.lrc_races_stream.proofs.HearingLemmas.{ended_to}
use Rattle.lrc_races_stream.proofs.hearing.Hearing.end_to.Goals as goal

pub returns-then-knows_at_end-clause-heard : goal.returns-then-knows_at_end-clause-heard
returns-then-knows_at_end-clause-heard g c =
    ended_to c.args.self.now c.knows_at_end.new.self (g.E.Write.contents c.args.err.now) (g.E.Write.contents c.tell_to.new.err) c.tell_to.result c.args.count
    c.knows_at_end.ensures.told c.if-knows_at_end.ensures.count c.tell_to.ensures.heard

pub returns-then-knows_at_end-clause-untold : goal.returns-then-knows_at_end-clause-untold
returns-then-knows_at_end-clause-untold g c = c.tell_to.ensures.untold
