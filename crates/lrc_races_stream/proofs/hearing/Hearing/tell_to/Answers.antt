-- All is told of so many lines, or nothing is.
use Rattle.lrc_races_stream.proofs.HearingLemmas.{told_to, untold}
use Rattle.lrc_races_stream.proofs.hearing.Hearing.tell_to.Goals as goal

pub returns-clause-heard : goal.returns-clause-heard
returns-clause-heard g c =
    told_to c.up_to-noter.result c.args.self.now c.tell.new.self (g.E.Write.contents c.args.err.now) (g.E.Write.contents c.tell.new.err) c.tell.result c.args.count
    c.args.self.now.front.kept c.up_to-noter.ensures c.tell.ensures

pub returns-clause-untold : goal.returns-clause-untold
returns-clause-untold g c =
    untold c.up_to-noter.result c.args.self.now c.tell.new.self (g.E.Write.contents c.args.err.now) (g.E.Write.contents c.tell.new.err) c.tell.result c.tell.ensures
