use Rattle.lrc_races_stream.proofs.HearingLemmas.{heard_none}
use Rattle.lrc_races_stream.proofs.TellerLemmas.{begun, out_of_memory}
use Rattle.lrc_races_stream.proofs.teller.tell_races.Goals as goal

pub returns-in-Err-clause-comes : goal.returns-in-Err-clause-comes
returns-in-Err-clause-comes g c =
    out_of_memory c.args.form c.args.asked (g.B.Blocks.left c.args.trace.now) (g.B.Blocks.left c.args.trace.now) (g.W.Write.contents c.args.out.now) (g.W.Write.contents c.args.out.now)
    c.new-session.result (begun c.args.form c.args.asked (g.B.Blocks.left c.args.trace.now) (g.W.Write.contents c.args.out.now) c.new-session.result c.new-session.ensures)

pub returns-in-Err-clause-hears : goal.returns-in-Err-clause-hears
returns-in-Err-clause-hears g c = heard_none (c.new-hearing.ensures (g.B.Blocks.left c.args.trace.now) (g.E.Write.contents c.args.err.now))

pub returns-in-Ok-clause-comes : goal.returns-in-Ok-clause-comes
returns-in-Ok-clause-comes g c =
    c.tell.ensures.comes c.args.form c.args.asked (g.B.Blocks.left c.args.trace.now) (g.W.Write.contents c.args.out.now)
    (begun c.args.form c.args.asked (g.B.Blocks.left c.args.trace.now) (g.W.Write.contents c.args.out.now) c.new-session.result c.new-session.ensures)

pub returns-in-Ok-clause-hears : goal.returns-in-Ok-clause-hears
returns-in-Ok-clause-hears g c =
    c.tell.ensures.hears c.args.form (g.B.Blocks.left c.args.trace.now) (g.E.Write.contents c.args.err.now)
    (c.new-hearing.ensures (g.B.Blocks.left c.args.trace.now) (g.E.Write.contents c.args.err.now))
