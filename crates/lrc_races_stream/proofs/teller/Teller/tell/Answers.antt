use Rattle.lrc_races_stream.proofs.HearingLemmas.{heard_none}
use Rattle.lrc_races_stream.proofs.TellerLemmas.{out_of_memory}
use Rattle.lrc_races_stream.proofs.teller.Teller.tell.Goals as goal

pub loop-turn-preserved : goal.loop-turn-preserved
loop-turn-preserved g c = record {
  comes = λ form asked held start u. c.in_default.ensures.comes form asked held start (c.loop-turn.invariant.comes form asked held start u);
  hears = λ form held start h. c.in_default.ensures.hears form held start (c.loop-turn.invariant.hears form held start h);
}

pub returns-in-Some-clause-comes : goal.returns-in-Some-clause-comes
returns-in-Some-clause-comes g c form asked held start u =
    c.in-Some.ensures.comes form asked held start (c.loop-turn.invariant.comes form asked held start u)

pub returns-in-Some-clause-hears : goal.returns-in-Some-clause-hears
returns-in-Some-clause-hears g c form held start h = c.in-Some.ensures.hears form held start (c.loop-turn.invariant.hears form held start h)

pub returns-clause-comes : goal.returns-clause-comes
returns-clause-comes g c form asked held start u = out_of_memory form asked held _ start _ _ (c.loop-turn.invariant.comes form asked held start u)

pub returns-clause-hears : goal.returns-clause-hears
returns-clause-hears g c form held start h = heard_none (c.loop-turn.invariant.hears form held start h)
