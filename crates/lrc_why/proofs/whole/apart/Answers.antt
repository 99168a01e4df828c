use Rattle.lrc_why.specs.Whole.{apart, race}
use Rattle.lrc_why.proofs.whole.apart.Goals as goal

pub returns-then-not-races : goal.returns-then-not-races
returns-then-not-races c = apart c.requires.apart c.if-not-races.ensures c.parting-parting.ensures

pub returns : goal.returns
returns c = race c.if-not-races.ensures c.parting-parting.ensures c.in_ok-first.ensures c.in_ok-second.ensures
