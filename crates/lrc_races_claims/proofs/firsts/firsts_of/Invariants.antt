-- The first lines of the events so far.
use Rattle.lrc_races_claims.specs.Firsts.{AreFirsts}
use Rattle.lrc_races_claims.proofs.firsts.firsts_of.Given as goal

abbrev pub invariant-loop-position : goal.invariant-loop-position
invariant-loop-position l = AreFirsts l.events l.marks l.position l.firsts
