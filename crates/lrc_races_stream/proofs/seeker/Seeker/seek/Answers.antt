-- The last line that is wanted has come, or there were more turns than are counted.
use Rattle.std.proofs.Common.{subst}
use Rattle.lrc_races_stream.specs.Reach.{GoesOn, exhausted}
use Rattle.lrc_races_stream.proofs.seeker.Seeker.seek.Goals as goal

pub returns-in-Ok-true-clause-come : goal.returns-in-Ok-true-clause-come
returns-in-Ok-true-clause-come g c sought form last held u =
    subst (GoesOn (g.K.Keep.has_kept sought) form last held (g.B.Blocks.left c.turn.new.trace) c.turn.new.self.front) c.in-Ok-true.field-0-test
    (c.in-Ok-true.ensures.goes sought form last held (c.loop-turn.invariant sought form last held u))

pub returns-clause-stop : goal.returns-clause-stop
returns-clause-stop g c sought form last held u = exhausted
