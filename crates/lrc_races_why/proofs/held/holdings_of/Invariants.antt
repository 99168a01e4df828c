-- What is kept of the events so far.
use Rattle.lrc_races_why.specs.Held.{AreHoldings}
use Rattle.lrc_races_why.proofs.held.holdings_of.Given as goal

abbrev pub invariant-loop-at : goal.invariant-loop-at
invariant-loop-at l = AreHoldings l.events l.thread l.at l.holdings.items
