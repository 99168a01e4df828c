-- An event of another thread changes nothing.
use Rattle.std.proofs.Common.{◌+◌, sym, subst}
use Rattle.lrc_races_why.specs.Held.{AreHoldings}
use Rattle.lrc_races_why.proofs.Holding.{holdings_other}
use Rattle.lrc_races_why.proofs.held.take_of.Goals as goal

pub returns-then-event-thread : goal.returns-then-event-thread
returns-then-event-thread c = λ events few here old.
    holdings_other events c.args.position c.args.event here c.args.holdings.now.items c.args.thread c.if-event-thread.true old

pub returns : goal.returns
returns c = λ events few here old.
    let same = c.if-event-thread.false in
    subst (λ t. AreHoldings events t (c.args.position + 1) c.take.new.holdings.items) same
    (c.in_ok-take.ensures events few here (subst (λ t. AreHoldings events t c.args.position c.args.holdings.now.items) (sym same) old))
