-- Each test rules out that the thread came to hold a lock there.
use Rattle.lrc_races_why.proofs.Holding.{since_other, since_no_acquire, since_unheld, since_apart, since_found}
use Rattle.lrc_races_why.proofs.held.held_since.Goals as goal

pub returns-then-event-thread : goal.returns-then-event-thread
returns-then-event-thread c = λ events n lt here are.
    since_other events n c.args.position c.args.thread lt c.args.event here c.args.holdings.now are c.if-event-thread.true

pub returns-in_default : goal.returns-in_default
returns-in_default c = λ events n lt here are.
    since_no_acquire events n c.args.position c.args.thread lt c.args.event here c.args.holdings.now are c.in_default.not-Acquire

pub returns-then-holding-eq0 : goal.returns-then-holding-eq0
returns-then-holding-eq0 c = λ events n lt here are.
    since_unheld events n c.args.position c.args.thread lt c.args.event here c.args.holdings.now are c.in-Acquire.lock c.in-Acquire.is
    c.holding_at-holding.result c.holding_at-holding.ensures c.if-holding-eq0.true

pub returns-then-holding-position : goal.returns-then-holding-position
returns-then-holding-position c = λ events n lt here are.
    since_apart events n c.args.position c.args.thread lt c.args.event here c.args.holdings.now are c.in-Acquire.lock c.in-Acquire.is
    c.holding_at-holding.result c.holding_at-holding.ensures c.if-holding-position.true

pub returns : goal.returns
returns c = λ events n lt here are.
    since_found events n c.args.position c.args.thread lt c.args.event here c.args.holdings.now are c.in-Acquire.lock
    c.holding_at-holding.result c.holding_at-holding.ensures c.if-holding-eq0.false c.if-holding-position.false
