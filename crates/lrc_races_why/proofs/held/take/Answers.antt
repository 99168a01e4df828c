-- An acquire and a release change what is kept of their lock.
use Rattle.std.proofs.Common.{◌∙◌, ap}
use Rattle.lrc_races_why.specs.Held.{holding_at}
use Rattle.lrc_races_why.proofs.Holding.{holdings_kept, holdings_acquired, holdings_released}
use Rattle.lrc_races_why.proofs.held.take.Goals as goal

pub returns-in_ok-set-in-Acquire : goal.returns-in_ok-set-in-Acquire
returns-in_ok-set-in-Acquire c = λ events few here old.
    holdings_acquired events c.args.position c.args.event here c.args.holdings.now.items c.in-Acquire.lock c.in-Acquire.is few c.set.new.holdings.items
    c.holding_at-holding.result c.acquired.result
    (c.holding_at-holding.ensures ∙ ap (λ hs. holding_at hs c.in-Acquire.lock) c.as_slice.ensures.value) c.acquired.ensures.depth
    c.acquired.ensures.first c.acquired.ensures.again c.in_ok-set-in-Acquire.ensures old

pub returns-in_ok-set-in-Release : goal.returns-in_ok-set-in-Release
returns-in_ok-set-in-Release c = λ events few here old.
    holdings_released events c.args.position c.args.event here c.args.holdings.now.items c.in-Release.lock c.in-Release.is c.set-in-Release.new.holdings.items
    c.holding_at-holding-in-Release.result _
    (c.holding_at-holding-in-Release.ensures ∙ ap (λ hs. holding_at hs c.in-Release.lock) c.as_slice-in-Release.ensures.value) c.released.ensures.depth
    c.released.ensures.since c.in_ok-set-in-Release.ensures old

pub returns-in_default : goal.returns-in_default
returns-in_default c = λ events few here old.
    holdings_kept events c.args.position c.args.event here c.args.holdings.now.items c.in_default.not-Acquire c.in_default.not-Release old
