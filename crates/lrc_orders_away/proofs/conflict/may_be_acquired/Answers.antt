use Rattle.lrc_orders_away.proofs.Conflicting.{never_acquired, not_acquired}
use Rattle.lrc_orders_away.proofs.conflict.may_be_acquired.Goals as goal

pub returns-in-Acquire : goal.returns-in-Acquire
returns-in-Acquire c = λ e.
    never_acquired c.args.follower.now c.args.lock.now c.args.names.now c.args.deed c.in-Acquire.acquired c.from.result c.in-Acquire.is c.from.ensures
    (c.may_be.ensures e)

pub returns-in_default : goal.returns-in_default
returns-in_default c = λ e. not_acquired c.args.follower.now c.args.lock.now c.args.names.now c.args.deed c.in_default.not-Acquire
