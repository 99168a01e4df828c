use Rattle.lrc_orders_away.proofs.Conflicting.{others_away}
use Rattle.lrc_orders_away.proofs.conflict.may_conflict_by.Goals as goal

pub returns-in_default : goal.returns-in_default
returns-in_default c = λ e.
    others_away c.args.follower.now c.args.names.now c.args.deed c.args.statement.now c.in_default.not-Read c.in_default.not-Write c.in_default.not-Acquire
