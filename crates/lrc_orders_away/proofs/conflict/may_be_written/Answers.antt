use Rattle.lrc_orders_away.proofs.Conflicting.{never_written, not_written}
use Rattle.lrc_orders_away.proofs.conflict.may_be_written.Goals as goal

pub returns-in-Write : goal.returns-in-Write
returns-in-Write c = λ e.
    never_written c.args.follower.now c.args.word.now c.args.names.now c.args.deed c.in-Write.written c.in-Write.field-1 c.from.result c.in-Write.is
    c.from.ensures (c.may_be.ensures e)

pub returns-in_default : goal.returns-in_default
returns-in_default c = λ e. not_written c.args.follower.now c.args.word.now c.args.names.now c.args.deed c.in_default.not-Write
