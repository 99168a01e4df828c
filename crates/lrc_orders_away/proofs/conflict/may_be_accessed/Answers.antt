use Rattle.lrc_orders_away.proofs.Conflicting.{never_read, never_written, not_read, not_written, read_not_written, written_not_read}
use Rattle.lrc_orders_away.proofs.conflict.may_be_accessed.Goals as goal

pub returns-in-Read-clause-read : goal.returns-in-Read-clause-read
returns-in-Read-clause-read c = λ e.
    never_read c.args.follower.now c.args.word.now c.args.names.now c.args.deed c.in-Read.accessed c.in-Read.field-1 c.from.result c.in-Read.is
    c.from.ensures (c.may_be.ensures e)

pub returns-in-Read-clause-written : goal.returns-in-Read-clause-written
returns-in-Read-clause-written c = λ e.
    read_not_written c.args.follower.now c.args.word.now c.args.names.now c.args.deed c.in-Read.accessed c.in-Read.field-1 c.in-Read.is

pub returns-in-Write-clause-read : goal.returns-in-Write-clause-read
returns-in-Write-clause-read c = λ e.
    written_not_read c.args.follower.now c.args.word.now c.args.names.now c.args.deed c.in-Write.accessed c.in-Write.field-1 c.in-Write.is

pub returns-in-Write-clause-written : goal.returns-in-Write-clause-written
returns-in-Write-clause-written c = λ e.
    never_written c.args.follower.now c.args.word.now c.args.names.now c.args.deed c.in-Write.accessed c.in-Write.field-1 c.from-in-Write.result
    c.in-Write.is c.from-in-Write.ensures (c.may_be-in-Write.ensures e)

pub returns-in_default-clause-read : goal.returns-in_default-clause-read
returns-in_default-clause-read c = λ e. not_read c.args.follower.now c.args.word.now c.args.names.now c.args.deed c.in_default.not-Read

pub returns-in_default-clause-written : goal.returns-in_default-clause-written
returns-in_default-clause-written c = λ e. not_written c.args.follower.now c.args.word.now c.args.names.now c.args.deed c.in_default.not-Write
