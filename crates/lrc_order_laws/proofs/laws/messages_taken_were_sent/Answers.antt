use Rattle.std.specs.Prelude.{◌+◌, [], slice_index, slice_index_or}
use Rattle.lrc_order_laws.proofs.TakenOnce.{all_taken, rises-below}
use Rattle.lrc_order_laws.proofs.laws.messages_taken_were_sent.Goals as goal

pub returns-clause-below : goal.returns-clause-below
returns-clause-below c = λ program nodes options events world from to sender receiver e at_from at_to.
    rises-below options.first (options.first + slice_index sender.node.mail.sent to) (slice_index_or receiver.node.mail.taken from [])
    ((all_taken program nodes options events world e).rises from to sender receiver at_from at_to)

pub returns-clause-once : goal.returns-clause-once
returns-clause-once c = λ program nodes options events world from to sender receiver e at_from at_to.
    (all_taken program nodes options events world e).rises from to sender receiver at_from at_to
