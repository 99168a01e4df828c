use Rattle.lrc_order_laws.proofs.LockExpected.{request_expected, forward_expected, grant_awaited}
use Rattle.lrc_order_laws.proofs.locks.pending_lock_messages_are_expected.Goals as goal

pub returns-clause-requests : goal.returns-clause-requests
returns-clause-requests c = λ program nodes options events world place envelope m l e is says at.
    request_expected program nodes options events world e place envelope is l at m says

pub returns-clause-forwards : goal.returns-clause-forwards
returns-clause-forwards c = λ program nodes options events world place envelope m l e is says at.
    forward_expected program nodes options events world e place envelope is l at m says

pub returns-clause-grants : goal.returns-clause-grants
returns-clause-grants c = λ program nodes options events world place envelope m l e is says at.
    grant_awaited program nodes options events world e place envelope is l at m says
