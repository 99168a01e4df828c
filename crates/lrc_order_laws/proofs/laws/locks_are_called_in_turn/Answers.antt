use Rattle.lrc_order_laws.proofs.Held.{tokened_at}
use Rattle.lrc_order_laws.proofs.Calls.{acquired, asked_is_away, let_go, granted_is_awaited}
use Rattle.lrc_order_laws.proofs.laws.locks_are_called_in_turn.Goals as goal

pub returns-clause-acquire : goal.returns-clause-acquire
returns-clause-acquire c = λ program nodes options events world n l lock e at next.
    acquired l.node.course l.node.locks.held lock (tokened_at program nodes options events world n l e at).holding next

pub returns-clause-ask : goal.returns-clause-ask
returns-clause-ask c = λ program nodes options events world n l lock e at wait next away.
    asked_is_away l.node.course l.node.mail.wait l.node.locks.held lock (tokened_at program nodes options events world n l e at).holding
    (tokened_at program nodes options events world n l e at).waits wait next away

pub returns-clause-release : goal.returns-clause-release
returns-clause-release c = λ program nodes options events world n l lock after e at next.
    let_go l.node.course l.node.locks.held lock after (tokened_at program nodes options events world n l e at).holding next

pub returns-clause-grant : goal.returns-clause-grant
returns-clause-grant c = λ program nodes options events world n l lock e at wait.
    granted_is_awaited l.node.mail.wait l.node.locks.held lock (tokened_at program nodes options events world n l e at).waits wait
