use Rattle.lrc_reading_laws.proofs.Laws.{AwaitsBase}
use Rattle.lrc_reading_laws.proofs.Asked.Laws.{are_awaited, changes_request-awaited, changes_reply-awaited}
use Rattle.lrc_reading_laws.proofs.requests.requests_and_replies_are_awaited.Goals as goal

pub returns-clause-page_request : goal.returns-clause-page_request
returns-clause-page_request c = λ program nodes options events world e page l runs there is at.
    let it : AwaitsBase l.node page e.to =
    (are_awaited program nodes options world (record { events = events; runs = runs })).request e page l there is at in
    (it.need, it.waits, it.page_is, it.base_is)

pub returns-clause-page_reply : goal.returns-clause-page_reply
returns-clause-page_reply c = λ program nodes options events world e m l runs there is at.
    let it : AwaitsBase l.node m.page e.from =
    (are_awaited program nodes options world (record { events = events; runs = runs })).reply e m l there is at in
    (it.need, it.waits, it.page_is, it.base_is)

pub returns-clause-changes_request : goal.returns-clause-changes_request
returns-clause-changes_request c = λ program nodes options events world e m l runs there is at.
    changes_request-awaited program nodes options world (record { events = events; runs = runs }) e m l there is at

pub returns-clause-changes_reply : goal.returns-clause-changes_reply
returns-clause-changes_reply c = λ program nodes options events world e m l runs there is at.
    changes_reply-awaited program nodes options world (record { events = events; runs = runs }) e m l there is at
