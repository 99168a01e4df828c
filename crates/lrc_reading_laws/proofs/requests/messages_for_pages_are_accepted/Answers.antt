use Rattle.lrc_order_laws.proofs.Reached.{IsReached}
use Rattle.lrc_reading_laws.proofs.Collected.Law.{asked_have_bases}
use Rattle.lrc_reading_laws.proofs.Asked.Bases.{page_request-accepted}
use Rattle.lrc_reading_laws.proofs.Asked.Accepted.{changes_reply-accepted, page_reply-accepted}
use Rattle.lrc_reading_laws.proofs.Asked.Expected.{changes_request-accepted}
use Rattle.lrc_reading_laws.proofs.requests.messages_for_pages_are_accepted.Goals as goal

pub returns-clause-changes_request : goal.returns-clause-changes_request
returns-clause-changes_request c = λ program nodes options events world e m l runs there is at.
    changes_request-accepted program nodes options world (record { events = events; runs = runs }) e m l there is at

pub returns-clause-changes_reply : goal.returns-clause-changes_reply
returns-clause-changes_reply c = λ program nodes options events world e m l runs there is at.
    changes_reply-accepted program nodes options world (record { events = events; runs = runs }) e m l there is at

pub returns-clause-page_reply : goal.returns-clause-page_reply
returns-clause-page_reply c = λ program nodes options events world e m l runs there is at.
    page_reply-accepted program nodes options world (record { events = events; runs = runs }) e m l there is at

pub returns-clause-page_request : goal.returns-clause-page_request
returns-clause-page_request c = λ program nodes options events world e page l runs there is at.
    let r : IsReached program nodes options world = record { events = events; runs = runs } in
    page_request-accepted program nodes options world r (asked_have_bases program nodes options world r) e page l there is at
