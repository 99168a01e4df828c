use Rattle.lrc_reading_laws.proofs.Received.AllExpected.{expected, accepted}
use Rattle.lrc_reading_laws.proofs.messages.no_taken_message_is_unexpected.Goals as goal

pub returns-clause-pending : goal.returns-clause-pending
returns-clause-pending c = λ program nodes options events world e l runs there at. expected program nodes options events world runs e l there at

pub returns-clause-in_flight : goal.returns-clause-in_flight
returns-clause-in_flight c = λ program nodes options events world place flying l runs is at.
    accepted program nodes options events world runs place flying l is at
