-- The words of each reason.
use Rattle.lrc_races_text.specs.Tables.{naming_of}
use Rattle.lrc_races_text.proofs.TextLemmas.{start, two, reasoned}
use Rattle.lrc_races_text.proofs.spelling.push_reason.Goals as goal

pub returns-in_ok-push_number-in-Joined : goal.returns-in_ok-push_number-in-Joined
returns-in_ok-push_number-in-Joined c = reasoned (naming_of c.args.names.now) c.args.thread c.args.text.now.items _ c.in-Joined.is
    (two (two (start _) _ _ c.in_ok-push_name-in-Joined.ensures) _ _ c.in_ok-push_number-in-Joined.ensures.ok)

pub returns-in_ok-push_number-in-Waits : goal.returns-in_ok-push_number-in-Waits
returns-in_ok-push_number-in-Waits c = reasoned (naming_of c.args.names.now) c.args.thread c.args.text.now.items _ c.in-Waits.is
    (two (two (two (start _) _ _ c.in_ok-push_name-in-Waits.ensures) _ _ c.in_ok-push_name-in-Waits-2.ensures) _ _ c.in_ok-push_number-in-Waits.ensures.ok)

pub returns-in_ok-push_name-in-NotArrived-2 : goal.returns-in_ok-push_name-in-NotArrived-2
returns-in_ok-push_name-in-NotArrived-2 c = reasoned (naming_of c.args.names.now) c.args.thread c.args.text.now.items _ c.in-NotArrived.is
    (two (two (start _) _ _ c.in_ok-push_name-in-NotArrived.ensures) _ _ c.in_ok-push_name-in-NotArrived-2.ensures)

pub returns-in_ok-push_number-in-Held : goal.returns-in_ok-push_number-in-Held
returns-in_ok-push_number-in-Held c = reasoned (naming_of c.args.names.now) c.args.thread c.args.text.now.items _ c.in-Held.is
    (two (two (two (start _) _ _ c.in_ok-push_name-in-Held.ensures) _ _ c.in_ok-push_name-in-Held-2.ensures) _ _ c.in_ok-push_number-in-Held.ensures.ok)

pub returns-in_ok-push_name-in-NotHeld-2 : goal.returns-in_ok-push_name-in-NotHeld-2
returns-in_ok-push_name-in-NotHeld-2 c = reasoned (naming_of c.args.names.now) c.args.thread c.args.text.now.items _ c.in-NotHeld.is
    (two (two (start _) _ _ c.in_ok-push_name-in-NotHeld.ensures) _ _ c.in_ok-push_name-in-NotHeld-2.ensures)

pub returns-in_ok-push_number-in-Known : goal.returns-in_ok-push_number-in-Known
returns-in_ok-push_number-in-Known c = reasoned (naming_of c.args.names.now) c.args.thread c.args.text.now.items _ c.in-Known.is
    (two (two (start _) _ _ c.in_ok-push_name-in-Known.ensures) _ _ c.in_ok-push_number-in-Known.ensures.ok)
