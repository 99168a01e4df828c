-- The line says an event, or nothing, or is bad.
use Rattle.std.proofs.Common.{refl, sym, true≢false}
use Rattle.lrc_races_notes.proofs.SignLemmas.{bad_event, no_event}
use Rattle.lrc_races_notes.proofs.signs.is_event.Goals as goal

pub returns-in-Event : goal.returns-in-Event
returns-in-Event c = ((λ _. (_, c.in-Event.ensures)), (λ _. refl))

pub returns-in-Nothing : goal.returns-in-Nothing
returns-in-Nothing c = ((λ e. absurd (true≢false (sym e))), (λ event. absurd (no_event c.args.line.now c.in-Nothing.ensures event)))

pub returns-in-Bad : goal.returns-in-Bad
returns-in-Bad c = ((λ e. absurd (true≢false (sym e))), (λ event. absurd (bad_event c.args.line.now c.in-Bad.ensures event)))
