use Rattle.std.proofs.Common.{ap, sym, ◌∙◌, rules}
use Rattle.lrc_protocol.specs.Run.{EntryRecord, taken}
use Rattle.lrc_log.specs.Input.{seen_input}
use Rattle.lrc_weave.proofs.Comparing.{turn_is}
use Rattle.lrc_weave.proofs.takes.TakesLeft.take_turn.Goals as goal

pub returns-in-Taken-clause-left : goal.returns-in-Taken-clause-left
returns-in-Taken-clause-left c =
    turn_is c.args.before _ c.args.entry.now.stamp _ c.args.entry.now.input _ _ (search rules)
    (ap taken c.deref.ensures ∙ ap seen_input (sym c.in-Taken.is) ∙ ap (λ (e : EntryRecord). e.input) c.entry.view_is) _
    c.take_message.result c.take_message.ensures.left
