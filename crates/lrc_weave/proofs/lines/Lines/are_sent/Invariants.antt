use Rattle.std.proofs.Common.{true, take}
use Rattle.lrc_weave.specs.Logs.{all_sent}
use Rattle.lrc_weave.specs.Compared.{AreAllNext, messages_left}
use Rattle.lrc_weave.proofs.lines.Lines.are_sent.Given as goal

abbrev pub invariant-loop-entry : goal.invariant-loop-entry
invariant-loop-entry l = AreAllNext (all_sent (take l.entry-index l.log)) (messages_left l.initial.self) (messages_left l.self) true
