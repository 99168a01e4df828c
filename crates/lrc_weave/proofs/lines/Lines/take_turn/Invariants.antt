use Rattle.std.proofs.Common.{true, map, take}
use Rattle.lrc_weave.specs.Matched.{sent_as}
use Rattle.lrc_weave.specs.Compared.{AreAllNext, messages_left}
use Rattle.lrc_weave.proofs.lines.Lines.take_turn.Given as goal

abbrev pub invariant-loop-envelope : goal.invariant-loop-envelope
invariant-loop-envelope l =
    AreAllNext (map (sent_as l.entry.stamp) (take l.envelope-index l.entry.turn.out)) (messages_left l.initial.self) (messages_left l.self) true
