use Rattle.std.proofs.Common.{rules}
use Rattle.lrc_weave.specs.Compared.{messages_left}
use Rattle.lrc_weave.proofs.Lining.{turn_more, turn_not}
use Rattle.lrc_weave.proofs.lines.Lines.take_turn.Goals as goal

pub returns-then-not-branch : goal.returns-then-not-branch
returns-then-not-branch c =
    turn_not c.args.entry.now.stamp c.args.entry.now.turn.out c.loop-envelope.envelope-index c.envelope-item.result (messages_left c.args.self.now)
    (messages_left c.loop-envelope.self) (messages_left c.take_sent.new.self) c.in_ok-take_sent.field-0 (search rules) (search rules)
    c.loop-envelope.invariant _ c.in_ok-take_sent.ensures (search rules) (search rules)

pub loop-envelope-preserved : goal.loop-envelope-preserved
loop-envelope-preserved c =
    turn_more c.args.entry.now.stamp c.args.entry.now.turn.out c.loop-envelope.envelope-index c.envelope-item.result (messages_left c.args.self.now)
    (messages_left c.loop-envelope.self) (messages_left c.take_sent.new.self) c.in_ok-take_sent.field-0 (search rules) (search rules)
    c.loop-envelope.invariant _ c.in_ok-take_sent.ensures (search rules) (search rules)
