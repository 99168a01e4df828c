use Rattle.std.proofs.Common.{◌==◌, length, map, refl, rules}
use Rattle.lrc_weave.specs.Matched.{message_of}
use Rattle.lrc_weave.specs.Compared.{messages_left}
use Rattle.lrc_weave.proofs.Lining.{empty_is, log_end, log_more, log_not}
use Rattle.lrc_weave.proofs.lines.Lines.are_sent.Goals as goal

pub returns-then-not-branch : goal.returns-then-not-branch
returns-then-not-branch c =
    log_not c.args.log.now (messages_left c.args.self.now) (messages_left c.loop-entry.self) (messages_left c.take_turn.new.self)
    c.loop-entry.entry-index c.entry-item.result c.in_ok-take_turn.field-0 (search rules) (search rules) c.loop-entry.invariant
    c.in_ok-take_turn.ensures (search rules)

pub loop-entry-preserved : goal.loop-entry-preserved
loop-entry-preserved c =
    log_more c.args.log.now (messages_left c.args.self.now) (messages_left c.loop-entry.self) (messages_left c.take_turn.new.self)
    c.loop-entry.entry-index c.entry-item.result c.in_ok-take_turn.field-0 (search rules) (search rules) c.loop-entry.invariant
    c.in_ok-take_turn.ensures (search rules)

pub returns : goal.returns
returns c =
    log_end (λ line. map (λ wire. message_of wire.now) line.now) (λ line. length line.now == 0)
    (λ line. empty_is (λ wire. message_of wire.now) line.now (length line.now == 0) refl) c.args.log.now (messages_left c.args.self.now)
    c.loop-entry.self.lines.items c.loop-entry.entry-index c.are_over.result (search rules) c.loop-entry.invariant c.are_over.ensures
