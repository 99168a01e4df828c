use Rattle.std.proofs.Common.{◌≡◌, ◌++◌, take}
use Rattle.lrc_messages.specs.TurnText.{sent_texts}
use Rattle.lrc_messages.proofs.envelope.push_all_sent.Given as goal

-- the lines of the messages so far
abbrev pub invariant-loop-envelope : goal.invariant-loop-envelope
invariant-loop-envelope l = l.text.items ≡ l.initial.text.items ++ sent_texts l.node (take l.envelope-index l.out)
