use Rattle.std.specs.Vec.Iter.{drain_items}
use Rattle.lrc_mail.proofs.Numbering.{Midway}
use Rattle.lrc_mail.proofs.mail.number_all.Given as goal

abbrev pub invariant-loop-letter : goal.invariant-loop-letter
invariant-loop-letter l =
    Midway l.me l.first l.initial.sent l.fn.letters.items l.sent l.envelopes.items (drain_items l.letter-iterator)
