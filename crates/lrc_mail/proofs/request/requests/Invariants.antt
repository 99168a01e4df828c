use Rattle.std.proofs.Common.{◌≡◌}
use Rattle.std.specs.Prelude.{take, flat_map}
use Rattle.lrc_protocol.specs.Turn.{requests_of}
use Rattle.lrc_mail.proofs.request.requests.Given as goal

abbrev pub invariant-loop-need : goal.invariant-loop-need
invariant-loop-need l = l.letters.items ≡ flat_map requests_of (take l.need-index l.needs)
