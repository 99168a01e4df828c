use Rattle.std.proofs.Common.{rules, ◌≡◌, length}
use Rattle.lrc_wire.specs.Spelling.{bytes_of}
use Rattle.lrc_messages.proofs.Sizes.{written_long, written_short}
use Rattle.lrc_messages.proofs.envelope.size_of.Goals as goal

pub returns-in-Ok : goal.returns-in-Ok
returns-in-Ok c =
    let envelope = c.args.envelope.now in
    let long = written_long envelope _ c.in-Ok.ensures.written in
    let short = written_short envelope _ c.in-Ok.ensures.written in
    let count : c.len.result ≡ length (bytes_of envelope) = first_of (cc, search rules) in
    (count, short)
