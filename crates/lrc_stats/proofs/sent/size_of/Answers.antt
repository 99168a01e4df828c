use Rattle.std.proofs.Common.{rules, ◌≡◌}
use Rattle.lrc_stats.specs.Sent.{size_of}
use Rattle.lrc_stats.proofs.Sizes.{written_size}
use Rattle.lrc_stats.proofs.sent.size_of.Goals as goal

pub returns-in-Ok : goal.returns-in-Ok
returns-in-Ok c =
    let envelope = c.args.envelope.now in
    let size = written_size envelope _ c.in-Ok.ensures.written in
    let count : c.len.result ≡ size_of envelope = first_of (cc, search rules) in
    count
