use Rattle.std.proofs.Common.{◌∙◌}
use Rattle.lrc_why_chains.proofs.KnownWrites.{last_of}
use Rattle.lrc_why_chains.proofs.writes.last_write.Goals as goal

pub returns : goal.returns
returns c run position word known = last_of run position word c.args.writes.now known c.copied.result (c.copied.ensures ∙ c.last.ensures.value)
