-- The list has one more.
use Rattle.lrc_named_statement_faults.specs.Parts.{part_seen}
use Rattle.lrc_named_statement_faults.proofs.Growing.{seen_push}
use Rattle.lrc_named_statement_faults.proofs.parts.push.Goals as goal

pub returns : goal.returns
returns c = seen_push part_seen c.args.parts.now.items c.push.new.self.items c.args.part c.in_ok-push.ensures.items
