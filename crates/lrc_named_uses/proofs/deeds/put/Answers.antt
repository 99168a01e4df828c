-- The list has one more.
use Rattle.lrc_named_statement_faults.proofs.Growing.{seen_push}
use Rattle.lrc_named_uses.specs.Deeds.{deed_seen}
use Rattle.lrc_named_uses.proofs.deeds.put.Goals as goal

pub returns : goal.returns
returns c = seen_push deed_seen c.args.deeds.now.items c.push.new.self.items c.args.deed c.in_ok-push.ensures.items
