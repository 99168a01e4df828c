-- The list has one more.
use Rattle.lrc_named_tree.specs.View.{named_of}
use Rattle.lrc_named_statement_faults.proofs.Growing.{seen_push}
use Rattle.lrc_named_index_hint.proofs.set.push.Goals as goal

pub returns : goal.returns
returns c = seen_push named_of c.args.names.now.items c.push.new.self.items c.args.name c.in_ok-push.ensures.items
