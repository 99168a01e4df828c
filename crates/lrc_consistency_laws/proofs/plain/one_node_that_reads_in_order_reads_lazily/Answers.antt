use Rattle.lrc_consistency_laws.proofs.OneNode.{lazily}
use Rattle.lrc_consistency_laws.proofs.plain.one_node_that_reads_in_order_reads_lazily.Goals as goal

pub returns : goal.returns
returns c = λ run alone in_order. lazily run alone in_order
