-- The number is counted.
use Rattle.lrc_named_faults.proofs.Looping.{count_taken}
use Rattle.lrc_named_faults.proofs.layout.Layout.count_nodes.Goals as goal

pub returns : goal.returns
returns c = count_taken c.args.self.now c.args.at c.args.count c.in_node_count-fault.result c.requires c.in_node_count-fault.ensures
