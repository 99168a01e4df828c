use Rattle.lrc_orders_less.proofs.Pairs.{reaches_counted}
use Rattle.lrc_orders_less.proofs.reaches.Reaches.undisputed_node.Goals as goal

pub returns-then-is_left_out-clause-reaches : goal.returns-then-is_left_out-clause-reaches
returns-then-is_left_out-clause-reaches c =
    reaches_counted c.args.means.now.flat c.args.table.now.rows.threads.keys c.args.self.now _ c.requires.reaches

pub known_node-requires-clause-reaches : goal.known_node-requires-clause-reaches
known_node-requires-clause-reaches c =
    reaches_counted c.args.means.now.flat c.args.table.now.rows.threads.keys c.args.self.now _ c.requires.reaches

pub returns-clause-reaches : goal.returns-clause-reaches
returns-clause-reaches c =
    reaches_counted c.args.means.now.flat c.args.table.now.rows.threads.keys c.known_node.new.self _ c.in_ok-found.ensures.reaches
