use Rattle.std.proofs.Common.{◌≡◌}
use Rattle.lrc_store.specs.Store.{intervals_of}
use Rattle.lrc_store.proofs.Newer.{by_nodes}
use Rattle.lrc_store.proofs.store.Store.newer_than.Given as goal

abbrev pub invariant-loop-node : goal.invariant-loop-node
invariant-loop-node l = l.found.items ≡ by_nodes l.since l.upto (intervals_of l.self) l.node
