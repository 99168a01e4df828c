-- The number is one of nodes.
use Rattle.std.proofs.Common.{sym, ◌∙◌, arith}
use Rattle.lrc_exec.specs.Nodes.{AreNodes}
use Rattle.lrc_named_names.specs.View.{declared_of}
use Rattle.lrc_named_tree.specs.View.{program_of}
use Rattle.lrc_named.proofs.Counted.{asks_nodes}
use Rattle.lrc_named.proofs.nodes.nodes_asked.Goals as goal

pub overflow_cast-result : goal.overflow_cast-result
overflow_cast-result c =
    let n : AreNodes c.in-Some.count =
    asks_nodes (program_of c.args.program.now) (declared_of c.args.layout.now.names) c.in-Some.count c.requires.declared c.requires.no_fault
    (sym c.requires.nodes ∙ c.in-Some.is) in
    let few = n.1 in
    omega (arith, few)

pub invariant_of-result : goal.invariant_of-result
invariant_of-result c =
    let n : AreNodes c.in-Some.count =
    asks_nodes (program_of c.args.program.now) (declared_of c.args.layout.now.names) c.in-Some.count c.requires.declared c.requires.no_fault
    (sym c.requires.nodes ∙ c.in-Some.is) in
    record { some = n.0; few = n.1 }
