-- None of the declarations so far is one of `nodes`.
use Rattle.std.proofs.Common.{◌≡◌, drop, map}
use Rattle.lrc_named_tree.specs.View.{declaration_of}
use Rattle.lrc_named_entries.specs.Entry.{first_nodes}
use Rattle.lrc_named_entries.proofs.around.first_nodes.Given as goal

abbrev pub invariant-loop-declaration : goal.invariant-loop-declaration
invariant-loop-declaration l = first_nodes (map declaration_of l.declarations) ≡ first_nodes (map declaration_of (drop l.declaration-index l.declarations))
