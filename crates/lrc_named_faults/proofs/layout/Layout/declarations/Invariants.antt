-- What the declarations that the loop has passed declare is declared.
use Rattle.std.proofs.Common.{map, drop}
use Rattle.lrc_named_tree.specs.View.{declaration_of}
use Rattle.lrc_named_names.specs.View.{declared_of}
use Rattle.lrc_named_faults.specs.Checked.{LeadsTo}
use Rattle.lrc_named_faults.specs.Layout.{IsLaidOut}
use Rattle.lrc_named_faults.proofs.layout.Layout.declarations.Given as goal

abbrev pub invariant-loop-declaration : goal.invariant-loop-declaration
invariant-loop-declaration l = record {
  laid_out : IsLaidOut l.self;
  lead : LeadsTo l.initial.self.nodes (declared_of l.initial.self.names) (map declaration_of l.declarations) l.self.nodes (declared_of l.self.names)
      (map declaration_of (drop l.declaration-index l.declarations));
}
