-- The items that the loop has passed are declared.
use Rattle.std.proofs.Common.{◌≡◌, map, drop}
use Rattle.lrc_named_tree.specs.View.{place_of}
use Rattle.lrc_named_names.specs.View.{declared_of}
use Rattle.lrc_named_faults.specs.Found.{kind_of}
use Rattle.lrc_named_faults.specs.Layout.{IsLaidOut}
use Rattle.lrc_named_faults.proofs.Leading.{ItemsLead}
use Rattle.lrc_named_faults.proofs.layout.Layout.items.Given as goal

abbrev pub invariant-loop-place : goal.invariant-loop-place
invariant-loop-place l = record {
  laid_out : IsLaidOut l.self;
  nodes : l.self.nodes ≡ l.initial.self.nodes;
  lead : ItemsLead (kind_of l.kind) (declared_of l.initial.self.names) (map place_of l.places) (declared_of l.self.names)
      (map place_of (drop l.place-index l.places));
}
