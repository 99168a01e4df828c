-- The indices so far, and those that are left.
use Rattle.std.proofs.Common.{◌≡◌, ◌≤◌, ◌++◌, map, drop}
use Rattle.lrc_named_core.specs.View.{expression_of}
use Rattle.lrc_named_names.specs.Elements.{elements}
use Rattle.lrc_named_address.specs.Address.{indices_of}
use Rattle.lrc_named_address.specs.View.{index_of}
use Rattle.lrc_named_address.proofs.element.indices.Given as goal

abbrev pub invariant-loop-i : goal.invariant-loop-i
invariant-loop-i l = record {
  stride : l.stride ≡ elements (drop l.i l.sizes);
  some : 1 ≤ l.stride;
  made : map index_of l.all.items ++ indices_of (map expression_of (drop l.i l.cores)) (drop l.i l.sizes)
      ≡ indices_of (map expression_of l.cores) l.sizes;
}
