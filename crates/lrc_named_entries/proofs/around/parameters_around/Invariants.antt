-- The parameters of the declarations so far.
use Rattle.std.proofs.Common.{◌≡◌, map, take}
use Rattle.std.specs.List.{flat_map}
use Rattle.lrc_named_tree.specs.View.{declaration_of, named_of}
use Rattle.lrc_named_entries.specs.Entry.{parameters_in}
use Rattle.lrc_named_entries.proofs.around.parameters_around.Given as goal

abbrev pub invariant-loop-declaration : goal.invariant-loop-declaration
invariant-loop-declaration l =
    map named_of l.names.items ≡ flat_map (parameters_in l.at) (map declaration_of (take l.declaration-index l.declarations))
