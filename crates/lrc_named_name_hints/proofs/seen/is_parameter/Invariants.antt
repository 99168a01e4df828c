-- No parameter so far has the name.
use Rattle.std.proofs.Common.{◌≡◌, false, map, take}
use Rattle.std.specs.List.{list_any}
use Rattle.lrc_named_tree.specs.View.{named_of}
use Rattle.lrc_named_name_hints.specs.Hints.{is_name}
use Rattle.lrc_named_name_hints.proofs.seen.is_parameter.Given as goal

abbrev pub invariant-loop-parameter : goal.invariant-loop-parameter
invariant-loop-parameter l = list_any (is_name l.name) (map named_of (take l.parameter-index l.seen.parameters.now)) ≡ false
